-- The accounts of all seats.
use Rattle.std.proofs.Common.{◌≡◌, ℕ, zero, suc, ◌+◌, ◌≤◌, ◌==◌, Bool, true, false, ◌&&◌, cond, List, [], ◌∷◌, ◌++◌, length, Option, Some, None, slice_get, refl, sym, ◌∙◌, ap, subst, arith}
use Rattle.std.specs.Prelude.{All}
use Rattle.std.proofs.lemmas.Bool.Decides.{nat_tests}
use Rattle.pcrf_model.specs.Steps.{SiteState}
use Rattle.site_book.specs.Books.{EntryValue, ReceiptValue, SeatValue, receipt_of}
use Rattle.site_book.specs.Settling.{times, EachOnce, receipts_in_all, receipts_of, Claim, claims_of, claims_from, is_above, is_of_seat, IsContent, AllStand, Settles}
use Rattle.site_lock.specs.Deeds.{Deed, ChronicleValue, calls, receipts_from, account, IsAccountOf, OfSeats, as_book}

all_rest : {X : Type 0} (P : X → Type 0) (x : X) (xs : List X) → All P (x ∷ xs) → All P xs
all_rest P x xs all k d l = all (suc k) d (omega (arith, l))

-- how many receipts the seats are to have for entries of which the first stands at place p
abbrev due : ℕ → List EntryValue → List SeatValue → ℕ
due p h [] = 0
due p h (s ∷ ss) = length (receipts_from s.number p h) + due p h ss

due_none : (p : ℕ) (ss : List SeatValue) → due p [] ss ≡ 0
due_none p [] = refl
due_none p (s ∷ ss) = omega (arith, due_none p ss)

one_of : (b : Bool) (r : ReceiptValue) (rs : List ReceiptValue) → length (cond b (r ∷ rs) rs) ≡ cond b 1 0 + length rs
one_of true r rs = omega arith
one_of false r rs = omega arith

due_one : (p : ℕ) (x : EntryValue) (h : List EntryValue) (ss : List SeatValue) → due p (x ∷ h) ss ≡ times x.seat ss + due (suc p) h ss
due_one p x h [] = refl
due_one p x h (s ∷ ss) = omega (arith, one_of (s.number == x.seat) (receipt_of p x.event x.reply) (receipts_from s.number (suc p) h), due_one p x h ss)

due_all : (n p : ℕ) (h : List EntryValue) (ss : List SeatValue) → OfSeats n h → EachOnce n ss → due p h ss ≡ length h
due_all n p [] ss of once = due_none p ss
due_all n p (x ∷ h) ss of once = omega (arith, due_one p x h ss, once x.seat of.0, due_all n (suc p) h ss of.1 once)

all_due : (n : ℕ) (h : List Deed) (ss : List SeatValue) → All (IsAccountOf n h) ss → receipts_in_all ss ≡ due 0 (calls h) ss
all_due n h [] all = refl
all_due n h (s ∷ ss) all =
    let here : s.receipts ≡ account s.number h = (all 0 s (omega arith)).1 in
    let rest = all_due n h ss (all_rest (IsAccountOf n h) s ss all) in
    omega (arith, ap length here, rest)

-- what is before stands above no place from p on
abbrev Below : Option ℕ → ℕ → Type 0
Below before p = (j : ℕ) → p ≤ j → is_above before j ≡ true

below_more : (p : ℕ) → Below (Some p) (suc p)
below_more p j l = grind (arith, nat_tests, l)

placed : (above of : Bool) → above ≡ true → of ≡ true → above && of ≡ true
placed true true a o = refl
placed true false a o = o
placed false of a o = a

-- so does one entry more, if it is the seat's
stand_by : (b : Bool) (whole : List EntryValue) (k p : ℕ) (before : Option ℕ) (x : EntryValue) (h : List EntryValue) → (k == x.seat) ≡ b → Below before p → slice_get whole p ≡ Some x
    → ((o : Option ℕ) → Below o (suc p) → AllStand whole (claims_of k o (receipts_from k (suc p) h)))
    → AllStand whole (claims_of k before (cond b (receipt_of p x.event x.reply ∷ receipts_from k (suc p) h) (receipts_from k (suc p) h)))
stand_by true whole k p before x h is low here rest =
    let seat : (x.seat == k) ≡ true = grind (arith, nat_tests, is) in
    let of : is_of_seat k (slice_get whole p) ≡ true = ap (is_of_seat k) here ∙ seat in
    let content : IsContent (receipt_of p x.event x.reply) (slice_get whole p) = subst (IsContent (receipt_of p x.event x.reply)) (sym here) (refl, refl) in
    ((placed (is_above before p) (is_of_seat k (slice_get whole p)) (low p (omega arith)) of, content), rest (Some p) (below_more p))
stand_by false whole k p before x h is low here rest = rest before (λ j l. low j (omega (arith, l)))

-- the entries of a seat from place p on stand
stand_from : (whole : List EntryValue) (k p : ℕ) (before : Option ℕ) (h : List EntryValue) → Below before p → ((i : ℕ) → slice_get whole (p + i) ≡ slice_get h i) → AllStand whole (claims_of k before (receipts_from k p h))
stand_from whole k p before [] low at = tt
stand_from whole k p before (x ∷ h) low at =
    let rest : (i : ℕ) → slice_get whole (suc p + i) ≡ slice_get h i = λ i. (let e : suc p + i ≡ p + suc i = omega arith in ap (slice_get whole) e ∙ at (suc i)) in
    let here : slice_get whole p ≡ Some x = (let e : p ≡ p + 0 = omega arith in ap (slice_get whole) e ∙ at 0) in
    stand_by (k == x.seat) whole k p before x h refl low here (λ o m. stand_from whole k (suc p) o h m rest)

-- the receipts of the seat of a number
found_by : (b : Bool) (n k : ℕ) (h : List Deed) (s : SeatValue) (ss : List SeatValue) → (s.number == k) ≡ b → s.receipts ≡ account s.number h → cond b 1 0 + times k ss ≡ 1
    → (times k ss ≡ 1 → receipts_of k ss ≡ account k h) → cond b s.receipts (receipts_of k ss) ≡ account k h
found_by true n k h s ss is own once rest =
    let same : s.number ≡ k = grind (arith, nat_tests, is) in
    own ∙ ap (λ j. account j h) same
found_by false n k h s ss is own once rest = rest (omega (arith, once))

found : (n k : ℕ) (h : List Deed) (ss : List SeatValue) → All (IsAccountOf n h) ss → times k ss ≡ 1 → receipts_of k ss ≡ account k h
found n k h [] all once = absurd (cc)
found n k h (s ∷ ss) all once = found_by (s.number == k) n k h s ss refl (all 0 s (omega arith)).1 once (found n k h ss (all_rest (IsAccountOf n h) s ss all))

both_stand : (h : List EntryValue) (cs ds : List Claim) → AllStand h cs → AllStand h ds → AllStand h (cs ++ ds)
both_stand h [] ds first second = second
both_stand h (c ∷ cs) ds first second = (first.0, both_stand h cs ds first.1 second)

all_stand : (n k seats : ℕ) (h : List Deed) (ss : List SeatValue) → k + n ≡ seats → All (IsAccountOf seats h) ss → EachOnce seats ss → AllStand (calls h) (claims_from n k ss)
all_stand zero k seats h ss sum all once = tt
all_stand (suc n) k seats h ss sum all once =
    let at : receipts_of k ss ≡ account k h = found seats k h ss all (once k (omega (arith, sum))) in
    let own : AllStand (calls h) (claims_of k None (account k h)) = stand_from (calls h) k 0 None (calls h) (λ j l. refl) (λ i. let e : 0 + i ≡ i = omega arith in ap (slice_get (calls h)) e) in
    let P : List ReceiptValue → Type 0 = λ rs. AllStand (calls h) (claims_of k None rs) in
    both_stand (calls h) (claims_of k None (receipts_of k ss)) (claims_from n (suc k) ss) (subst P (sym at) own) (all_stand n (suc k) seats h ss (omega (arith, sum)) all once)

-- where each seat has just a receipt for each of its entries, and the seats are all, the book that was not kept settles
pub accounts_settle : (n : ℕ) (opening : SiteState) (c : ChronicleValue) (ss : List SeatValue) → OfSeats n (calls c.history) → All (IsAccountOf n c.history) ss → length ss ≡ n → EachOnce n ss → Settles (as_book n opening c) ss
accounts_settle n opening c ss of all count once =
    record {
      complete = record { count = count; once = once; calls = all_due n c.history ss all ∙ due_all n 0 (calls c.history) ss of once };
      stand = all_stand n 0 n c.history ss (omega arith) all once;
    }
