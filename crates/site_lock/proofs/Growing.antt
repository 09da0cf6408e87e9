-- Histories that grow.
use Rattle.std.proofs.Common.{◌≡◌, ℕ, zero, suc, ◌+◌, ◌-◌, ◌^◌, ◌<◌, ◌==◌, min, Bool, true, false, cond, List, [], ◌∷◌, ◌++◌, length, length-append, slice_index_or, slice_set, refl, sym, ◌∙◌, ap, subst, arith}
use Rattle.std.proofs.lemmas.Bool.Decides.{nat_tests}
use Rattle.std.proofs.lemmas.List.{length-set}
use Rattle.site_lock.specs.declared.notes.Original.{Original}
use Rattle.site_lock.specs.declared.notes.Duplicate.{Duplicate}
use Rattle.pcrf_model.specs.Sessions.{Session}
use Rattle.pcrf_model.specs.Tables.{Tables}
use Rattle.pcrf_model.specs.Steps.{SiteState}
use Rattle.site_machine.specs.Sites.{SiteValue, SiteMayReply, after_event, site_without}
use Rattle.site_machine.specs.Forgotten.{has_ended}
use Rattle.site_book.specs.Books.{EntryValue, ReceiptValue, receipt_of}
use Rattle.site_lock.specs.Deeds.{Deed, Entered, BegunAnew, Forgot, KeptValue, MayDo, after, Runs, calls, beginnings_from, beginnings, forgotten_in, receipts_from, account, OfSeats, site_begun_anew}
use Rattle.site_lock.specs.Sound.{IsSound, IsChair}
use Rattle.site_lock.proofs.Counting.{count_more}

-- one deed more
runs_more : (t : Tables) (i : ℕ) (s z : SiteState) (ds : List Deed) (d : Deed) → Runs t i s ds z → MayDo t i z d → Runs t i s (ds ++ d ∷ []) (after t i z d)
runs_more t i s z [] d same may = (let P : SiteState → Type 0 = λ q. MayDo t i q d in subst P (sym same) may, ap (λ q. after t i q d) same)
runs_more t i s z (x ∷ ds) d runs may = (runs.0, runs_more t i (after t i s x) z ds d runs.1 may)

-- a call more, and a new beginning more
calls_more : (ds : List Deed) (x : EntryValue) → calls (ds ++ Entered x ∷ []) ≡ calls ds ++ x ∷ []
calls_more [] x = refl
calls_more (Entered y ∷ ds) x = ap (λ (xs : List EntryValue). y ∷ xs) (calls_more ds x)
calls_more (BegunAnew ∷ ds) x = calls_more ds x
calls_more (Forgot r ∷ ds) x = calls_more ds x

calls_begun : (ds : List Deed) → calls (ds ++ BegunAnew ∷ []) ≡ calls ds
calls_begun [] = refl
calls_begun (Entered y ∷ ds) = ap (λ (xs : List EntryValue). y ∷ xs) (calls_begun ds)
calls_begun (BegunAnew ∷ ds) = calls_begun ds
calls_begun (Forgot r ∷ ds) = calls_begun ds

calls_forgot : (ds : List Deed) (f : Session) → calls (ds ++ Forgot f ∷ []) ≡ calls ds
calls_forgot [] f = refl
calls_forgot (Entered y ∷ ds) f = ap (λ (xs : List EntryValue). y ∷ xs) (calls_forgot ds f)
calls_forgot (BegunAnew ∷ ds) f = calls_forgot ds f
calls_forgot (Forgot r ∷ ds) f = calls_forgot ds f

beginnings_called : (p : ℕ) (ds : List Deed) (x : EntryValue) → beginnings_from p (ds ++ Entered x ∷ []) ≡ beginnings_from p ds
beginnings_called p [] x = refl
beginnings_called p (Entered y ∷ ds) x = beginnings_called (suc p) ds x
beginnings_called p (BegunAnew ∷ ds) x = ap (λ (ns : List ℕ). p ∷ ns) (beginnings_called p ds x)
beginnings_called p (Forgot r ∷ ds) x = beginnings_called p ds x

beginnings_forgot : (p : ℕ) (ds : List Deed) (f : Session) → beginnings_from p (ds ++ Forgot f ∷ []) ≡ beginnings_from p ds
beginnings_forgot p [] f = refl
beginnings_forgot p (Entered y ∷ ds) f = beginnings_forgot (suc p) ds f
beginnings_forgot p (BegunAnew ∷ ds) f = ap (λ (ns : List ℕ). p ∷ ns) (beginnings_forgot p ds f)
beginnings_forgot p (Forgot r ∷ ds) f = beginnings_forgot p ds f

-- what was forgotten with a deed more
forgotten_called : (ds : List Deed) (x : EntryValue) → forgotten_in (ds ++ Entered x ∷ []) ≡ forgotten_in ds
forgotten_called [] x = refl
forgotten_called (Entered y ∷ ds) x = forgotten_called ds x
forgotten_called (BegunAnew ∷ ds) x = forgotten_called ds x
forgotten_called (Forgot r ∷ ds) x = ap (λ (rs : List Session). r ∷ rs) (forgotten_called ds x)

forgotten_begun : (ds : List Deed) → forgotten_in (ds ++ BegunAnew ∷ []) ≡ forgotten_in ds
forgotten_begun [] = refl
forgotten_begun (Entered y ∷ ds) = forgotten_begun ds
forgotten_begun (BegunAnew ∷ ds) = forgotten_begun ds
forgotten_begun (Forgot r ∷ ds) = ap (λ (rs : List Session). r ∷ rs) (forgotten_begun ds)

forgotten_more : (ds : List Deed) (f : Session) → forgotten_in (ds ++ Forgot f ∷ []) ≡ forgotten_in ds ++ f ∷ []
forgotten_more [] f = refl
forgotten_more (Entered y ∷ ds) f = forgotten_more ds f
forgotten_more (BegunAnew ∷ ds) f = forgotten_more ds f
forgotten_more (Forgot r ∷ ds) f = ap (λ (rs : List Session). r ∷ rs) (forgotten_more ds f)

beginnings_more : (p : ℕ) (ds : List Deed) → beginnings_from p (ds ++ BegunAnew ∷ []) ≡ beginnings_from p ds ++ (p + length (calls ds)) ∷ []
beginnings_more p [] = let e : p ≡ p + 0 = omega arith in ap (λ n. n ∷ []) e
beginnings_more p (Entered y ∷ ds) =
    let e : suc p + length (calls ds) ≡ p + suc (length (calls ds)) = omega arith in
    beginnings_more (suc p) ds ∙ ap (λ n. beginnings_from (suc p) ds ++ n ∷ []) e
beginnings_more p (BegunAnew ∷ ds) = ap (λ (ns : List ℕ). p ∷ ns) (beginnings_more p ds)
beginnings_more p (Forgot r ∷ ds) = beginnings_more p ds

-- a receipt more behind, whether or not there is one before
by_test : (b : Bool) (r : ReceiptValue) (xs ys : List ReceiptValue) (s : ReceiptValue) → xs ≡ ys ++ s ∷ [] → cond b (r ∷ xs) xs ≡ cond b (r ∷ ys) ys ++ s ∷ []
by_test true r xs ys s same = ap (λ zs. r ∷ zs) same
by_test false r xs ys s same = same

-- the receipts of the seat that called, and of another
own_more : (p : ℕ) (xs : List EntryValue) (x : EntryValue) → receipts_from x.seat p (xs ++ x ∷ []) ≡ receipts_from x.seat p xs ++ receipt_of (p + length xs) x.event x.reply ∷ []
own_more p [] x =
    let yes : (x.seat == x.seat) ≡ true = grind (arith, nat_tests) in
    let at : p + 0 ≡ p = omega arith in
    rw (yes, at) refl
own_more p (y ∷ xs) x =
    let k : ℕ = x.seat in
    let at : suc p + length xs ≡ p + suc (length xs) = omega arith in
    let rest = own_more (suc p) xs x ∙ ap (λ n. receipts_from k (suc p) xs ++ receipt_of n x.event x.reply ∷ []) at in
    by_test (k == y.seat) (receipt_of p y.event y.reply) (receipts_from k (suc p) (xs ++ x ∷ [])) (receipts_from k (suc p) xs) (receipt_of (p + suc (length xs)) x.event x.reply) rest

other_more : (j p : ℕ) (xs : List EntryValue) (x : EntryValue) → (j ≡ x.seat → ⊥) → receipts_from j p (xs ++ x ∷ []) ≡ receipts_from j p xs
other_more j p [] x apart =
    let no : (j == x.seat) ≡ false = grind (arith, nat_tests, apart) in
    rw no refl
other_more j p (y ∷ xs) x apart =
    let rest = other_more j (suc p) xs x apart in
    ap (λ zs. cond (j == y.seat) (receipt_of p y.event y.reply ∷ zs) zs) rest

seats_more : (n : ℕ) (xs : List EntryValue) (x : EntryValue) → x.seat < n → OfSeats n xs → OfSeats n (xs ++ x ∷ [])
seats_more n [] x lt all = (lt, tt)
seats_more n (y ∷ xs) x lt all = (all.0, seats_more n xs x lt all.1)

-- what is so of each item is so after a write of one
at_set : {X : Type 0} (P : ℕ → X → Type 0) (xs : List X) (k : ℕ) (x : X) → k < length xs → P k x → ((j : ℕ) (d : X) → j < length xs → (j ≡ k → ⊥) → P j (slice_index_or xs j d))
    → (j : ℕ) (d : X) → j < length xs → P j (slice_index_or (slice_set xs k x) j d)
at_set P [] k x lt here others j d l = absurd (omega (arith, lt))
at_set P (y ∷ ys) zero x lt here others zero d l = here
at_set P (y ∷ ys) zero x lt here others (suc j) d l = others (suc j) d l (λ e. omega (arith, e))
at_set P (y ∷ ys) (suc k) x lt here others zero d l = others zero d l (λ e. omega (arith, e))
at_set P (y ∷ ys) (suc k) x lt here others (suc j) d l =
    at_set (λ n. P (suc n)) ys k x (omega (arith, lt)) here (λ i e m apart. others (suc i) e (omega (arith, m)) (λ q. apart (omega (arith, q)))) j d (omega (arith, l))

-- one call more
pub sound_called : (name : ℕ → ℕ) (seats keeper : ℕ) (opening : SiteState) (site left : SiteValue) (n m times : ℕ) (h h' : Original (List Deed)) (b b' : Duplicate (List Deed)) (cs : List (Original (List ReceiptValue))) (o : Original KeptValue) (x : EntryValue) (c : Original (List ReceiptValue))
    → IsSound name seats keeper opening site n times h b cs o → x.seat < seats → SiteMayReply site x.event x.reply → left ≡ after_event site x.event x.reply
    → m ≡ min (n + 1) (2 ^ 64 - 1) → h'.note ≡ h.note ++ Entered x ∷ [] → b'.name ≡ h'.name
    → c.name ≡ name x.seat → c.note ≡ account x.seat h.note ++ receipt_of (length (calls h.note)) x.event x.reply ∷ []
    → IsSound name seats keeper opening left m times h' b' (slice_set cs x.seat c) o
sound_called name seats keeper opening site left n m times h h' b b' cs o x c sound lt may leaves raised grown named chair received =
    let k : ℕ = x.seat in
    let inside : k < length cs = omega (arith, lt, sound.many) in
    let as_many : length (slice_set cs k c) ≡ length cs = length-set cs k c in
    let H : List Deed = h.note ++ Entered x ∷ [] in
    let entries : calls H ≡ calls h.note ++ x ∷ [] = calls_more h.note x in
    let one_more : length (calls H) ≡ length (calls h.note) + 1 = ap length entries ∙ length-append (calls h.note) (x ∷ []) in
    let at : 0 + length (calls h.note) ≡ length (calls h.note) = omega arith in
    let own : account k H ≡ account k h.note ++ receipt_of (length (calls h.note)) x.event x.reply ∷ [] =
    ap (receipts_from k 0) entries ∙ own_more 0 (calls h.note) x ∙ ap (λ n. account k h.note ++ receipt_of n x.event x.reply ∷ []) at in
    let here : IsChair name H k c = (chair, received ∙ sym own) in
    let others : (j : ℕ) (d : Original (List ReceiptValue)) → j < length cs → (j ≡ k → ⊥) → IsChair name H j (slice_index_or cs j d) =
    λ j d l apart. (let was = sound.chairs_are j d l in (was.0, was.1 ∙ sym (ap (receipts_from j 0) entries ∙ other_more j 0 (calls h.note) x apart))) in
    record {
      kept = sound.kept;
      replays = rw (grown, leaves) (runs_more site.tables site.number opening site.state h.note (Entered x) sound.replays may);
      counted = rw grown (count_more n m (length (calls h.note)) (length (calls H)) sound.counted one_more raised);
      one_note = named;
      many = as_many ∙ sound.many;
      chairs_are = λ j d l. rw grown (at_set (IsChair name H) cs k c inside here others j d (omega (arith, l, as_many)));
      seated = rw (grown, entries) (seats_more seats (calls h.note) x lt sound.seated);
      keeper_is = sound.keeper_is;
      begun_are = rw grown (sound.begun_are ∙ sym (λ i. record { beginnings = beginnings_called 0 h.note x i; forgot = forgotten_called h.note x i }));
      times_are = sound.times_are;
    }

-- one new beginning more
pub sound_begun : (name : ℕ → ℕ) (seats keeper : ℕ) (opening : SiteState) (site left : SiteValue) (n times more : ℕ) (h h' : Original (List Deed)) (b b' : Duplicate (List Deed)) (cs : List (Original (List ReceiptValue))) (o o' : Original KeptValue)
    → IsSound name seats keeper opening site n times h b cs o → left ≡ site_begun_anew site → more ≡ length o.note.beginnings + 1
    → h'.note ≡ h.note ++ BegunAnew ∷ [] → b'.name ≡ h'.name → o'.name ≡ keeper → o'.note ≡ record { beginnings = beginnings h.note ++ length (calls h.note) ∷ []; forgot = forgotten_in h.note }
    → IsSound name seats keeper opening left n more h' b' cs o'
sound_begun name seats keeper opening site left n times more h h' b b' cs o o' sound leaves raised grown named is begun =
    let H : List Deed = h.note ++ BegunAnew ∷ [] in
    let entries : calls H ≡ calls h.note = calls_begun h.note in
    let at : 0 + length (calls h.note) ≡ length (calls h.note) = omega arith in
    let all : beginnings H ≡ beginnings h.note ++ length (calls h.note) ∷ [] = beginnings_more 0 h.note ∙ ap (λ n. beginnings h.note ++ n ∷ []) at in
    record {
      kept = sound.kept;
      replays = rw (grown, leaves) (runs_more site.tables site.number opening site.state h.note BegunAnew sound.replays tt);
      counted = rw (grown, entries) sound.counted;
      one_note = named;
      many = sound.many;
      chairs_are = λ j d l. (let was = sound.chairs_are j d l in (was.0, rw grown (was.1 ∙ sym (ap (receipts_from j 0) entries))));
      seated = rw (grown, entries) sound.seated;
      keeper_is = is;
      begun_are = rw grown (begun ∙ sym (λ i. record { beginnings = all i; forgot = forgotten_begun h.note i }));
      times_are = raised ∙ ap (λ (k : KeptValue). length k.beginnings + 1) sound.begun_are ∙ sym (ap (λ (k : KeptValue). length k.beginnings) begun ∙ length-append (beginnings h.note) (length (calls h.note) ∷ []));
    }

-- one session forgotten more
pub sound_forgot : (name : ℕ → ℕ) (seats keeper : ℕ) (opening : SiteState) (site left : SiteValue) (n times : ℕ) (h h' : Original (List Deed)) (b b' : Duplicate (List Deed)) (cs : List (Original (List ReceiptValue))) (o o' : Original KeptValue) (r : Session)
    → IsSound name seats keeper opening site n times h b cs o → has_ended site.state.holding r ≡ true → left ≡ site_without site r
    → h'.note ≡ h.note ++ Forgot r ∷ [] → b'.name ≡ h'.name → o'.name ≡ keeper → o'.note ≡ record { beginnings = beginnings h.note; forgot = forgotten_in h.note ++ r ∷ [] }
    → IsSound name seats keeper opening left n times h' b' cs o'
sound_forgot name seats keeper opening site left n times h h' b b' cs o o' r sound ended leaves grown named is kept =
    let H : List Deed = h.note ++ Forgot r ∷ [] in
    let entries : calls H ≡ calls h.note = calls_forgot h.note r in
    record {
      kept = sound.kept;
      replays = rw (grown, leaves) (runs_more site.tables site.number opening site.state h.note (Forgot r) sound.replays ended);
      counted = rw (grown, entries) sound.counted;
      one_note = named;
      many = sound.many;
      chairs_are = λ j d l. (let was = sound.chairs_are j d l in (was.0, rw grown (was.1 ∙ sym (ap (receipts_from j 0) entries))));
      seated = rw (grown, entries) sound.seated;
      keeper_is = is;
      begun_are = rw grown (kept ∙ sym (λ i. record { beginnings = beginnings_forgot 0 h.note r i; forgot = forgotten_more h.note r i }));
      times_are = sound.times_are ∙ ap (λ (k : KeptValue). length k.beginnings) sound.begun_are ∙ sym (ap (λ (k : KeptValue). length k.beginnings) kept);
    }
