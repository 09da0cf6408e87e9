-- The notes of new seats.
use Rattle.std.proofs.Common.{◌≡◌, ℕ, zero, suc, ◌<◌, List, [], ◌∷◌, ◌++◌, map, length, slice_index, slice_index_or, refl, sym, ◌∙◌, ap, subst, arith}
use Rattle.std.specs.Prelude.{All}
use Rattle.std.proofs.lemmas.List.{length-map}
use Rattle.site_lock.specs.declared.notes.Original.{Original}
use Rattle.site_lock.specs.declared.notes.Duplicate.{Duplicate}
use Rattle.pcrf_model.specs.Holdings.{kept_of}
use Rattle.pcrf_model.specs.Steps.{SiteState}
use Rattle.site_machine.specs.Sites.{SiteValue}
use Rattle.site_book.specs.Books.{ReceiptValue}
use Rattle.site_lock.specs.Deeds.{Deed, KeptValue, LeadsTo}
use Rattle.site_lock.specs.Sound.{AreBlank, IsBlank, AreNames, AreSeatNotes, IsSound}

-- the notes of one seat more
pub blank_more : (cs : List (Original (List ReceiptValue))) (ds : List (Duplicate (List ReceiptValue))) (c : Original (List ReceiptValue)) (d : Duplicate (List ReceiptValue))
    → AreBlank cs ds → d.name ≡ c.name → c.note ≡ [] → d.note ≡ [] → AreBlank (cs ++ c ∷ []) (ds ++ d ∷ [])
blank_more [] [] c d all named chair note = (named, chair, note, tt)
blank_more [] (e ∷ ds) c d all named chair note = absurd all
blank_more (b ∷ cs) [] c d all named chair note = absurd all
blank_more (b ∷ cs) (e ∷ ds) c d all named chair note = (all.0, all.1, all.2, blank_more cs ds c d all.3 named chair note)

pub blank_length : (cs : List (Original (List ReceiptValue))) (ds : List (Duplicate (List ReceiptValue))) → AreBlank cs ds → length ds ≡ length cs
blank_length [] [] all = refl
blank_length [] (e ∷ ds) all = absurd all
blank_length (b ∷ cs) [] all = absurd all
blank_length (b ∷ cs) (e ∷ ds) all = ap suc (blank_length cs ds all.3)

abbrev pub names_of : List (Original (List ReceiptValue)) → List ℕ
names_of cs = map (λ c. c.name) cs

-- each is under its name, and empty
pub blank_chairs : (name : ℕ → ℕ) (cs : List (Original (List ReceiptValue))) (ds : List (Duplicate (List ReceiptValue))) → AreBlank cs ds → ((k : ℕ) → k < length cs → slice_index (names_of cs) k ≡ name k)
    → (k : ℕ) (o : Original (List ReceiptValue)) → k < length cs → ((slice_index_or cs k o).name ≡ name k) × ((slice_index_or cs k o).note ≡ [])
blank_chairs name [] ds all named k o lt = absurd (omega (arith, lt))
blank_chairs name (c ∷ cs) [] all named k o lt = absurd all
blank_chairs name (c ∷ cs) (d ∷ ds) all named zero o lt = (named 0 lt, all.1)
blank_chairs name (c ∷ cs) (d ∷ ds) all named (suc k) o lt = blank_chairs (λ n. name (suc n)) cs ds all.3 (λ j l. named (suc j) (omega (arith, l))) k o (omega (arith, lt))

pub blank_notes : (name : ℕ → ℕ) (cs : List (Original (List ReceiptValue))) (ds : List (Duplicate (List ReceiptValue))) → AreBlank cs ds → ((k : ℕ) → k < length cs → slice_index (names_of cs) k ≡ name k)
    → (k : ℕ) (o : Duplicate (List ReceiptValue)) → k < length ds → ((slice_index_or ds k o).name ≡ name k) × ((slice_index_or ds k o).note ≡ [])
blank_notes name [] [] all named k o lt = absurd (omega (arith, lt))
blank_notes name [] (d ∷ ds) all named k o lt = absurd all
blank_notes name (c ∷ cs) [] all named k o lt = absurd all
blank_notes name (c ∷ cs) (d ∷ ds) all named zero o lt = (all.0 ∙ named 0 (omega (arith, lt)), all.2)
blank_notes name (c ∷ cs) (d ∷ ds) all named (suc k) o lt = blank_notes (λ n. name (suc n)) cs ds all.3 (λ j l. named (suc j) (omega (arith, l))) k o (omega (arith, lt))

-- the item after the first ones
pub item_after : {X : Type 0} (xs ys : List X) (y d : X) → slice_index_or (xs ++ y ∷ ys) (length xs) d ≡ y
item_after [] ys y d = refl
item_after (x ∷ xs) ys y d = item_after xs ys y d

pub counted : (seats : ℕ) (cs : List (Original (List ReceiptValue))) (ds : List (Duplicate (List ReceiptValue))) → AreBlank cs ds → length (names_of cs) ≡ seats → (length cs ≡ seats) × (length ds ≡ seats)
counted seats cs ds all many =
    let chairs : length cs ≡ seats = sym (length-map cs (λ c. c.name)) ∙ many in
    (chairs, blank_length cs ds all ∙ chairs)

pub named_notes : (name : ℕ → ℕ) (seats : ℕ) (cs : List (Original (List ReceiptValue))) (ds : List (Duplicate (List ReceiptValue))) → AreBlank cs ds → AreNames name seats (names_of cs) → AreSeatNotes name ds
named_notes name seats cs ds all names =
    let many = counted seats cs ds all names.0 in
    blank_notes name cs ds all (λ k l. names.1 k (omega (arith, l, many.0)))

-- a history that begins
pub opened : (name : ℕ → ℕ) (seats keeper : ℕ) (opening : SiteState) (site : SiteValue) (h : Original (List Deed)) (b : Duplicate (List Deed)) (cs : List (Original (List ReceiptValue))) (ds : List (Duplicate (List ReceiptValue))) (o : Original KeptValue) (e : Duplicate KeptValue)
    → AreBlank cs ds → IsBlank o e → AreNames name seats (names_of cs) → o.name ≡ keeper → site.state ≡ opening → kept_of site.state.holding ≡ site.state.holding → h.note ≡ [] → b.name ≡ h.name
    → IsSound name seats keeper opening site 0 0 h b cs o
opened name seats keeper opening site h b cs ds o e all one names is begins kept empty same =
    let many = counted seats cs ds all names.0 in
    let H : List Deed = [] in
    let leads : LeadsTo opening H site = sym begins in
    record {
      kept = subst (λ (s : SiteState). kept_of s.holding ≡ s.holding) begins kept;
      replays = rw empty leads;
      counted = rw empty refl;
      one_note = same;
      many = many.0;
      chairs_are = λ k d l. (let c = blank_chairs name cs ds all (λ j m. names.1 j (omega (arith, m, many.0))) k d l in (c.0, rw empty c.1));
      seated = rw empty tt;
      keeper_is = is;
      begun_are = rw empty one.1;
      times_are = rw one.1 refl;
    }

-- what is so of an item is so of each of a list of one
pub all_one : {X : Type 0} (P : X → Type 0) (x : X) → P x → All P (x ∷ [])
all_one P x here zero d l = here
all_one P x here (suc k) d l = absurd (omega (arith, l))
