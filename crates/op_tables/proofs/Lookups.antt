-- What maps of rows that differ pairwise have at a key.
use Rattle.std.proofs.Common.{◌≡◌, ℕ, Bool, true, false, cond, List, [], ◌∷◌, ◌++◌, Option, Some, None, is_some, refl, ap, sym, ◌∙◌, Ordering, nat_cmp, is_eq, append_assoc, append-nil, arith}
use Rattle.std.specs.Prelude.{⊤, ◌==◌, find, option_map}
use Rattle.std.specs.List.{list_any}
use Rattle.std.specs.Option.{option_or}
use Rattle.std.specs.Cmp.{IsTotalOrder, nat_cmp_total}
use Rattle.std.specs.Map.{lookup}
use Rattle.std.specs.BTreeMap.{is_at}
use Rattle.std.proofs.lemmas.Bool.Decides.{nat_tests}
use Rattle.pcrf_model.specs.Tables.{Class}
use Rattle.toml.specs.Data.{Data}
use Rattle.op_tables.specs.Meaning.{by_key}
use Rattle.op_tables.proofs.Maps.{by_key-push, equal_if, reversed, lookup-insert_entry, taken}

none_if : {Y : Type 0} (o : Option Y) → is_some o ≡ false → o ≡ None
none_if None h = refl
none_if (Some y) h = absurd (cc)

or_none : {Y : Type 0} (o : Option Y) → o ≡ option_or o None
or_none None = refl
or_none (Some y) = refl

-- the rows differ from each other, and from those above
abbrev pub Differ : {K : Type 0} → (K → K → Ordering) → (Data → K) → List Data → List Data → Type 0
Differ cmp key above [] = ⊤
Differ cmp key above (row ∷ rows) = (list_any (λ other. is_eq (cmp (key row) (key other))) above ≡ false) × Differ cmp key (above ++ row ∷ []) rows

found_or : {Y : Type 0} (b : Bool) (y : Y) (o rest : Option Y) → (b ≡ true → o ≡ None) → option_or (cond b (Some y) o) rest ≡ option_or o (cond b (Some y) rest)
found_or true y o rest apart = rw (apart refl)
found_or false y o rest apart = refl

mapped : {X : Type 0} (b : Bool) (of : Data → X) (row : Data) (rest : Option Data) → option_map of (cond b (Some row) rest) ≡ cond b (Some (of row)) (option_map of rest)
mapped true of row rest = refl
mapped false of row rest = refl

pub lookup-from : {K X : Type 0} {cmp : K → K → Ordering} → IsTotalOrder cmp → (key : Data → K) (of : Data → X) (q : K) (above rows : List Data) → Differ cmp key above rows
    → lookup (is_at (cmp q)) (by_key cmp key of (above ++ rows)) ≡ option_or (lookup (is_at (cmp q)) (by_key cmp key of above)) (option_map of (find (λ row. is_eq (cmp q (key row))) rows))
lookup-from {K} {X} {cmp} total key of q above [] apart =
    ap (λ (rows : List Data). lookup (is_at (cmp q)) (by_key cmp key of rows)) (append-nil above) ∙ or_none (lookup (is_at (cmp q)) (by_key cmp key of above))
lookup-from {K} {X} {cmp} total key of q above (row ∷ rows) apart =
    let es = by_key cmp key of above in
    let here = is_eq (cmp q (key row)) in
    let rest = find (λ r. is_eq (cmp q (key r))) rows in
    let new : here ≡ true → lookup (is_at (cmp q)) es ≡ None = λ h. none_if (lookup (is_at (cmp q)) es)
    (taken total key of q above
    ∙ ap (λ (p : Data → Bool). list_any p above) (λ i other. is_eq (total.congr q (key row) (key other) (equal_if (cmp q (key row)) h) i))
    ∙ apart.0) in
    ap (λ (rs : List Data). lookup (is_at (cmp q)) (by_key cmp key of rs)) (sym (append_assoc above (row ∷ []) rows))
    ∙ lookup-from total key of q (above ++ row ∷ []) rows apart.1
    ∙ ap (λ (o : Option X). option_or o (option_map of rest))
    (ap (lookup (is_at (cmp q))) (by_key-push cmp key of above row) ∙ lookup-insert_entry total q (key row) (of row) es)
    ∙ found_or here (of row) (lookup (is_at (cmp q)) es) (option_map of rest) new
    ∙ ap (option_or (lookup (is_at (cmp q)) es)) (sym (mapped here of row rest))

-- ---- looked up from either side

turned : {K : Type 0} {cmp : K → K → Ordering} → IsTotalOrder cmp → (x y : K) → is_eq (cmp x y) ≡ is_eq (cmp y x)
turned {K} {cmp} total x y = ap is_eq (total.antisymm x y) ∙ reversed (cmp y x)

pub find_turned : {K : Type 0} {cmp : K → K → Ordering} → IsTotalOrder cmp → (key : Data → K) (q : K) (rows : List Data) → find (λ row. is_eq (cmp q (key row))) rows ≡ find (λ row. is_eq (cmp (key row) q)) rows
find_turned total key q rows = ap (λ (p : Data → Bool). find p rows) (λ i row. turned total q (key row) i)

value_of : {K X : Type 0} (b : Bool) (e : K × X) (rest : Option (K × X)) → cond b (Some e.1) (option_map (λ (r : K × X). r.1) rest) ≡ option_map (λ (r : K × X). r.1) (cond b (Some e) rest)
value_of true e rest = refl
value_of false e rest = refl

-- a look-up in a map is one among its entries
pub lookup_find : {K X : Type 0} {cmp : K → K → Ordering} → IsTotalOrder cmp → (q : K) (es : List (K × X)) → lookup (is_at (cmp q)) es ≡ option_map (λ (r : K × X). r.1) (find (λ (r : K × X). is_eq (cmp r.0 q)) es)
lookup_find total q [] = refl
lookup_find {K} {X} {cmp} total q (e ∷ es) =
    ap (λ (b : Bool). cond b (Some e.1) (lookup (is_at (cmp q)) es)) (turned total q e.0)
    ∙ ap (cond (is_eq (cmp e.0 q)) (Some e.1)) (lookup_find total q es)
    ∙ value_of (is_eq (cmp e.0 q)) e (find (λ (r : K × X). is_eq (cmp r.0 q)) es)

pub nat_cmp_eq : (m n : ℕ) → is_eq (nat_cmp m n) ≡ (m == n)
nat_cmp_eq m n = grind (arith, nat_tests)

-- the class of a Media-Type by either kind of look-up
pub class_found : (m : ℕ) (media : List (ℕ × Class)) → lookup (is_at (nat_cmp m)) media ≡ option_map (λ (r : ℕ × Class). r.1) (find (λ (r : ℕ × Class). r.0 == m) media)
class_found m media = lookup_find nat_cmp_total m media ∙ ap (λ (p : ℕ × Class → Bool). option_map (λ (r : ℕ × Class). r.1) (find p media)) (λ i r. nat_cmp_eq r.0 m i)
