-- Rows by what tells them apart.
use Rattle.std.proofs.Common.{◌≡◌, ℕ, Bool, true, false, ◌||◌, cond, List, [], ◌∷◌, ◌++◌, Option, Some, None, is_some, refl, ap, sym, ◌∙◌, Ordering, Less, Equal, Greater, nat_cmp, is_eq, map}
use Rattle.std.specs.List.{list_any, fold}
use Rattle.std.specs.Ordering.{match_ordering, ordering_reverse}
use Rattle.std.specs.Cmp.{IsTotalOrder, nat_cmp_total}
use Rattle.std.specs.Map.{lookup}
use Rattle.std.specs.BTreeMap.{insert_entry, is_at}
use Rattle.std.proofs.lemmas.List.Sums.{fold-append}
use Rattle.std.proofs.lemmas.Cmp.{nat_list_cmp_total}
use Rattle.pcrf_values.specs.Orders.{text_cmp}
use Rattle.toml.specs.Data.{Data}
use Rattle.pcrf_model.specs.Tables.{Class, OperatorRule, ApnRow}
use Rattle.op_tables.specs.Judgement.{row_fault, media_judged, media_fault, rule_judged, rule_fault, apn_judged, apn_fault}
use Rattle.op_tables.specs.Meaning.{by_key, media_of, media_type, row_class, is_media_taken, has_rule, rule_of, rule_name, apns_of, apn_name, row_apn, is_apn_taken}
use Rattle.op_tables.proofs.Lists.{list_any-map}

pub by_key-push : {K X : Type 0} (cmp : K → K → Ordering) (key : Data → K) (of : Data → X) (rows : List Data) (row : Data) → by_key cmp key of (rows ++ row ∷ []) ≡ insert_entry cmp (by_key cmp key of rows) (key row) (of row)
by_key-push {K} {X} cmp key of rows row = fold-append (λ (es : List (K × X)) (r : Data). insert_entry cmp es (key r) (of r)) [] rows (row ∷ [])

twice : {Y : Type 0} (b : Bool) (x y z : Y) → cond b x z ≡ cond b x (cond b y z)
twice true x y z = refl
twice false x y z = refl

swapped : {Y : Type 0} (a b : Bool) (x y z : Y) → (a ≡ true → b ≡ false) → cond a x (cond b y z) ≡ cond b y (cond a x z)
swapped true true x y z apart = absurd (let h = apart refl in cc)
swapped true false x y z apart = refl
swapped false b x y z apart = refl

pub reversed : (o : Ordering) → is_eq (ordering_reverse o) ≡ is_eq o
reversed Less = refl
reversed Equal = refl
reversed Greater = refl

pub equal_if : (o : Ordering) → is_eq o ≡ true → o ≡ Equal
equal_if Less h = absurd (cc)
equal_if Equal h = refl
equal_if Greater h = absurd (cc)

placed : {K X : Type 0} {cmp : K → K → Ordering} → IsTotalOrder cmp → (q k : K) (v : X) (e : K × X) (es : List (K × X)) (o : Ordering) → cmp k e.0 ≡ o
    → lookup (is_at (cmp q)) (insert_entry cmp es k v) ≡ cond (is_eq (cmp q k)) (Some v) (lookup (is_at (cmp q)) es)
    → lookup (is_at (cmp q)) (match_ordering o ((k, v) ∷ e ∷ es) ((e.0, v) ∷ es) (e ∷ insert_entry cmp es k v)) ≡ cond (is_eq (cmp q k)) (Some v) (cond (is_eq (cmp q e.0)) (Some e.1) (lookup (is_at (cmp q)) es))
placed total q k v e es Less is more = refl
placed {K} {X} {cmp} total q k v e es Equal is more =
    let same : is_eq (cmp q e.0) ≡ is_eq (cmp q k) =
    ap is_eq (total.antisymm q e.0) ∙ reversed (cmp e.0 q) ∙ ap is_eq (sym (total.congr k e.0 q is)) ∙ sym (reversed (cmp k q)) ∙ ap is_eq (sym (total.antisymm q k)) in
    rw same (twice (is_eq (cmp q k)) (Some v) (Some e.1) (lookup (is_at (cmp q)) es))
placed {K} {X} {cmp} total q k v e es Greater is more =
    let apart : is_eq (cmp q e.0) ≡ true → is_eq (cmp q k) ≡ false =
    λ h. ap is_eq (total.congr q e.0 k (equal_if (cmp q e.0) h) ∙ total.antisymm e.0 k ∙ ap ordering_reverse is) in
    ap (cond (is_eq (cmp q e.0)) (Some e.1)) more ∙ swapped (is_eq (cmp q e.0)) (is_eq (cmp q k)) (Some e.1) (Some v) (lookup (is_at (cmp q)) es) apart

pub lookup-insert_entry : {K X : Type 0} {cmp : K → K → Ordering} → IsTotalOrder cmp → (q k : K) (v : X) (es : List (K × X)) → lookup (is_at (cmp q)) (insert_entry cmp es k v) ≡ cond (is_eq (cmp q k)) (Some v) (lookup (is_at (cmp q)) es)
lookup-insert_entry total q k v [] = refl
lookup-insert_entry {K} {X} {cmp} total q k v (e ∷ es) = placed total q k v e es (cmp k e.0) refl (lookup-insert_entry total q k v es)

some_cond : {Y : Type 0} (b c : Bool) (x : Y) (o : Option Y) → (is_some (cond b (Some x) o) || c) ≡ (is_some o || (b || c))
some_cond true true x None = refl
some_cond true false x None = refl
some_cond false c x None = refl
some_cond true c x (Some y) = refl
some_cond false c x (Some y) = refl

or_false : (b : Bool) → b ≡ (b || false)
or_false true = refl
or_false false = refl

taken_from : {K X : Type 0} {cmp : K → K → Ordering} → IsTotalOrder cmp → (key : Data → K) (of : Data → X) (q : K) (es : List (K × X)) (rows : List Data) → is_some (lookup (is_at (cmp q)) (fold (λ (es : List (K × X)) (row : Data). insert_entry cmp es (key row) (of row)) es rows)) ≡ (is_some (lookup (is_at (cmp q)) es) || list_any (λ row. is_eq (cmp q (key row))) rows)
taken_from {K} {X} {cmp} total key of q es [] = or_false (is_some (lookup (is_at (cmp q)) es))
taken_from {K} {X} {cmp} total key of q es (row ∷ rows) =
    let here = lookup-insert_entry total q (key row) (of row) es in
    taken_from total key of q (insert_entry cmp es (key row) (of row)) rows
    ∙ ap (λ (o : Option X). is_some o || list_any (λ row. is_eq (cmp q (key row))) rows) here
    ∙ some_cond (is_eq (cmp q (key row))) (list_any (λ row. is_eq (cmp q (key row))) rows) (of row) (lookup (is_at (cmp q)) es)

-- a name stands in the map where a row has it
pub taken : {K X : Type 0} {cmp : K → K → Ordering} → IsTotalOrder cmp → (key : Data → K) (of : Data → X) (q : K) (rows : List Data) → is_some (lookup (is_at (cmp q)) (by_key cmp key of rows)) ≡ list_any (λ row. is_eq (cmp q (key row))) rows
taken {K} {X} {cmp} total key of q rows = taken_from total key of q [] rows

-- a row of media, judged by what stands in the map of those above it
pub media_row : (es : List (ℕ × Class)) (above : List Data) (row : Data) → es ≡ media_of above → media_judged (is_media_taken es row) row ≡ media_fault above row
unfolding media_of row_fault
media_row es above row is = ap (λ (is_taken : Bool). media_judged is_taken row) (ap (λ (es : List (ℕ × Class)). is_media_taken es row) is ∙ taken nat_cmp_total media_type row_class (media_type row) above)

pub media_push : (above : List Data) (row : Data) → media_of (above ++ row ∷ []) ≡ insert_entry nat_cmp (media_of above) (media_type row) (row_class row)
unfolding media_of
media_push above row = by_key-push nat_cmp media_type row_class above row

-- a row of rules, judged by the rules of those above it
pub rule_row : (rules : List OperatorRule) (above : List Data) (row : Data) → rules ≡ map rule_of above → rule_judged (has_rule rules (rule_name row)) row ≡ rule_fault above row
unfolding row_fault
rule_row rules above row is = ap (λ (is_taken : Bool). rule_judged is_taken row) (ap (λ (rs : List OperatorRule). has_rule rs (rule_name row)) is ∙ list_any-map (λ (r : OperatorRule). is_eq (text_cmp (rule_name row) r.name)) rule_of above)

-- a row of access points, judged by what stands in the map of those above it
pub apn_row : (es : List (List ℕ × ApnRow)) (above : List Data) (row : Data) → es ≡ apns_of above → apn_judged (is_apn_taken es row) row ≡ apn_fault above row
unfolding apns_of row_fault
apn_row es above row is = ap (λ (is_taken : Bool). apn_judged is_taken row) (ap (λ (es : List (List ℕ × ApnRow)). is_apn_taken es row) is ∙ taken nat_list_cmp_total apn_name row_apn (apn_name row) above)

pub apn_push : (above : List Data) (row : Data) → apns_of (above ++ row ∷ []) ≡ insert_entry text_cmp (apns_of above) (apn_name row) (row_apn row)
unfolding apns_of
apn_push above row = by_key-push text_cmp apn_name row_apn above row
