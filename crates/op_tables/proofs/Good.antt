-- What is known of a document in which nothing is at fault.
use Rattle.std.proofs.Common.{◌≡◌, ℕ, Bool, true, false, cond, nat_lt, ◌+◌, length, List, [], ◌∷◌, ◌++◌, Option, Some, None, unwrap_or, refl, ap, sym, ◌∙◌, codes}
use Rattle.std.specs.Prelude.{find}
use Rattle.toml.specs.Data.{Data, Members, no_members, boolean, get_member, as_table}
use Rattle.std.specs.Ordering.{nat_cmp}
use Rattle.pcrf_values.specs.Orders.{text_cmp}
use Rattle.op_tables.specs.Places.{Shape, Key, Keys, no_more, ◌▸◌, optional, Rows, rule_name_shape, rule_keys, apn_name_shape, apn_keys, edition_key, rtcp_key, signalling_key, media_key, apns_key, default_key, rules_key, top_keys, number_32, class_keys, media_limit, apns_limit, rules_limit}
use Rattle.op_tables.specs.Values.{as_list, list_in, table_in, rows_at}
use Rattle.op_tables.specs.Judgement.{or_else, fault_if_present, fault_of_array, fault_of_rows, fault_of_table, fault_of_row, shape_fault, key_fault, keys_fault, row_fault, row_judged, media_fault, rule_fault, apn_fault}
use Rattle.op_tables.specs.Meaning.{media_type, rule_name, apn_name}
use Rattle.op_tables.specs.Keys.{key_text}
use Rattle.op_tables.specs.Placing.{row_step, fault_at, fault_within}
use Rattle.op_tables.specs.declared.place.TableKey.{TableKey}
use Rattle.op_tables.specs.declared.place.TableKey.TheVariants as key
use Rattle.op_tables.specs.declared.place.Step.{Step}
use Rattle.op_tables.specs.declared.fault.PlacedFault.{PlacedFault}
use Rattle.op_tables.specs.declared.fault.TableFault.TheVariants.{DuplicateRow}
use Rattle.op_tables.proofs.Lookups.{Differ}

pub both_none : (first second : Option PlacedFault) → or_else first second ≡ None → (first ≡ None) × (second ≡ None)
both_none None second good = (refl, good)
both_none (Some first) second good = absurd (cc)

keys_both : (k : Key) (keys : Keys) (ms : Members) → keys_fault (k ▸ keys) ms ≡ None → (key_fault k ms ≡ None) × (keys_fault keys ms ≡ None)
unfolding keys_fault
keys_both k keys ms good = both_none (key_fault k ms) (keys_fault keys ms) good

-- ---- rows at a key

few : (judge : List Data → Option PlacedFault) (b : Bool) (rows : List Data) (bad : PlacedFault) → cond b (Some bad) (judge rows) ≡ None → judge rows ≡ None
few judge true rows bad good = absurd (cc)
few judge false rows bad good = good

listed : (key : TableKey) (judge : List Data → Option PlacedFault) (most : ℕ) (o : Option (List Data)) → fault_of_array key most judge o ≡ None → judge (unwrap_or o []) ≡ None
listed key judge most None good = absurd (cc)
listed key judge most (Some rows) good = few judge (nat_lt most (length rows)) rows _ good

present : (key own : TableKey) (most : ℕ) (shape : Shape) (keys : Keys) (o : Option Data) → fault_if_present (shape_fault key (Rows most own shape keys)) o ≡ None → fault_of_rows key (row_fault own shape keys) [] (list_in (unwrap_or o (boolean false))) ≡ None
unfolding shape_fault key_fault row_fault row_judged
present key own most shape keys None good = refl
present key own most shape keys (Some d) good = listed key (fault_of_rows key (row_fault own shape keys) []) most (as_list d) good

rows_good : (key own : TableKey) (most : ℕ) (shape : Shape) (keys : Keys) (ms : Members) → key_fault (optional key (Rows most own shape keys)) ms ≡ None → fault_of_rows key (row_fault own shape keys) [] (rows_at (key_text key) ms) ≡ None
unfolding key_fault
rows_good key own most shape keys ms good = present key own most shape keys (get_member (key_text key) ms) good

-- ---- the three arrays

pub media_good : (ms : Members) → keys_fault top_keys ms ≡ None → fault_of_rows key.Media media_fault [] (rows_at (codes "media") ms) ≡ None
media_good ms good =
    let first = keys_both edition_key (rtcp_key ▸ signalling_key ▸ media_key ▸ apns_key ▸ no_more) ms good in
    let second = keys_both rtcp_key (signalling_key ▸ media_key ▸ apns_key ▸ no_more) ms first.1 in
    let third = keys_both signalling_key (media_key ▸ apns_key ▸ no_more) ms second.1 in
    let fourth = keys_both media_key (apns_key ▸ no_more) ms third.1 in
    rows_good key.Media key.MediaType media_limit number_32 class_keys ms fourth.0

pub apns_good : (ms : Members) → keys_fault top_keys ms ≡ None → fault_of_rows key.Apn apn_fault [] (rows_at (codes "apn") ms) ≡ None
apns_good ms good =
    let first = keys_both edition_key (rtcp_key ▸ signalling_key ▸ media_key ▸ apns_key ▸ no_more) ms good in
    let second = keys_both rtcp_key (signalling_key ▸ media_key ▸ apns_key ▸ no_more) ms first.1 in
    let third = keys_both signalling_key (media_key ▸ apns_key ▸ no_more) ms second.1 in
    let fourth = keys_both media_key (apns_key ▸ no_more) ms third.1 in
    let fifth = keys_both apns_key no_more ms fourth.1 in
    rows_good key.Apn key.Name apns_limit apn_name_shape apn_keys ms fifth.0

pub rules_good : (ms : Members) → keys_fault apn_keys ms ≡ None → fault_of_rows key.Rule rule_fault [] (rows_at (codes "rule") ms) ≡ None
rules_good ms good =
    let first = keys_both default_key (rules_key ▸ no_more) ms good in
    let second = keys_both rules_key no_more ms first.1 in
    rows_good key.Rule key.Name rules_limit rule_name_shape rule_keys ms second.0

-- ---- rows differ

-- what stands within a step is good where the whole is
good_within : (step : Step) (o : Option PlacedFault) → fault_within step o ≡ None → o ≡ None
good_within step None good = refl
good_within step (Some f) good = absurd (cc)

-- the first row is good, and so are the others
rows_both : (key : TableKey) (judge : List Data → Data → Option PlacedFault) (above : List Data) (row : Data) (rows : List Data) → fault_of_rows key judge above (row ∷ rows) ≡ None
    → (judge above row ≡ None) × (fault_of_rows key judge (above ++ row ∷ []) rows ≡ None)
rows_both key judge above row rows good =
    let both = both_none (fault_within (row_step key (length above + 1)) (judge above row)) (fault_of_rows key judge (above ++ row ∷ []) rows) good in
    (good_within _ (judge above row) both.0, both.1)

not_taken : (key : TableKey) (judge rest : Members → Option PlacedFault) (is_taken : Bool) (t : Option Members) → fault_of_table (fault_of_row key judge is_taken rest) t ≡ None → is_taken ≡ false
not_taken key judge rest is_taken None good = absurd (cc)
not_taken key judge rest false (Some ms) good = refl
not_taken key judge rest true (Some ms) good = absurd (let h = both_none (judge ms) _ good in let k : Some (fault_at key DuplicateRow) ≡ None = h.1 in cc)

pub media_differ : (above rows : List Data) → fault_of_rows key.Media media_fault above rows ≡ None → Differ nat_cmp media_type above rows
unfolding row_fault row_judged
media_differ above [] good = tt
media_differ above (row ∷ rows) good =
    let both = rows_both key.Media media_fault above row rows good in
    (not_taken key.MediaType _ _ _ (as_table row) both.0, media_differ (above ++ row ∷ []) rows both.1)

pub apns_differ : (above rows : List Data) → fault_of_rows key.Apn apn_fault above rows ≡ None → Differ text_cmp apn_name above rows
unfolding row_fault row_judged
apns_differ above [] good = tt
apns_differ above (row ∷ rows) good =
    let both = rows_both key.Apn apn_fault above row rows good in
    (not_taken key.Name _ _ _ (as_table row) both.0, apns_differ (above ++ row ∷ []) rows both.1)

pub rules_differ : (above rows : List Data) → fault_of_rows key.Rule rule_fault above rows ≡ None → Differ text_cmp rule_name above rows
unfolding row_fault row_judged
rules_differ above [] good = tt
rules_differ above (row ∷ rows) good =
    let both = rows_both key.Rule rule_fault above row rows good in
    (not_taken key.Name _ _ _ (as_table row) both.0, rules_differ (above ++ row ∷ []) rows both.1)

-- ---- a row that is found

behind : (key : TableKey) (judge rest : Members → Option PlacedFault) (is_taken : Bool) (t : Option Members) → fault_of_table (fault_of_row key judge is_taken rest) t ≡ None → rest (unwrap_or t no_members) ≡ None
behind key judge rest is_taken None good = absurd (cc)
behind key judge rest is_taken (Some ms) good = (both_none _ _ ((both_none (judge ms) _ good).1)).1

found_among : (test : Data → Bool) (b : Bool) (row d : Data) (rows : List Data) → cond b (Some row) (find test rows) ≡ Some d → keys_fault apn_keys (table_in row) ≡ None → (find test rows ≡ Some d → keys_fault apn_keys (table_in d) ≡ None) → keys_fault apn_keys (table_in d) ≡ None
found_among test true row d rows is good later = let same : row ≡ d = ap (λ (o : Option Data). unwrap_or o row) is in ap (λ (r : Data). keys_fault apn_keys (table_in r)) (sym same) ∙ good
found_among test false row d rows is good later = later is

pub found_good : (test : Data → Bool) (above rows : List Data) (d : Data) → fault_of_rows key.Apn apn_fault above rows ≡ None → find test rows ≡ Some d → keys_fault apn_keys (table_in d) ≡ None
unfolding row_fault row_judged
found_good test above [] d good is = absurd (cc)
found_good test above (row ∷ rows) d good is =
    let both = rows_both key.Apn apn_fault above row rows good in
    found_among test (test row) row d rows is (behind key.Name _ (keys_fault apn_keys) _ (as_table row) both.0) (λ later. found_good test (above ++ row ∷ []) rows d both.1 later)
