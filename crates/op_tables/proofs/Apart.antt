-- Look-ups in the tables of a document, and the names of their rules.
use Rattle.std.proofs.Common.{◌≡◌, ℕ, Bool, true, false, ◌||◌, List, [], ◌∷◌, ◌++◌, map, Option, Some, None, unwrap_or, refl, ap, sym, subst, ◌∙◌, is_eq, codes, nat_cmp, inl, inr}
use Rattle.std.specs.Prelude.{find, option_map}
use Rattle.std.specs.List.{list_any}
use Rattle.std.specs.Cmp.{nat_cmp_total, tied_itself}
use Rattle.std.proofs.lemmas.Cmp.{nat_list_cmp_total}
use Rattle.pcrf_values.specs.Orders.{text_cmp}
use Rattle.pcrf_values.specs.Sets.{In, Distinct}
use Rattle.pcrf_model.specs.Tables.{Class, OperatorRule, ApnRow}
use Rattle.toml.specs.Data.{Data, Members}
use Rattle.op_tables.specs.Places.{top_keys, apn_keys}
use Rattle.op_tables.specs.Judgement.{keys_fault}
use Rattle.op_tables.specs.Values.{rows_at, table_in}
use Rattle.op_tables.specs.Meaning.{by_key, media_of, media_type, row_class, apns_of, apn_name, row_apn, rule_name, rule_of, tables_of}
use Rattle.op_tables.specs.TableViews.{tables_value}
use Rattle.op_tables.specs.Statements.{NamesRulesApart, FindsTheMediaRow, FindsTheApnRow, NamesRulesOnce}
use Rattle.op_tables.proofs.Lookups.{Differ, lookup-from, lookup_find, find_turned, nat_cmp_eq}
use Rattle.op_tables.proofs.Good.{media_good, apns_good, rules_good, media_differ, apns_differ, rules_differ, found_good}

pub finds_the_media_row : FindsTheMediaRow
unfolding tables_of media_of
finds_the_media_row ms m good =
    let rows = rows_at (codes "media") ms in
    let entries = by_key nat_cmp media_type row_class rows in
    ap (λ (p : ℕ × Class → Bool). option_map (λ (r : ℕ × Class). r.1) (find p entries)) (λ i r. sym (nat_cmp_eq r.0 m) i)
    ∙ sym (lookup_find nat_cmp_total m entries)
    ∙ lookup-from nat_cmp_total media_type row_class m [] rows (media_differ [] rows (media_good ms good))
    ∙ ap (option_map row_class) (find_turned nat_cmp_total media_type m rows ∙ ap (λ (p : Data → Bool). find p rows) (λ i row. nat_cmp_eq (media_type row) m i))

pub finds_the_apn_row : FindsTheApnRow
unfolding tables_of apns_of
finds_the_apn_row ms name good =
    let rows = rows_at (codes "apn") ms in
    sym (lookup_find nat_list_cmp_total name (by_key text_cmp apn_name row_apn rows))
    ∙ lookup-from nat_list_cmp_total apn_name row_apn name [] rows (apns_differ [] rows (apns_good ms good))
    ∙ ap (option_map row_apn) (find_turned nat_list_cmp_total apn_name name rows)

-- ---- names that differ

or_parts : (b c d : Bool) → (b || c) ≡ false → (c ≡ false → d ≡ false) → (b || d) ≡ false
or_parts true c d h later = absurd (cc)
or_parts false c d h later = later h

any_before : (test : Data → Bool) (above more : List Data) → list_any test (above ++ more) ≡ false → list_any test above ≡ false
any_before test [] more h = refl
any_before test (row ∷ above) more h = or_parts (test row) (list_any test (above ++ more)) (list_any test above) h (any_before test above more)

or_true : (b c : Bool) → c ≡ true → (b || c) ≡ true
or_true true c h = refl
or_true false c h = h

any_last : (test : Data → Bool) (above : List Data) (row : Data) → test row ≡ true → list_any test (above ++ row ∷ []) ≡ true
any_last test [] row h = rw h
any_last test (other ∷ above) row h = or_true (test other) (list_any test (above ++ row ∷ [])) (any_last test above row h)

module _ (key : Data → List ℕ) where
  -- what the rows have, none above has
  fresh : (above rows : List Data) (x : List ℕ) → Differ text_cmp key above rows → In x (map key rows) → list_any (λ other. is_eq (text_cmp x (key other))) above ≡ false
  fresh above [] x apart here = absurd here
  fresh above (row ∷ rows) x apart (inl same) = ap (λ (y : List ℕ). list_any (λ other. is_eq (text_cmp y (key other))) above) same ∙ apart.0
  fresh above (row ∷ rows) x apart (inr later) = any_before (λ other. is_eq (text_cmp x (key other))) above (row ∷ []) (fresh (above ++ row ∷ []) rows x apart.1 later)

  pub distinct : (above rows : List Data) → Differ text_cmp key above rows → Distinct (map key rows)
  distinct above [] apart = tt
  distinct above (row ∷ rows) apart =
      let itself : is_eq (text_cmp (key row) (key row)) ≡ true = ap is_eq (tied_itself nat_list_cmp_total (key row)) in (
        (λ again. let here = fresh (above ++ row ∷ []) rows (key row) apart.1 again in let there = any_last (λ other. is_eq (text_cmp (key row) (key other))) above row itself in absurd (cc)),
        distinct (above ++ row ∷ []) rows apart.1,
      )

names_of : (rows : List Data) → map (λ (r : OperatorRule). r.name) (map rule_of rows) ≡ map rule_name rows
names_of [] = refl
names_of (row ∷ rows) = ap (λ (ns : List (List ℕ)). rule_name row ∷ ns) (names_of rows)

apart_in : (d : Data) → keys_fault apn_keys (table_in d) ≡ None → Distinct (map (λ (r : OperatorRule). r.name) (row_apn d).rules)
apart_in d good =
    let rows = rows_at (codes "rule") (table_in d) in
    subst Distinct (sym (names_of rows)) (distinct rule_name [] rows (rules_differ [] rows (rules_good (table_in d) good)))

apart_if : (o : Option Data) (row : ApnRow) → option_map row_apn o ≡ Some row → ((d : Data) → o ≡ Some d → keys_fault apn_keys (table_in d) ≡ None) → Distinct (map (λ (r : OperatorRule). r.name) row.rules)
apart_if None row is good = absurd (cc)
apart_if (Some d) row is good =
    let same : row_apn d ≡ row = ap (λ (o : Option ApnRow). unwrap_or o (row_apn d)) is in
    subst (λ (r : ApnRow). Distinct (map (λ (r : OperatorRule). r.name) r.rules)) same (apart_in d (good d refl))

pub names_rules_once : NamesRulesOnce
names_rules_once ms good name row is =
    let rows = rows_at (codes "apn") ms in
    let test : Data → Bool = λ r. is_eq (text_cmp (apn_name r) name) in
    apart_if (find test rows) row (sym (finds_the_apn_row ms name good) ∙ is) (λ d found. found_good test [] rows d (apns_good ms good) found)

-- the invariant of tables, of those that are read from a document
pub apns_apart : (ms : Members) (edition rtcp_bps : ℕ) (signalling : Class) (media : List (ℕ × Class)) (apns : List (List ℕ × ApnRow)) → keys_fault top_keys ms ≡ None → apns ≡ apns_of (rows_at (codes "apn") ms)
    → NamesRulesApart (tables_value edition rtcp_bps signalling media apns)
unfolding tables_of
apns_apart ms edition rtcp_bps signalling media apns good is = subst (λ (es : List (List ℕ × ApnRow)). NamesRulesApart (tables_value edition rtcp_bps signalling media es)) (sym is) (names_rules_once ms good)
