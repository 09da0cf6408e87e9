-- The laws of the definitions.
use Rattle.std.specs.Prelude.{◌≡◌, ℕ, List, Some, None, ◌==◌, map, codes, find, option_map}
use Rattle.std.specs.Ordering.{is_eq}
use Rattle.pcrf_values.specs.Orders.{text_cmp}
use Rattle.pcrf_values.specs.Sets.{Distinct}
use Rattle.pcrf_model.specs.Tables.{OperatorRule, ApnRow, Tables, media_class, apn_row}
use Rattle.toml.specs.Data.{Members}
use Rattle.op_tables.specs.Places.{top_keys}
use Rattle.op_tables.specs.Judgement.{keys_fault}
use Rattle.op_tables.specs.Values.{rows_at}
use Rattle.op_tables.specs.Meaning.{tables_of, media_type, row_class, apn_name, row_apn}

-- the class of a Media-Type is that of the document's row of this type
abbrev pub FindsTheMediaRow : Type 0
FindsTheMediaRow = (ms : Members) (m : ℕ) → keys_fault top_keys ms ≡ None →
    media_class (tables_of ms) m ≡ option_map row_class (find (λ row. media_type row == m) (rows_at (codes "media") ms))

-- an access point is that of the document's row of this name
abbrev pub FindsTheApnRow : Type 0
FindsTheApnRow = (ms : Members) (name : List ℕ) → keys_fault top_keys ms ≡ None →
    apn_row (tables_of ms) name ≡ option_map row_apn (find (λ row. is_eq (text_cmp (apn_name row) name)) (rows_at (codes "apn") ms))

-- no access point has two rules of one name
abbrev pub NamesRulesApart : Tables → Type 0
NamesRulesApart t = (name : List ℕ) (row : ApnRow) → apn_row t name ≡ Some row → Distinct (map (λ (r : OperatorRule). r.name) row.rules)

-- nor has one of a document without a fault
abbrev pub NamesRulesOnce : Type 0
NamesRulesOnce = (ms : Members) → keys_fault top_keys ms ≡ None → NamesRulesApart (tables_of ms)
