-- What a document without a fault means.
use Rattle.std.specs.Prelude.{ℕ, List, [], codes, Bool, map, Option, option_map, is_some}
use Rattle.std.specs.List.{fold, list_any}
use Rattle.std.proofs.Common.{Ordering}
use Rattle.std.specs.Ordering.{nat_cmp, is_eq}
use Rattle.std.specs.BTreeMap.{insert_entry, is_at}
use Rattle.std.specs.Map.{lookup}
use Rattle.pcrf_values.specs.Orders.{text_cmp}
use Rattle.pcrf_values.specs.Texts.{small_letters}
use Rattle.pcrf_values.specs.declared.default_quality.DefaultQuality.{DefaultQuality}
use Rattle.pcrf_model.specs.Tables.{Class, OperatorRule, ApnRow, Tables}
use Rattle.toml.specs.Data.{Data, Members, get_member}
use Rattle.op_tables.specs.TableViews.{priority_of}
use Rattle.op_tables.specs.Values.{text_in, table_in, data_at, number_at, rows_at}

-- ---- tables and rows

abbrev pub class_of : Members → Class
class_of ms = record {
  qci = number_at (codes "qci") ms;
  priority = number_at (codes "priority") ms;
  capability = number_at (codes "capability") ms;
  vulnerability = number_at (codes "vulnerability") ms;
  max_ul = number_at (codes "max_ul") ms;
  max_dl = number_at (codes "max_dl") ms;
  precedence = number_at (codes "precedence") ms;
}

abbrev pub quality_of : Members → DefaultQuality
quality_of ms = record {
  class = number_at (codes "qci") ms;
  priority = priority_of (number_at (codes "priority") ms) (number_at (codes "capability") ms) (number_at (codes "vulnerability") ms);
  aggregate_uplink = number_at (codes "ambr_ul") ms;
  aggregate_downlink = number_at (codes "ambr_dl") ms;
}

abbrev pub filters_in : List ℕ → Members → List (List ℕ)
filters_in key ms = map text_in (rows_at key ms)

abbrev pub rule_name : Data → List ℕ
rule_name row = text_in (data_at (codes "name") (table_in row))

abbrev pub rule_of : Data → OperatorRule
rule_of row = record {
  name = rule_name row;
  class = class_of (table_in row);
  status = number_at (codes "status") (table_in row);
  filters = filters_in (codes "filters") (table_in row);
}

abbrev pub default_of : Members → Option DefaultQuality
default_of ms = option_map (λ d. quality_of (table_in d)) (get_member (codes "default") ms)

abbrev pub apn_of : Members → ApnRow
apn_of ms = record {
  default = default_of ms;
  rules = map rule_of (rows_at (codes "rule") ms);
}

-- ---- rows by what tells them apart

abbrev pub media_type : Data → ℕ
media_type row = number_at (codes "type") (table_in row)

abbrev pub apn_name : Data → List ℕ
apn_name row = small_letters (text_in (data_at (codes "name") (table_in row)))

-- the rows by their keys, ascending
abbrev pub by_key : {K X : Type 0} → (K → K → Ordering) → (Data → K) → (Data → X) → List Data → List (K × X)
by_key cmp key of rows = fold (λ es row. insert_entry cmp es (key row) (of row)) [] rows

abbrev pub row_class : Data → Class
row_class row = class_of (table_in row)

abbrev pub row_apn : Data → ApnRow
row_apn row = apn_of (table_in row)

unfoldable pub media_of : List Data → List (ℕ × Class)
media_of rows = by_key nat_cmp media_type row_class rows

unfoldable pub apns_of : List Data → List (List ℕ × ApnRow)
apns_of rows = by_key text_cmp apn_name row_apn rows

-- ---- what is taken by the rows above

abbrev pub is_media_taken : List (ℕ × Class) → Data → Bool
is_media_taken media row = is_some (lookup (is_at (nat_cmp (media_type row))) media)

abbrev pub is_apn_taken : List (List ℕ × ApnRow) → Data → Bool
is_apn_taken apns row = is_some (lookup (is_at (text_cmp (apn_name row))) apns)

abbrev pub has_rule : List OperatorRule → List ℕ → Bool
has_rule rules name = list_any (λ r. is_eq (text_cmp name r.name)) rules

-- ---- the document

unfoldable pub tables_of : Members → Tables
tables_of ms = record {
  edition = number_at (codes "edition") ms;
  rtcp_bps = number_at (codes "rtcp_bps") ms;
  signalling = class_of (table_in (data_at (codes "signalling") ms));
  media = media_of (rows_at (codes "media") ms);
  apns = apns_of (rows_at (codes "apn") ms);
}
