-- The first fault of a document of operator tables, and its place.
use Rattle.std.specs.Prelude.{◌≡◌, ℕ, ◌+◌, Bool, false, nat_lt, if◌then◌else◌, List, [], ◌∷◌, ◌++◌, length, Option, Some, None, option_map, ⊤}
use Rattle.std.specs.List.{list_any}
use Rattle.std.specs.Ordering.{nat_cmp, is_eq}
use Rattle.pcrf_values.specs.Orders.{text_cmp}
use Rattle.pcrf_values.specs.Texts.{small_letters}
use Rattle.toml.specs.Data.{Data, Members, get_member, as_table}
use Rattle.op_tables.specs.Keys.{key_text}
use Rattle.op_tables.specs.Values.{number, name, word, filters, as_list, number_in, text_in, table_in, data_at}
use Rattle.op_tables.specs.Places.{Shape, Number, Name, Word, Filters, Table, Rows, Key, required, optional, Keys, no_more, ◌▸◌, number_32, class_keys, rule_name_shape, rule_keys, apn_name_shape, apn_keys, top_keys}
use Rattle.op_tables.specs.Placing.{key_step, row_step, unplaced, fault_at, fault_within}
use Rattle.op_tables.specs.declared.place.TableKey.{TableKey}
use Rattle.op_tables.specs.declared.place.TableKey.TheVariants as key
use Rattle.op_tables.specs.declared.fault.PlacedFault.{PlacedFault}
use Rattle.op_tables.specs.declared.fault.TableFault.{TableFault}
use Rattle.op_tables.specs.declared.fault.TableFault.TheVariants.{Syntax, MissingKey, BadValue, DuplicateRow, NoMemory}

-- ---- the judgement

-- the first of two faults
abbrev pub or_else : Option PlacedFault → Option PlacedFault → Option PlacedFault
or_else None second = second
or_else (Some first) second = Some first

abbrev pub bad_unless : {X : Type 0} → TableKey → Option X → Option PlacedFault
bad_unless key (Some x) = None
bad_unless key None = Some (fault_at key BadValue)

-- a value at a key that has to stand, and at one that may be absent
abbrev pub fault_if_required : TableKey → (Data → Option PlacedFault) → Option Data → Option PlacedFault
fault_if_required key judge None = Some (fault_at key MissingKey)
fault_if_required key judge (Some d) = judge d

abbrev pub fault_if_present : (Data → Option PlacedFault) → Option Data → Option PlacedFault
fault_if_present judge None = None
fault_if_present judge (Some d) = judge d

-- a table, the rows of the array at a key, each judged beside those above it, and the array
abbrev pub fault_of_table : (Members → Option PlacedFault) → Option Members → Option PlacedFault
fault_of_table judge None = Some (unplaced BadValue)
fault_of_table judge (Some ms) = judge ms

abbrev pub fault_of_rows : TableKey → (List Data → Data → Option PlacedFault) → List Data → List Data → Option PlacedFault
fault_of_rows key judge above [] = None
fault_of_rows key judge above (row ∷ rows) =
    or_else (fault_within (row_step key (length above + 1)) (judge above row)) (fault_of_rows key judge (above ++ row ∷ []) rows)

abbrev pub fault_of_array : TableKey → ℕ → (List Data → Option PlacedFault) → Option (List Data) → Option PlacedFault
fault_of_array key most judge None = Some (fault_at key BadValue)
fault_of_array key most judge (Some rows) = if nat_lt most (length rows) then Some (fault_at key BadValue) else judge rows

-- ---- rows of one array are told apart by one key

-- the two values are one number, or one name
abbrev pub are_same : Shape → Data → Data → Bool
are_same (Number least most) d e = is_eq (nat_cmp (number_in d) (number_in e))
are_same (Name most) d e = is_eq (text_cmp (small_letters (text_in d)) (small_letters (text_in e)))
are_same (Word most) d e = is_eq (text_cmp (text_in d) (text_in e))
are_same (Filters most) d e = false
are_same (Table keys) d e = false
are_same (Rows most key shape keys) d e = false

-- the two rows have the same at the key
abbrev pub is_named_as : TableKey → (Data → Data → Bool) → Data → Data → Bool
is_named_as key same row other = same (data_at (key_text key) (table_in row)) (data_at (key_text key) (table_in other))

-- A row: the key that tells it apart is judged, then whether a row above has the same there, then the other keys.
abbrev pub fault_of_row : TableKey → (Members → Option PlacedFault) → Bool → (Members → Option PlacedFault) → Members → Option PlacedFault
fault_of_row key judge_key taken judge_rest ms = or_else (judge_key ms) (or_else (if taken then Some (fault_at key DuplicateRow) else None) (judge_rest ms))

-- The first fault of what stands at a key, of a table's keys in their order, and of one key.
unfoldable mutual
  pub shape_fault : TableKey → Shape → Data → Option PlacedFault
  shape_fault key (Number least most) d = bad_unless key (number least most d)
  shape_fault key (Name most) d = bad_unless key (name most d)
  shape_fault key (Word most) d = bad_unless key (word most d)
  shape_fault key (Filters most) d = fault_of_array key most (λ ds. bad_unless key (filters most ds)) (as_list d)
  shape_fault key (Table keys) d = fault_within (key_step key) (fault_of_table (keys_fault keys) (as_table d))
  shape_fault key (Rows most named shape keys) d = fault_of_array key most (fault_of_rows key (λ above row.
      fault_of_table (fault_of_row named
      (λ ms. fault_if_required named (shape_fault named shape) (get_member (key_text named) ms))
      (list_any (is_named_as named (are_same shape) row) above)
      (keys_fault keys)) (as_table row)) []) (as_list d)

  pub keys_fault : Keys → Members → Option PlacedFault
  keys_fault no_more ms = None
  keys_fault (k ▸ keys) ms = or_else (key_fault k ms) (keys_fault keys ms)

  pub key_fault : Key → Members → Option PlacedFault
  key_fault (required key shape) ms = fault_if_required key (shape_fault key shape) (get_member (key_text key) ms)
  key_fault (optional key shape) ms = fault_if_present (shape_fault key shape) (get_member (key_text key) ms)

-- the first fault of a row, where what tells it apart is taken or not, and beside the rows above it
unfoldable pub row_judged : TableKey → Shape → Keys → Bool → Data → Option PlacedFault
row_judged key shape keys taken row = fault_of_table (fault_of_row key (key_fault (required key shape)) taken (keys_fault keys)) (as_table row)

unfoldable pub row_fault : TableKey → Shape → Keys → List Data → Data → Option PlacedFault
row_fault key shape keys above row = row_judged key shape keys (list_any (is_named_as key (are_same shape) row) above) row

-- ---- the rows of the three arrays

abbrev pub media_judged : Bool → Data → Option PlacedFault
media_judged is_taken row = row_judged key.MediaType number_32 class_keys is_taken row

abbrev pub rule_judged : Bool → Data → Option PlacedFault
rule_judged is_taken row = row_judged key.Name rule_name_shape rule_keys is_taken row

abbrev pub apn_judged : Bool → Data → Option PlacedFault
apn_judged is_taken row = row_judged key.Name apn_name_shape apn_keys is_taken row

abbrev pub media_fault : List Data → Data → Option PlacedFault
media_fault = row_fault key.MediaType number_32 class_keys

abbrev pub rule_fault : List Data → Data → Option PlacedFault
rule_fault = row_fault key.Name rule_name_shape rule_keys

abbrev pub apn_fault : List Data → Data → Option PlacedFault
apn_fault = row_fault key.Name apn_name_shape apn_keys

-- ---- the document

-- the first fault of a text, with its place
abbrev pub placed_fault : Option Members → Option PlacedFault
placed_fault None = Some (unplaced Syntax)
placed_fault (Some ms) = keys_fault top_keys ms

-- the first fault alone
abbrev pub document_fault : Option Members → Option TableFault
document_fault text = option_map (λ (f : PlacedFault). f.fault) (placed_fault text)

-- What is said of a fault, unless memory ran out.
abbrev pub UnlessMemory : TableFault → Type 0 → Type 0
UnlessMemory NoMemory said = ⊤
UnlessMemory Syntax said = said
UnlessMemory MissingKey said = said
UnlessMemory BadValue said = said
UnlessMemory DuplicateRow said = said

-- A fault is the one expected, and so is a fault with its place.
abbrev pub IsFault : TableFault → Option TableFault → Type 0
IsFault fault expected = UnlessMemory fault (expected ≡ Some fault)

abbrev pub IsPlaced : PlacedFault → Option PlacedFault → Type 0
IsPlaced f expected = UnlessMemory f.fault (expected ≡ Some f)
