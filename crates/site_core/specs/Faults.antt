-- The AVP at fault of a request that its grammar refuses (RFC 6733, 7.1.5 and 7.5).
use Rattle.std.specs.Prelude.{◌≡◌, ℕ, zero, suc, nat_lt, if◌then◌else◌, List, [], ◌∷◌, length, drop, replicate, Option, Some, None, option_map, unwrap_or}
use Rattle.std.specs.List.{filter}
use Rattle.std.proofs.Common.{option_and_then}
use Rattle.pcrf_values.specs.Results.{invalid_avp_length, missing_avp, avp_occurs_too_many_times}
use Rattle.pcrf_values.specs.declared.refusal.Refusal.{Refusal}
use Rattle.dia_codec.specs.Fields.{AvpValue}
use Rattle.dia_codec.specs.Limits.{longest_message}
use Rattle.dia_codec.specs.Reading.{avps_of}
use Rattle.dia_codec.specs.Spelling.{owned_view}
use Rattle.dia_codec.specs.Written.{padded_len, written_avp}
use Rattle.dia_base.specs.Answers.{text_avp}
use Rattle.dia_base.specs.Rows.{has_key, values_of, first_of, is_too_often, rows_refusal}
use Rattle.site_core.specs.declared.failed_avps.fault.Fault.{Fault}
use Rattle.site_core.specs.declared.failed_avps.grammar.AvpType.{AvpType}
use Rattle.site_core.specs.declared.failed_avps.grammar.AvpType.TheVariants.{Unsigned32, Enumerated, Text, OctetString, Ipv4Address, Ipv6Prefix, Grouped}
use Rattle.site_core.specs.declared.failed_avps.grammar.Grammar.{Grammar}
use Rattle.site_core.specs.declared.failed_avps.grammar.GrammarRow.{GrammarRow}
use Rattle.site_core.specs.Grammars.{plain_kind, rows_of, table_within}

-- by which code a request is refused, and the AVP at fault, unless it is longer than any message
pub record FaultValue : Type 0 where
  pub refusal : Refusal
  pub avp : Option AvpValue

abbrev pub fault_view : Fault → FaultValue
fault_view f = record { refusal = f.refusal; avp = option_map owned_view f.avp }

abbrev pub or_fault : Option FaultValue → Option FaultValue → Option FaultValue
or_fault None second = second
or_fault (Some first) second = Some first

-- the first fault of a list's members
abbrev pub fault_among : {X : Type 0} → (X → Option FaultValue) → List X → Option FaultValue
fault_among judge [] = None
fault_among judge (x ∷ xs) = or_fault (judge x) (fault_among judge xs)

-- ---- one value

-- the least length of a type's values
abbrev pub least_length : AvpType → ℕ
least_length Unsigned32 = 4
least_length (Enumerated least most) = 4
least_length (Text most) = 1
least_length OctetString = 0
least_length Ipv4Address = 4
least_length Ipv6Prefix = 2
least_length (Grouped grammar) = 0

-- an AVP with another value
abbrev pub with_value : AvpValue → List ℕ → AvpValue
with_value a value = record { code = a.code; vendor = a.vendor; mandatory = a.mandatory; protected = a.protected; value = value }

-- an AVP is at fault as it came
abbrev pub as_it_came : AvpValue → Refusal → FaultValue
as_it_came a refusal = record { refusal = refusal; avp = Some a }

-- a group with this AVP alone in it (7.5)
abbrev pub around : AvpValue → AvpValue → Option AvpValue
around group a = if nat_lt longest_message (padded_len a) then None else Some (with_value group (written_avp a))

abbrev pub enclosed : AvpValue → FaultValue → FaultValue
enclosed group f = record { refusal = f.refusal; avp = option_and_then (around group) f.avp }

-- a group that can't be cut into AVPs is told of by its header, with nothing behind it (7.1.5, DIAMETER_INVALID_AVP_LENGTH)
abbrev pub group_fault : (List AvpValue → Option FaultValue) → AvpValue → Option (List AvpValue) → Option FaultValue
group_fault inside group None = Some (as_it_came (with_value group []) invalid_avp_length)
group_fault inside group (Some avps) = option_map (enclosed group) (inside avps)

-- in a value of this type, by what is at fault in groups
abbrev pub value_fault : (Grammar → List AvpValue → Option FaultValue) → AvpType → AvpValue → Option FaultValue
value_fault inside (Grouped grammar) a = group_fault (inside grammar) a (avps_of a.value)
value_fault inside kind a = option_map (as_it_came a) (plain_kind kind a.value)

-- ---- one row

-- the first that is one too many (7.1.5, DIAMETER_AVP_OCCURS_TOO_MANY_TIMES)
abbrev pub one_too_many : GrammarRow → List AvpValue → Option AvpValue
one_too_many row avps = first_of (drop (unwrap_or row.most 0) (filter (has_key row.key) avps))

-- an example of an AVP: zeros of its type's least length (7.1.5, DIAMETER_MISSING_AVP)
abbrev pub example : GrammarRow → AvpValue
example row = text_avp row.key (replicate (least_length row.kind) 0)

abbrev pub row_fault : (Grammar → List AvpValue → Option FaultValue) → GrammarRow → List AvpValue → Option FaultValue
row_fault inside row avps =
    if is_too_often row.most (length (values_of row.key avps)) then Some (record { refusal = avp_occurs_too_many_times; avp = one_too_many row avps }) else
    if nat_lt (length (values_of row.key avps)) row.least then Some (as_it_came (example row) missing_avp) else
    fault_among (value_fault inside row.kind) (filter (has_key row.key) avps)

-- the first fault, row by row
abbrev pub rows_fault : (Grammar → List AvpValue → Option FaultValue) → List GrammarRow → List AvpValue → Option FaultValue
rows_fault inside rows avps = fault_among (λ (row : GrammarRow). row_fault inside row avps) rows

-- ---- a grammar

-- the first fault, with groups that stand so deep
abbrev pub fault_within : ℕ → Grammar → List AvpValue → Option FaultValue
fault_within zero grammar avps = None
fault_within (suc n) grammar avps = rows_fault (fault_within n) (rows_of grammar) avps

-- A grammar has a fault exactly where its table refuses, and by the same code.
abbrev pub FaultsAreRefusals : Type 0
FaultsAreRefusals =
    (n : ℕ) (grammar : Grammar) (avps : List AvpValue)
    → option_map (λ (f : FaultValue). f.refusal) (fault_within n grammar avps) ≡ rows_refusal (table_within n grammar) avps
