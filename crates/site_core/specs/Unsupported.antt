-- AVPs of a request that have M and aren't recognized (RFC 6733, 4.1), by which it is refused (7.1.5).
use Rattle.std.specs.Prelude.{◌≡◌, ℕ, zero, suc, Bool, true, not, ◌&&◌, if◌then◌else◌, List, find, Option, Some, None, option_map, is_some}
use Rattle.std.specs.List.{list_all}
use Rattle.std.proofs.Common.{option_and_then}
use Rattle.pcrf_values.specs.Results.{base_result}
use Rattle.pcrf_values.specs.declared.refusal.Refusal.{Refusal}
use Rattle.dia_codec.specs.declared.message.AvpKey.{AvpKey}
use Rattle.dia_codec.specs.declared.message.Header.{Header}
use Rattle.dia_codec.specs.Fields.{AvpValue, key_of}
use Rattle.dia_codec.specs.Reading.{avps_of}
use Rattle.dia_base.specs.Rows.{same_key}
use Rattle.site_core.specs.declared.failed_avps.grammar.AvpType.{AvpType}
use Rattle.site_core.specs.declared.failed_avps.grammar.AvpType.TheVariants.{Grouped}
use Rattle.site_core.specs.declared.failed_avps.grammar.Grammar.{Grammar}
use Rattle.site_core.specs.declared.failed_avps.grammar.GrammarRow.{GrammarRow}
use Rattle.site_core.specs.Faults.{FaultValue, as_it_came, enclosed, fault_among}
use Rattle.site_core.specs.Grammars.{depth, grammar_of, rows_of}
use Rattle.site_core.specs.Recognized.{is_recognized}

-- DIAMETER_AVP_UNSUPPORTED
abbrev pub avp_unsupported : Refusal
avp_unsupported = base_result 5001

-- who gets it has to know it, and doesn't
abbrev pub is_unsupported : AvpValue → Bool
is_unsupported a = a.mandatory && not (is_recognized (key_of a))

-- ---- groups

-- the grammar of what is in an AVP
abbrev pub inner_of : AvpType → Option Grammar
inner_of (Grouped grammar) = Some grammar
inner_of kind = None

-- that of the group that a grammar has at a key
abbrev pub inner_at : Grammar → AvpKey → Option Grammar
inner_at grammar key =
    option_and_then (λ (row : GrammarRow). inner_of row.kind) (find (λ (row : GrammarRow). same_key row.key key) (rows_of grammar))

-- the first in a group, which could be cut into AVPs or not; one that can't is refused by its table
abbrev pub first_in_group : (List AvpValue → Option FaultValue) → AvpValue → Option (List AvpValue) → Option FaultValue
first_in_group inside group None = None
first_in_group inside group (Some avps) = option_map (enclosed group) (inside avps)

-- in an AVP, by its grammar if it is a group that has one
abbrev pub first_inside : (Grammar → List AvpValue → Option FaultValue) → AvpValue → Option Grammar → Option FaultValue
first_inside inside a None = None
first_inside inside a (Some grammar) = first_in_group (inside grammar) a (avps_of a.value)

-- ---- requests

-- an AVP of a grammar, or the first in it
abbrev pub unsupported_at : (Grammar → List AvpValue → Option FaultValue) → Grammar → AvpValue → Option FaultValue
unsupported_at inside grammar a =
    if is_unsupported a then Some (as_it_came a avp_unsupported) else first_inside inside a (inner_at grammar (key_of a))

-- the first of the AVPs of a grammar, with groups that stand so deep; what a grammar doesn't name as a group isn't looked into
abbrev pub unsupported_within : ℕ → Grammar → List AvpValue → Option FaultValue
unsupported_within zero grammar avps = None
unsupported_within (suc n) grammar avps = fault_among (unsupported_at (unsupported_within n) grammar) avps

abbrev pub unsupported_by : Option Grammar → List AvpValue → Option FaultValue
unsupported_by None avps = None
unsupported_by (Some grammar) avps = unsupported_within depth grammar avps

-- a request of this header has one among these AVPs; what isn't served has no grammar, and is refused as such
unfoldable pub has_unsupported : Header → List AvpValue → Bool
has_unsupported h avps = is_some (unsupported_by (grammar_of h) avps)

-- ---- what is served

abbrev pub are_recognized : List GrammarRow → Bool
are_recognized rows = list_all (λ (row : GrammarRow). is_recognized row.key) rows

-- no grammar names an AVP that isn't recognized
abbrev pub ServedAreRecognized : Type 0
ServedAreRecognized = (grammar : Grammar) → are_recognized (rows_of grammar) ≡ true
