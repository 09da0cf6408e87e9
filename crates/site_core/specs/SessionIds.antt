-- Session-Ids in the standards' form (RFC 6733, 4.3.1, 7.2 and 8.8): what a request's has to be, which are repeated, and which answers
-- need one.
use Rattle.std.specs.Prelude.{ℕ, not, Bool, true, false, ◌&&◌, ◌==◌, if◌then◌else◌, List, length, Option, Some, None, option_map, is_some}
use Rattle.std.specs.Str.{is_utf8}
use Rattle.std.proofs.Common.{option_and_then}
use Rattle.pcrf_values.specs.Applications.{base_application}
use Rattle.pcrf_values.specs.Results.{invalid_avp_value}
use Rattle.dia_codec.specs.declared.message.Header.{Header}
use Rattle.dia_codec.specs.Fields.{AvpValue}
use Rattle.dia_base.specs.Avps.{session_id}
use Rattle.dia_base.specs.NeighbourAvps.{is_base_command}
use Rattle.dia_base.specs.Rows.{first_at, values_of}
use Rattle.dia_base.specs.declared.form.MessageForm.{MessageForm}
use Rattle.dia_base.specs.declared.form.MessageForm.TheVariants.{Own, Standard}
use Rattle.site_core.specs.declared.failed_avps.grammar.Grammar.{Grammar}
use Rattle.site_core.specs.declared.failed_avps.grammar.Grammar.TheVariants.{CreditControl, Authorization, SessionTermination}
use Rattle.site_core.specs.Faults.{FaultValue, as_it_came}
use Rattle.site_core.specs.Grammars.{grammar_of}

abbrev pub is_standard : MessageForm → Bool
is_standard Own = false
is_standard Standard = true

-- a request of the base protocol goes to the next node and no further
abbrev pub is_for_next_node : Header → Bool
is_for_next_node h = h.application == base_application && is_base_command h.command

-- ---- what a request's has to be

-- the grammars that have one: it is their first row
abbrev pub names_session : Grammar → Bool
names_session CreditControl = true
names_session Authorization = true
names_session SessionTermination = true
names_session grammar = false

-- that of AVPs that have one alone; where they have none or several, its row is broken by how often it stands
abbrev pub lone_session : List AvpValue → Option AvpValue
lone_session avps = if length (values_of session_id avps) == 1 then first_at session_id avps else None

-- an AVP, unless its value is UTF-8
abbrev pub unless_utf8 : AvpValue → Option AvpValue
unless_utf8 a = if is_utf8 a.value then None else Some a

-- the Session-Id of a request with this grammar, where it isn't UTF-8
abbrev pub ill_formed_session : Grammar → List AvpValue → Option AvpValue
ill_formed_session grammar avps = if names_session grammar then option_and_then unless_utf8 (lone_session avps) else None

abbrev pub session_fault : Grammar → List AvpValue → Option FaultValue
session_fault grammar avps = option_map (λ (a : AvpValue). as_it_came a invalid_avp_value) (ill_formed_session grammar avps)

abbrev pub ill_formed_by : Option Grammar → List AvpValue → Option AvpValue
ill_formed_by None avps = None
ill_formed_by (Some grammar) avps = ill_formed_session grammar avps

-- a request of this header has such a one among these AVPs; what isn't served has no grammar, and is refused as such
unfoldable pub has_ill_formed_session : Header → List AvpValue → Bool
has_ill_formed_session h avps = is_some (ill_formed_by (grammar_of h) avps)

-- ---- which are repeated

abbrev pub if_utf8 : List ℕ → Option (List ℕ)
if_utf8 id = if is_utf8 id then Some id else None

-- an answer of the base protocol has none (5.3.2, 5.4.2 and 5.5.2), and one that isn't UTF-8 can't be written
abbrev pub repeatable : Header → Option (List ℕ) → Option (List ℕ)
repeatable h session = if is_for_next_node h then None else option_and_then if_utf8 session

-- ---- which answers need one

-- the answer of the request's command begins with one, and there is none that it could have
abbrev pub lacks_session : Header → Option (List ℕ) → Bool
lacks_session h session = not (is_for_next_node h) && not (is_some session)
