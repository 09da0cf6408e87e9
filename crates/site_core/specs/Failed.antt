-- The Failed-AVP of an answer (RFC 6733, 7.5), by the request that it refuses, and its Result-Code.
use Rattle.std.specs.Prelude.{ℕ, ◌==◌, ◌&&◌, if◌then◌else◌, List, [], ◌∷◌, drop, nat_lt, Option, Some, None}
use Rattle.std.proofs.Common.{option_and_then}
use Rattle.pcrf_values.specs.Results.{invalid_avp_length, missing_avp}
use Rattle.dia_codec.specs.declared.message.AvpKey.{AvpKey}
use Rattle.dia_codec.specs.declared.message.Header.{Header}
use Rattle.dia_codec.specs.Fields.{AvpValue}
use Rattle.dia_codec.specs.Limits.{header_bytes, longest_message}
use Rattle.dia_codec.specs.Reading.{avps_of}
use Rattle.dia_codec.specs.Written.{padded_len}
use Rattle.dia_base.specs.Answers.{group_avp, is_rx_aar}
use Rattle.dia_base.specs.Avps.{base_key}
use Rattle.site_core.specs.Grammars.{address_row, depth, grammar_of}
use Rattle.site_core.specs.declared.failed_avps.grammar.Grammar.{Grammar}
use Rattle.site_core.specs.Faults.{FaultValue, example, fault_within, or_fault}
use Rattle.site_core.specs.SessionIds.{session_fault}
use Rattle.site_core.specs.Uncut.{headed, uncut}
use Rattle.site_core.specs.Unsupported.{avp_unsupported, unsupported_within}

-- Failed-AVP
abbrev pub failed_avp_key : AvpKey
failed_avp_key = base_key 279

-- An AA request that its grammar grants lacks an address where it is refused by DIAMETER_MISSING_AVP: the first one describes whose
-- session it is of (TS 29.214, 5.6.1).
abbrev pub lacking : Header → ℕ → Option AvpValue
lacking h code = if is_rx_aar h && code == missing_avp.code then Some (example address_row) else None

-- what is at fault, where that is what the code tells of
abbrev pub told_by : Header → ℕ → Option FaultValue → Option AvpValue
told_by h code None = lacking h code
told_by h code (Some fault) = if fault.refusal.code == code then fault.avp else None

-- what breaks the grammar first: a Session-Id that isn't UTF-8 before all rows, since its own is the first
abbrev pub first_fault : Grammar → List AvpValue → Option FaultValue
first_fault grammar avps = or_fault (session_fault grammar avps) (fault_within depth grammar avps)

-- among the AVPs of a request with this grammar: what isn't recognized by its code, what breaks the grammar by all others
abbrev pub among : Header → ℕ → List AvpValue → Option Grammar → Option AvpValue
among h code avps None = None
among h code avps (Some grammar) =
    if code == avp_unsupported.code
    then option_and_then (λ (fault : FaultValue). fault.avp) (unsupported_within depth grammar avps)
    else told_by h code (first_fault grammar avps)

-- in what stands behind a request's header, which could be cut into AVPs or not
abbrev pub at_fault_in : Header → ℕ → List ℕ → Option (List AvpValue) → Option AvpValue
at_fault_in h code bytes None = if code == invalid_avp_length.code then Some (headed (grammar_of h) (uncut bytes)) else None
at_fault_in h code bytes (Some avps) = among h code avps (grammar_of h)

-- the AVP at fault of a request with this header and frame that was refused with this Result-Code
unfoldable pub at_fault : Header → ℕ → List ℕ → Option AvpValue
at_fault h code frame = at_fault_in h code (drop header_bytes frame) (avps_of (drop header_bytes frame))

-- the Failed-AVP with this AVP, unless that is longer than any message
abbrev pub failed_with : AvpValue → Option AvpValue
failed_with a = if nat_lt longest_message (padded_len a) then None else Some (group_avp failed_avp_key (a ∷ []))

-- the Failed-AVP of an answer that refuses the request of this header and frame with this Result-Code
unfoldable pub failed_avp : Header → ℕ → List ℕ → Option AvpValue
failed_avp h code frame = option_and_then failed_with (at_fault h code frame)
