-- Every answer of the base protocol fits a message.
use Rattle.std.proofs.Common.{◌≡◌, ◌≤◌, ◌+◌, ◌∷◌, ◌++◌, [], ℕ, List, Option, length, arith}
use Rattle.std.specs.List.{sum_by}
use Rattle.pcrf_values.specs.Limits.{identity_limit}
use Rattle.dia_codec.specs.Limits.{longest_message}
use Rattle.dia_codec.specs.Written.{word_bytes, written_avp, padded_len}
use Rattle.dia_codec.specs.Written as written
use Rattle.pcrf_model.specs.Requests.{BaseKind, CapabilitiesExchange, DeviceWatchdog, DisconnectPeer, BaseValue}
use Rattle.pcrf_model.specs.Refusals.{base_refusal}
use Rattle.dia_base.specs.Answers.{result_avp, origin_avps}
use Rattle.dia_base.specs.declared.identity.Identity.{Identity}
use Rattle.dia_base.proofs.AnswerLengths.{result_within, origin_within, both_within, text_within}
use Rattle.dia_base.specs.NeighbourAnswers.{address_value, kind_avps, base_avps}

-- what an answer has besides the result and the origin
kind_within : (i : Identity) (k : BaseKind) → length (address_value i) ≡ 6 → sum_by padded_len (kind_avps i k) ≤ 200
unfolding word_bytes written_avp written.three_bytes
kind_within i (CapabilitiesExchange applications) six =
    let address = text_within 257 (address_value i) 2 (omega (arith, six)) in
    omega (arith, address)
kind_within i DeviceWatchdog six = omega arith
kind_within i DisconnectPeer six = omega arith

-- every answer
pub base_within : (i : Identity) (q : BaseValue) → length i.host ≤ identity_limit → length i.realm ≤ identity_limit → length (address_value i) ≡ 6 → 20 + sum_by padded_len (base_avps i q) ≤ longest_message
unfolding base_avps
base_within i q host realm six =
    let result = result_within (base_refusal q.kind) in
    let named = origin_within i host realm in
    let first : sum_by padded_len (result_avp (base_refusal q.kind) ∷ origin_avps i) ≤ 560 = omega (arith, result, named) in
    let all = both_within (result_avp (base_refusal q.kind) ∷ origin_avps i) (kind_avps i q.kind) 560 200 first (kind_within i q.kind six) in
    omega (arith, all)
