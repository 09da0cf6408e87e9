-- Every message that is written fits.
use Rattle.std.proofs.Common.{◌≤◌, ◌+◌, ◌∷◌, ◌++◌, [], ℕ, List, Option, length, arith}
use Rattle.std.specs.List.{sum_by}
use Rattle.pcrf_values.specs.Applications.{rx_application}
use Rattle.pcrf_values.specs.Limits.{session_id_limit, identity_limit}
use Rattle.pcrf_values.specs.declared.refusal.Refusal.{Refusal}
use Rattle.dia_codec.specs.Limits.{longest_message}
use Rattle.dia_codec.specs.Written.{padded_len}
use Rattle.dia_base.specs.Avps.{session_id, auth_application_id}
use Rattle.dia_base.specs.Answers.{text_avp, number_avp}
use Rattle.dia_base.specs.declared.identity.Identity.{Identity}
use Rattle.dia_base.proofs.AnswerLengths.{text_within, number_within, ending_within}
use Rattle.dia_codec.specs.Written.{word_bytes}
use Rattle.pcrf_model.specs.Replies.{AbortValue}
use Rattle.rx_profile.specs.Aborts.{asr_avps}
use Rattle.rx_profile.specs.Answers.{aaa_avps, sta_avps}

-- an AA-Answer
pub aaa_within : (i : Identity) (session : List ℕ) (r : Option Refusal) → length i.host ≤ identity_limit → length i.realm ≤ identity_limit → length session ≤ session_id_limit
    → 20 + sum_by padded_len (aaa_avps i session r) ≤ longest_message
unfolding aaa_avps
aaa_within i session r host realm short =
    let id = text_within 263 session 128 short in
    let application = number_within 258 rx_application in
    let all = ending_within (text_avp session_id session ∷ number_avp auth_application_id rx_application ∷ []) 532 i r (omega (arith, id, application)) host realm in
    omega (arith, all)

-- a Session-Termination-Answer
pub sta_within : (i : Identity) (session : List ℕ) (r : Option Refusal) → length i.host ≤ identity_limit → length i.realm ≤ identity_limit → length session ≤ session_id_limit
    → 20 + sum_by padded_len (sta_avps i session r) ≤ longest_message
unfolding sta_avps
sta_within i session r host realm short =
    let id = text_within 263 session 128 short in
    let all = ending_within (text_avp session_id session ∷ []) 520 i r (omega (arith, id)) host realm in
    omega (arith, all)

-- an Abort-Session-Request
pub asr_within : (i : Identity) (a : AbortValue) → length i.host ≤ identity_limit → length i.realm ≤ identity_limit → length a.session ≤ session_id_limit → length a.host ≤ identity_limit → length a.realm ≤ identity_limit
    → 20 + sum_by padded_len (asr_avps i a) ≤ longest_message
unfolding asr_avps word_bytes
asr_within i a host realm session to_host to_realm =
    let id = text_within 263 a.session 128 session in
    let application = number_within 258 rx_application in
    let own_host = text_within 264 i.host 64 (omega (arith, host)) in
    let own_realm = text_within 296 i.realm 64 (omega (arith, realm)) in
    let its_realm = text_within 283 a.realm 64 (omega (arith, to_realm)) in
    let its_host = text_within 293 a.host 64 (omega (arith, to_host)) in
    omega (arith, id, application, own_host, own_realm, its_realm, its_host)
