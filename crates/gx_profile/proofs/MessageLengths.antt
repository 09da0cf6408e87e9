-- How long answers and requests are.
use Rattle.std.proofs.Common.{◌≡◌, ◌≤◌, ◌+◌, ◌*◌, ◌++◌, ◌∷◌, ℕ, Bool, true, false, List, Option, None, Some, length, arith, refl}
use Rattle.std.specs.List.{sum_by}
use Rattle.std.proofs.lemmas.List.Sums.{sum_by-cons, sum_by-append}
use Rattle.pcrf_values.specs.declared.default_quality.DefaultQuality.{DefaultQuality}
use Rattle.pcrf_values.specs.declared.refusal.Refusal.{Refusal}
use Rattle.pcrf_model.specs.Replies.{GxReplyValue, PushValue}
use Rattle.pcrf_model.specs.Requests.{CcrValue}
use Rattle.dia_codec.specs.Fields.{AvpValue}
use Rattle.dia_codec.specs.Limits.{longest_message}
use Rattle.dia_codec.specs.Written.{word_bytes, written_avp, padded_len}
use Rattle.dia_codec.specs.Written as written
use Rattle.dia_base.specs.Avps.{base_key, destination_realm, destination_host, cc_request_type, cc_request_number}
use Rattle.dia_base.specs.Answers.{text_avp, number_avp, result_avp}
use Rattle.dia_base.specs.declared.form.MessageForm.{MessageForm}
use Rattle.dia_base.specs.declared.identity.Identity.{Identity}
use Rattle.dia_base.proofs.AnswerLengths.{text_within, number_within, result_within}
use Rattle.pcrf_values.specs.Numbers.{request_kind_number}
use Rattle.gx_profile.specs.Answers.{cca_avps}
use Rattle.pcrf_model.specs.ReplyViews.{reply_refusal, reply_delta, reply_quality}
use Rattle.gx_profile.specs.Avps.{re_auth_request_type}
use Rattle.gx_profile.specs.Lengths.{delta_room, opening_room}
use Rattle.gx_profile.specs.Openings.{opening_avps}
use Rattle.gx_profile.specs.Pushes.{rar_avps, authorize_only}
use Rattle.gx_profile.specs.Qualities.{quality_avps}
use Rattle.gx_profile.specs.Rules.{delta_avps}

-- what a message begins with
pub opening_within : (session : List ℕ) (i : Identity) → length session ≤ 512 → length i.host ≤ 255 → length i.realm ≤ 255 → sum_by padded_len (opening_avps session i) ≤ opening_room
opening_within session i session_short host_short realm_short =
    let id = text_within 263 session 128 session_short in
    let application = number_within 258 16777238 in
    let host = text_within 264 i.host 64 (omega arith) in
    let realm = text_within 296 i.realm 64 (omega arith) in
    omega arith

-- ---- a quality of service

quality_within : (q : Option DefaultQuality) → sum_by padded_len (quality_avps q) ≤ 132
unfolding word_bytes written_avp written.three_bytes
quality_within None = omega arith
quality_within (Some q) = omega arith

-- ---- messages

-- what stands behind the Origin-Realm of an answer
abbrev told : MessageForm → CcrValue → GxReplyValue → List AvpValue
told form q reply =
    result_avp (reply_refusal reply)
    ∷ number_avp cc_request_type (request_kind_number q.kind)
    ∷ number_avp cc_request_number q.number
    ∷ delta_avps form (reply_delta reply)
    ++ quality_avps (reply_quality reply)

told_within : (form : MessageForm) (q : CcrValue) (reply : GxReplyValue) → sum_by padded_len (delta_avps form (reply_delta reply)) ≤ delta_room → sum_by padded_len (told form q reply) ≤ 56212
told_within form q reply delta =
    let rules = delta_avps form (reply_delta reply) in
    let quality = quality_avps (reply_quality reply) in
    let kind = number_avp cc_request_type (request_kind_number q.kind) in
    let number = number_avp cc_request_number q.number in
    let one = sum_by-cons padded_len (result_avp (reply_refusal reply)) (kind ∷ number ∷ rules ++ quality) in
    let two = sum_by-cons padded_len kind (number ∷ rules ++ quality) in
    let three = sum_by-cons padded_len number (rules ++ quality) in
    let both = sum_by-append padded_len rules quality in
    let result_short = result_within (reply_refusal reply) in
    let kind_short = number_within 416 (request_kind_number q.kind) in
    let number_short = number_within 415 q.number in
    let quality_short = quality_within (reply_quality reply) in
    rw (one, two, three, both) (omega arith)

-- an answer fits a message
pub cca_within : (i : Identity) (q : CcrValue) (reply : GxReplyValue) → sum_by padded_len (opening_avps q.session i) ≤ opening_room → sum_by padded_len (delta_avps i.form (reply_delta reply)) ≤ delta_room
    → 20 + sum_by padded_len (cca_avps i q reply) ≤ longest_message
unfolding cca_avps
cca_within i q reply opening delta =
    let both = sum_by-append padded_len (opening_avps q.session i) (told i.form q reply) in
    let behind = told_within i.form q reply delta in
    rw both (omega arith)

-- what stands behind the Origin-Realm of a push
abbrev pushed : MessageForm → PushValue → List AvpValue
pushed form p = text_avp destination_realm p.realm ∷ text_avp destination_host p.host ∷ number_avp re_auth_request_type authorize_only ∷ delta_avps form p.delta

-- a push fits a message
pub rar_within : (i : Identity) (p : PushValue) → length p.realm ≤ 255 → length p.host ≤ 255
    → sum_by padded_len (opening_avps p.session i) ≤ opening_room → sum_by padded_len (delta_avps i.form p.delta) ≤ delta_room → 20 + sum_by padded_len (rar_avps i p) ≤ longest_message
unfolding rar_avps
rar_within i p realm host opening delta =
    let kind = number_avp re_auth_request_type authorize_only in
    let one = sum_by-cons padded_len (text_avp destination_realm p.realm) (text_avp destination_host p.host ∷ kind ∷ delta_avps i.form p.delta) in
    let two = sum_by-cons padded_len (text_avp destination_host p.host) (kind ∷ delta_avps i.form p.delta) in
    let three = sum_by-cons padded_len kind (delta_avps i.form p.delta) in
    let both = sum_by-append padded_len (opening_avps p.session i) (pushed i.form p) in
    let realm_short = text_within 283 p.realm 64 (omega arith) in
    let host_short = text_within 293 p.host 64 (omega arith) in
    let kind_short = number_within 285 authorize_only in
    rw (both, one, two, three) (omega arith)
