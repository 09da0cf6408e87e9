use Rattle.std.proofs.Common.{◌≤◌, rules, length}
use Rattle.pcrf_values.specs.Limits.{session_id_limit, identity_limit}
use Rattle.rx_profile.specs.Aborts.{abort_view}
use Rattle.rx_profile.proofs.AnswerLengths.{asr_within}
use Rattle.rx_profile.proofs.abort.asr_avps.Goals as goal

pub returns-clause-within : goal.returns-clause-within
returns-clause-within c =
    let a = c.args.abort.now in
    let session : length a.session ≤ session_id_limit = search rules in
    let host : length a.host ≤ identity_limit = search rules in
    let realm : length a.realm ≤ identity_limit = search rules in
    asr_within c.args.identity.now (abort_view a) c.note_names.ensures.host c.note_names.ensures.realm session host realm
