use Rattle.std.proofs.Common.{◌≤◌, length, rules}
use Rattle.pcrf_values.specs.Limits.{session_id_limit}
use Rattle.rx_profile.proofs.AnswerLengths.{sta_within}
use Rattle.rx_profile.proofs.answer.sta_avps.Goals as goal

pub returns-clause-within : goal.returns-clause-within
returns-clause-within c =
    let short : length c.args.session.now ≤ session_id_limit = search rules in
    sta_within c.args.identity.now c.args.session.now c.args.refusal c.note_names.ensures.host c.note_names.ensures.realm short
