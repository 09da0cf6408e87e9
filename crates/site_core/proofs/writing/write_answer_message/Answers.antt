use Rattle.std.proofs.Common.{arith}
use Rattle.site_core.proofs.AnswerMessages.{message_fits}
use Rattle.site_core.proofs.writing.write_answer_message.Goals as goal

pub returns-in-Err-TooLong-clause-some : goal.returns-in-Err-TooLong-clause-some
returns-in-Err-TooLong-clause-some c =
    let short = message_fits c.args.identity.now c.args.header.now c.args.refusal c.note_names.ensures.host c.note_names.ensures.realm in
    absurd (omega (arith, short, c.in-Err-TooLong.ensures.too_long))
