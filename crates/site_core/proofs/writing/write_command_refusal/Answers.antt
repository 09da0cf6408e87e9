use Rattle.std.proofs.Common.{refl, arith}
use Rattle.std.specs.Option.{option_copied}
use Rattle.dia_base.proofs.AnswerLengths.{refusal_fits}
use Rattle.site_core.proofs.writing.write_command_refusal.Goals as goal

pub returns-in-Err-TooLong-clause-some : goal.returns-in-Err-TooLong-clause-some
returns-in-Err-TooLong-clause-some c =
    let short = refusal_fits c.args.identity.now c.args.header.now c.args.refusal (option_copied c.bytes_of_id-id.result) _ refl c.note_names.ensures.host c.note_names.ensures.realm c.bytes_of_id-id.ensures.short in
    absurd (omega (arith, short, c.in-Err-TooLong.ensures.too_long))
