use Rattle.gx_profile.proofs.MessageLengths.{opening_within}
use Rattle.gx_profile.proofs.answer.put_opening.Goals as goal

pub returns-clause-within : goal.returns-clause-within
returns-clause-within c = opening_within c.args.session.now c.args.identity.now c.as_slice.ensures.within c.note_name.ensures c.note_name-2.ensures
