use Rattle.dia_base.specs.NeighbourRequests.{base_view}
use Rattle.dia_base.proofs.NeighbourAnswerLengths.{base_within}
use Rattle.dia_base.proofs.neighbours.answer.base_avps.Goals as goal

pub returns-clause-within : goal.returns-clause-within
returns-clause-within c = base_within c.args.identity.now (base_view c.args.request.now) c.note_names.ensures.host c.note_names.ensures.realm c.note_address.ensures
