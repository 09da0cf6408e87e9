use Rattle.dia_base.proofs.NeighbourRequestLengths.{watchdog_within}
use Rattle.dia_base.proofs.neighbours.own_request.watchdog_avps.Goals as goal

pub returns-clause-within : goal.returns-clause-within
returns-clause-within c = watchdog_within c.args.identity.now c.note_names.ensures.host c.note_names.ensures.realm
