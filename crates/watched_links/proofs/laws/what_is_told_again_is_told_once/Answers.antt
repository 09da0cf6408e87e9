use Rattle.std.proofs.Common.{ap}
use Rattle.watched_links.specs.Stages.{is_due}
use Rattle.watched_links.proofs.Telling.{waits, told_once, begins_anew}
use Rattle.watched_links.proofs.laws.what_is_told_again_is_told_once.Goals as goal

pub returns-clause-due : goal.returns-clause-due
returns-clause-due c = λ pause since now answers. ap (is_due pause now) (waits pause since answers)

pub returns-clause-once : goal.returns-clause-once
returns-clause-once c = told_once

pub returns-clause-anew : goal.returns-clause-anew
returns-clause-anew c = begins_anew
