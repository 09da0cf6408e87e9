use Rattle.bind_index.proofs.Covered.{covers_taken, covers_union}
use Rattle.bind_index.proofs.laws.covering_goes_on.Goals as goal

pub returns-clause-taken : goal.returns-clause-taken
returns-clause-taken c = covers_taken

pub returns-clause-union : goal.returns-clause-union
returns-clause-union c = covers_union
