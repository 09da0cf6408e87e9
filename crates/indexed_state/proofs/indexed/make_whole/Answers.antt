use Rattle.bind_index.proofs.Covering.{grows_itself}
use Rattle.indexed_state.proofs.indexed.make_whole.Goals as goal

pub returns-then-is_whole-clause-grows : goal.returns-then-is_whole-clause-grows
returns-then-is_whole-clause-grows c = grows_itself c.args.index.now
