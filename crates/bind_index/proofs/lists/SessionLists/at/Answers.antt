use Rattle.std.proofs.Common.{ap, ◌∙◌}
use Rattle.bind_index.specs.Lists.{ids_at, ids_or_none}
use Rattle.bind_index.proofs.KeyedLists.{found_alike}
use Rattle.bind_index.proofs.lists.SessionLists.at.Goals as goal

pub returns : goal.returns
returns g c = ap ids_or_none (c.get.ensures.value ∙ found_alike g.K.Ord.cmp g.K.PartialEq.eq g.met.K.Ord.matches_eq c.self.inside.lists.entries c.args.key.now) ∙ ap (λ m. ids_at g.K.Ord.cmp m c.args.key.now) c.self.view_is
