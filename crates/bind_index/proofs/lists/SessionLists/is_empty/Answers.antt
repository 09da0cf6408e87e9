use Rattle.std.proofs.Common.{ap, sym, ◌∙◌}
use Rattle.bind_index.specs.Lists.{ids_at, is_nothing_listed}
use Rattle.bind_index.proofs.KeyedLists.{listed_none, none_listed}
use Rattle.bind_index.proofs.lists.SessionLists.is_empty.Goals as goal

pub returns-clause-exact : goal.returns-clause-exact
returns-clause-exact g c =
    listed_none c.is_empty.result c.self.inside.lists.entries c.is_empty.ensures.0 c.is_empty.ensures.1
    ∙ ap (λ m. is_nothing_listed m) c.self.view_is

pub returns-clause-none : goal.returns-clause-none
returns-clause-none g c = λ none k.
    let empty = c.is_empty.ensures.0 none in
    ap (λ m. ids_at g.K.Ord.cmp m k) (sym c.self.view_is) ∙ none_listed g.K.Ord.cmp c.self.inside.lists.entries empty k
