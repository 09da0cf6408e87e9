use Rattle.std.proofs.Common.{◌≡◌, ◌∙◌, List, ◌∷◌, [], ◌++◌, map, sym, ap, subst, arith}
use Rattle.pcrf_values.specs.Facts.{Fact}
use Rattle.pcrf_values.specs.Held.{kept_list, join_of}
use Rattle.pcrf_values.proofs.JoinedLaws.{held_twice}
use Rattle.lattice_core.specs.Orders.{Follow}
use Rattle.lattice_core.proofs.MergeLaws.{step_joins, step_follows, step_above}
use Rattle.lattice_core.proofs.keeping.merge.Goals as goal

pub add-requires-clause-above : goal.add-requires-clause-above
add-requires-clause-above g c =
    let fact = g.F.TypedFact.fact in
    step_above (map fact c.least.kept.items) (map fact c.least.ours.items ++ map fact c.least.theirs.items) (map fact c.take_least.new.ours.items ++ map fact c.take_least.new.theirs.items) (fact c.in-Some.fact) c.in-Some.ensures.least c.least.invariant.follow

pub least-preserved : goal.least-preserved
least-preserved g c =
    let fact = g.F.TypedFact.fact in
    let ks = map fact c.least.kept.items in
    let f = fact c.in-Some.fact in
    let were = map fact c.least.ours.items ++ map fact c.least.theirs.items in
    let left = map fact c.take_least.new.ours.items ++ map fact c.take_least.new.theirs.items in
    let joins = c.add.ensures.joins in
    record {
      held = subst (λ (z : List Fact). kept_list z ≡ z) (sym joins) (held_twice (ks ++ f ∷ []));
      joins = ap (λ (z : List Fact). join_of z left) joins ∙ sym (step_joins ks were left f c.in-Some.ensures.least) ∙ c.least.invariant.joins;
      follow = subst (λ (z : List Fact). Follow z left) (sym joins) (step_follows ks were left f c.in-Some.ensures.least c.least.invariant.follow);
      ours = c.in-Some.ensures.ours;
      theirs = c.in-Some.ensures.theirs;
      room = omega (arith, c.in-Some.ensures.count);
    }
