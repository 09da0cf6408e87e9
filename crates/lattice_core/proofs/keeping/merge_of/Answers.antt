use Rattle.std.proofs.Common.{◌≡◌, ◌∙◌, List, ◌∷◌, [], ◌++◌, map, sym, ap, subst, arith}
use Rattle.pcrf_values.specs.Facts.{Fact}
use Rattle.pcrf_values.specs.Held.{kept_list, join_of}
use Rattle.pcrf_values.proofs.JoinedLaws.{held_twice}
use Rattle.lattice_core.specs.Orders.{Follow}
use Rattle.lattice_core.proofs.MergeLaws.{step_joins, step_follows, step_above}
use Rattle.lattice_core.proofs.keeping.merge_of.Goals as goal

pub add-requires-clause-above : goal.add-requires-clause-above
add-requires-clause-above g c =
    let fact = g.F.TypedFact.fact in
    step_above (map (λ f. fact f.now) c.least.kept.items) (map fact c.least.ours.now ++ map fact c.least.theirs.now) (map fact c.take_least_of.new.ours.now ++ map fact c.take_least_of.new.theirs.now) (fact c.in-Some.fact.now) c.in-Some.ensures.least c.least.invariant.follow

pub least-preserved : goal.least-preserved
least-preserved g c =
    let fact = g.F.TypedFact.fact in
    let ks = map (λ f. fact f.now) c.least.kept.items in
    let f = fact c.in-Some.fact.now in
    let were = map fact c.least.ours.now ++ map fact c.least.theirs.now in
    let left = map fact c.take_least_of.new.ours.now ++ map fact c.take_least_of.new.theirs.now in
    let joins = c.add.ensures.joins in
    record {
      held = subst (λ (z : List Fact). kept_list z ≡ z) (sym joins) (held_twice (ks ++ f ∷ []));
      joins = ap (λ (z : List Fact). join_of z left) joins ∙ sym (step_joins ks were left f c.in-Some.ensures.least) ∙ c.least.invariant.joins;
      follow = subst (λ (z : List Fact). Follow z left) (sym joins) (step_follows ks were left f c.in-Some.ensures.least c.least.invariant.follow);
      ours = c.in-Some.ensures.ours;
      theirs = c.in-Some.ensures.theirs;
      room = omega (arith, c.in-Some.ensures.count);
    }
