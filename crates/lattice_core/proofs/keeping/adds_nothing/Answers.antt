use Rattle.std.proofs.Common.{◌∙◌, map, ap}
use Rattle.pcrf_values.specs.Held.{join_of}
use Rattle.lattice_core.proofs.KeepLaws.{covered_joins}
use Rattle.lattice_core.proofs.keeping.adds_nothing.Goals as goal

pub each-preserved : goal.each-preserved
each-preserved g c =
    let fact = g.F.TypedFact.fact in
    c.each.invariant
    ∙ ap (λ l. join_of (map fact c.args.ours.now) (map fact l)) c.in-Some.ensures.cases.0
    ∙ covered_joins (map fact c.args.ours.now) (map fact c.in-Some.rest.now) (fact c.in-Some.first.now) c.requires (c.is_covered.ensures c.if-not-is_covered.false)
