use Rattle.std.proofs.Common.{◌≡◌, ◌∙◌}
use Rattle.pcrf_values.specs.Facts.{End, position}
use Rattle.lattice_core.specs.Beneath.{stands_at}
use Rattle.lattice_core.proofs.FoundLaws.{ended_mapped}
use Rattle.lattice_core.proofs.keeping.is_ended.Goals as goal

pub returns-in-Some : goal.returns-in-Some
returns-in-Some g c =
    let fact = g.F.TypedFact.fact in
    let said : c.is_eq.result ≡ stands_at (position End) (fact c.in-Some.first.now) = cc in
    said ∙ ended_mapped fact c.args.facts.now c.in-Some.field-0-1.now c.in-Some.first.now c.in-Some.ensures.cases.0 c.requires
