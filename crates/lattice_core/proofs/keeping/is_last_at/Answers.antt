use Rattle.std.proofs.Common.{◌≡◌, ◌∙◌, sym}
use Rattle.pcrf_values.specs.Facts.{position}
use Rattle.lattice_core.specs.Beneath.{stands_at}
use Rattle.lattice_core.proofs.KeepLaws.{last_mapped}
use Rattle.lattice_core.proofs.keeping.is_last_at.Goals as goal

pub returns-in-Some : goal.returns-in-Some
returns-in-Some g c =
    let fact = g.F.TypedFact.fact in
    let said : c.is_eq.result ≡ stands_at (position (fact c.args.fact.now)) (fact c.in-Some.last.now) = cc in
    said ∙ sym (last_mapped fact (position (fact c.args.fact.now)) c.args.kept.now c.in-Some.field-0-1.now c.in-Some.last.now c.in-Some.ensures.cases.0)
