use Rattle.std.proofs.Common.{◌≡◌, ◌∙◌, sym}
use Rattle.std.specs.Ordering.{is_lt}
use Rattle.pcrf_values.specs.Places.{position_cmp}
use Rattle.pcrf_values.specs.Facts.{position}
use Rattle.lattice_core.proofs.KeepLaws.{before_mapped}
use Rattle.lattice_core.proofs.keeping.is_past_last.Goals as goal

pub returns-in-Some : goal.returns-in-Some
returns-in-Some g c =
    let fact = g.F.TypedFact.fact in
    let said : c.is_lt.result ≡ is_lt (position_cmp (position (fact c.in-Some.last.now)) (position (fact c.args.fact.now))) = cc in
    said ∙ sym (before_mapped fact (position (fact c.args.fact.now)) c.args.kept.now c.in-Some.field-0-1.now c.in-Some.last.now c.in-Some.ensures.cases.0)
