use Rattle.std.proofs.Common.{◌≡◌, ◌∙◌, ap, sym, true, false, map}
use Rattle.std.specs.Ordering.{is_lt}
use Rattle.std.specs.List.{list_any}
use Rattle.std.specs.Option.{option_cmp}
use Rattle.pcrf_values.proofs.Plain.{not_true}
use Rattle.pcrf_values.specs.Values.{entry_cmp}
use Rattle.pcrf_values.specs.Facts.{entry}
use Rattle.lattice_core.specs.Beneath.{beneath_of, removes}
use Rattle.lattice_core.proofs.KeepLaws.{covered_at, covered_gone}
use Rattle.lattice_core.proofs.keeping.is_covered.Goals as goal

pub returns-in_default : goal.returns-in_default
returns-in_default g c h =
    let fact = g.F.TypedFact.fact in
    let gone : list_any (removes (beneath_of (fact c.args.fact.now))) (map fact c.args.facts.now) ≡ true =
    ap (λ b. list_any (removes b) (map fact c.args.facts.now)) (sym c.beneath.ensures) ∙ sym c.is_removed.ensures ∙ h in
    covered_gone (map fact c.args.facts.now) (fact c.args.fact.now) (λ x i e. c.in_default.ensures x i (e ∙ sym c.position.ensures)) gone

pub returns : goal.returns
returns g c h =
    let fact = g.F.TypedFact.fact in
    let n : c.is_lt.result ≡ false = not_true c.is_lt.result h in
    let low : is_lt (option_cmp entry_cmp (entry (fact c.in-Some.found.now)) (entry (fact c.args.fact.now))) ≡ false = cc in
    covered_at (map fact c.args.facts.now) (fact c.args.fact.now) (fact c.in-Some.found.now) c.in-Some.ensures.0 (c.in-Some.ensures.1 ∙ c.position.ensures) low
