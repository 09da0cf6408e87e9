use Rattle.std.proofs.Common.{◌≡◌, List, map, ap, ◌∙◌, subst, option_map}
use Rattle.std.specs.Option.{option_copied}
use Rattle.pcrf_values.specs.Facts.{Fact}
use Rattle.pcrf_values.specs.Held.{kept_list}
use Rattle.lattice_core.specs.Found.{IsFound}
use Rattle.lattice_core.proofs.FoundLaws.{shown_found}
use Rattle.lattice_core.proofs.record.Record.at.Goals as goal

pub returns-clause-shown : goal.returns-clause-shown
returns-clause-shown g c p e =
    let fact = g.F.TypedFact.fact in
    let found = option_map fact (option_copied c.find.result) in
    let same = ap (map fact) c.as_slice.ensures.value ∙ c.self.view_is in
    shown_found c.args.self.now p found (subst (λ (l : List Fact). kept_list l ≡ l) c.self.view_is c.self.invariant)
    (subst (λ q. IsFound q c.args.self.now found) e (subst (λ (l : List Fact). IsFound c.args.sought.now l found) same c.find.ensures))
