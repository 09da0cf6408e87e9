use Rattle.std.proofs.Common.{◌≡◌, false, ◌∙◌, rules}
use Rattle.std.proofs.lemmas.List.{map-id}
use Rattle.std.proofs.lemmas.Result.{err_from_is_err_and}
use Rattle.rx_profile.specs.Services.{component_numbers, repeats}
use Rattle.rx_profile.proofs.ServiceFaults.{numbers_broken, filters_broken}
use Rattle.rx_profile.proofs.component.Components.judged.Goals as goal

pub returns-in_err-numbered-clause-refused : goal.returns-in_err-numbered-clause-refused
returns-in_err-numbered-clause-refused c =
    let p = err_from_is_err_and c.from_residual.result c.from_residual.ensures.1 in
    let apart : repeats (component_numbers c.args.raw.items) ≡ false = search rules in
    rw (p.1, p.2) (numbers_broken c.args.raw.items c.in_err-numbered.field-0.0 apart c.in_err-numbered.ensures.refused)

pub returns-in_err-list-clause-refused : goal.returns-in_err-list-clause-refused
returns-in_err-list-clause-refused c =
    let p = err_from_is_err_and c.from_residual-in_err-list.result c.from_residual-in_err-list.ensures.1 in
    let apart : repeats (component_numbers c.args.raw.items) ≡ false = search rules in
    let same : c.in_ok-numbered.numbered.items ≡ c.args.raw.items = c.in_ok-numbered.ensures.made ∙ map-id c.args.raw.items in
    rw (p.1, p.2) (filters_broken c.args.raw.items c.in_err-list.field-0.0 apart c.in_ok-numbered.ensures.accepted (rw same at c.in_err-list.ensures.refused))
