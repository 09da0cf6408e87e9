use Rattle.std.proofs.Common.{◌≡◌, ◌<◌, true, length, map, get_or, sym, ◌∙◌}
use Rattle.std.proofs.lemmas.List.{get_or-map, length-map}
use Rattle.std.proofs.lemmas.List.Folds.{list_any_at}
use Rattle.pcrf_model.specs.Refusals.{is_common}
use Rattle.dia_base.specs.NeighbourRequests.{number_of}
use Rattle.dia_base.specs.declared.neighbours.applications.ApplicationId.{ApplicationId}
use Rattle.dia_base.proofs.neighbours.answer.has_common.Goals as goal

pub returns-then-is_common : goal.returns-then-is_common
returns-then-is_common c =
    let all = c.args.applications.now in
    let i = c.loop-application.application-index in
    let none : ApplicationId = record { number = 0 } in
    let at : get_or (map number_of all) i 0 ≡ number_of (get_or all i none) = get_or-map number_of all i none 0 c.loop-application-test.true in
    let same : is_common (number_of (get_or all i none)) ≡ true = sym c.is_common.ensures ∙ c.if-is_common.true in
    let within : i < length (map number_of all) = rw length-map c.loop-application-test.true in
    sym (list_any_at is_common (map number_of all) i 0 within (rw at same))
