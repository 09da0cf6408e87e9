use Rattle.std.proofs.Common.{◌≡◌, false, map, take}
use Rattle.std.specs.List.{list_any}
use Rattle.pcrf_model.specs.Refusals.{is_common}
use Rattle.dia_base.specs.NeighbourRequests.{number_of}
use Rattle.dia_base.proofs.neighbours.answer.has_common.Given as goal

-- none so far is one in common
abbrev pub invariant-loop-application : goal.invariant-loop-application
invariant-loop-application l = list_any is_common (map number_of (take l.application-index l.fn.applications)) ≡ false
