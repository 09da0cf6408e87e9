use Rattle.std.proofs.Common.{◌≡◌, length}
use Rattle.std.specs.List.{list_all}
use Rattle.pcrf_model.specs.Forms.{is_operation}
use Rattle.peer_exchange.proofs.letter.note_operations.Given as goal

-- all are so just where those that are left are
abbrev pub invariant-loop-first : goal.invariant-loop-first
invariant-loop-first l = list_all is_operation l.operations ≡ list_all is_operation l.left

abbrev pub decreases-loop-first : goal.decreases-loop-first
decreases-loop-first l = length l.left
