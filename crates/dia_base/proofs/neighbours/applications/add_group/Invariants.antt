use Rattle.std.proofs.Common.{◌≡◌, ◌++◌, take}
use Rattle.dia_base.proofs.neighbours.applications.add_group.Given as goal

-- the applications so far are there
abbrev pub invariant-loop-application : goal.invariant-loop-application
invariant-loop-application l = l.found.items ≡ l.fn.found.items ++ take l.application-index l.fn.group
