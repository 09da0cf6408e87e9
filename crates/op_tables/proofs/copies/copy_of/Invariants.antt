use Rattle.std.proofs.Common.{◌≡◌, ◌++◌}
use Rattle.op_tables.proofs.copies.copy_of.Given as goal

-- the entries so far, and the others follow them
abbrev pub invariant-loop-key : goal.invariant-loop-key
invariant-loop-key g l = (l.map.entries ≡ l.copy.entries ++ l.key-iterator)
