use Rattle.std.proofs.Common.{◌≡◌, ◌≤◌, ◌==◌, ◌&&◌, drop}
use Rattle.peer_lines.specs.Hmac.{same_bytes}
use Rattle.peer_lines.proofs.sealed.hmac.are_same.Given as goal

-- what differed so far, and what is left, decide the whole
abbrev pub invariant-loop-i : goal.invariant-loop-i
invariant-loop-i l = record {
  within : l.differing ≤ l.i;
  rest : ((l.differing == 0) && same_bytes (drop l.i l.one) (drop l.i l.other)) ≡ same_bytes l.one l.other;
}
