use Rattle.std.proofs.Common.{◌≡◌, drop, ◌↔◌}
use Rattle.site_machine.proofs.operations.same_af.Given as goal

-- the lists are the same where what is left of them is
abbrev pub invariant-loop-fact : goal.invariant-loop-fact
invariant-loop-fact l = (drop l.fact-index l.ours ≡ l.rest) ↔ (l.ours ≡ l.theirs)
