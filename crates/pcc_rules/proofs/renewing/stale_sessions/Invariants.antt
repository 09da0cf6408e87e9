use Rattle.std.proofs.Common.{ℕ, List, ◌⊎◌}
use Rattle.pcrf_values.specs.Sets.{In}
use Rattle.pcrf_values.specs.Facts.{Fact}
use Rattle.pcc_rules.proofs.Fresh.{IsSeen}
use Rattle.pcc_rules.proofs.renewing.stale_sessions.Given as goal

-- those so far were looked at
abbrev pub invariant-loop-session : goal.invariant-loop-session
invariant-loop-session l = (e : List ℕ × List Fact) → In e l.initial.session-iterator → In e l.session-iterator ⊎ IsSeen l.lists l.found.items e
