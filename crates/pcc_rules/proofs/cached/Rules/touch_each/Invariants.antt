use Rattle.pcc_rules.proofs.Stale.{StaleSoFar}
use Rattle.pcc_rules.proofs.cached.Rules.touch_each.Given as goal

-- once those that are left are stale, all are
abbrev pub invariant-loop-session : goal.invariant-loop-session
invariant-loop-session l = StaleSoFar l.fn.self l.self l.session-iterator l.fn.sessions
