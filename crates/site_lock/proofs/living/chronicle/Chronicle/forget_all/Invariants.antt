use Rattle.std.proofs.Common.{◌≡◌, ◌+◌, ◌≤◌, length, map}
use Rattle.site_machine.specs.Ended.{session_named}
use Rattle.site_lock.specs.Deeds.{forgettable, forgot_more, with_all_forgotten}
use Rattle.site_lock.proofs.living.chronicle.Chronicle.forget_all.Given as goal

-- what is left to be done leads where all leads
abbrev pub invariant-loop-first : goal.invariant-loop-first
invariant-loop-first g l = record {
  count : l.count + length (forgettable l.self.site.state.holding (map session_named l.left)) ≡ length (forgettable l.fn.self.site.state.holding (map session_named l.sessions));
  room : l.count + length l.left ≤ length l.sessions;
  deeds : with_all_forgotten l.self (forgettable l.self.site.state.holding (map session_named l.left)) ≡ with_all_forgotten l.fn.self (forgettable l.fn.self.site.state.holding (map session_named l.sessions));
  keeper : forgot_more l.keeper (forgettable l.self.site.state.holding (map session_named l.left)) ≡ forgot_more l.fn.keeper (forgettable l.fn.self.site.state.holding (map session_named l.sessions));
}

abbrev pub decreases-loop-first : goal.decreases-loop-first
decreases-loop-first g l = length l.left
