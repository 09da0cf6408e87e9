use Rattle.std.proofs.Common.{◌≡◌}
use Rattle.std.specs.Option.{option_copied}
use Rattle.pcrf_model.specs.Views.{view}
use Rattle.rule_delta.specs.AbortsByRecord.{first_abort}
use Rattle.rule_delta.proofs.aborts.aborting.first_of.Given as goal

-- none so far is abandoned
abbrev pub invariant-loop-session : goal.invariant-loop-session
invariant-loop-session l =
    first_abort (view l.state.facts) l.asked.site (option_copied l.asked.host) l.session-iterator
    ≡ first_abort (view l.state.facts) l.asked.site (option_copied l.asked.host) l.fn.sessions
