use Rattle.std.proofs.Common.{◌≡◌}
use Rattle.std.specs.Option.{option_copied}
use Rattle.pcrf_model.specs.Views.{view}
use Rattle.rule_delta.specs.ByRecord.{first_push}
use Rattle.rule_delta.proofs.pushing.first_push.Given as goal

-- none so far is due
abbrev pub invariant-loop-session : goal.invariant-loop-session
invariant-loop-session l =
    first_push l.tables (view l.state.facts) l.asked.site (option_copied l.asked.host) l.session-iterator
    ≡ first_push l.tables (view l.state.facts) l.asked.site (option_copied l.asked.host) l.fn.sessions
