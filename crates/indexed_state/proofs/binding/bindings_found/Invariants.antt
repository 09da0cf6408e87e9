use Rattle.std.proofs.Common.{◌≡◌, ◌++◌}
use Rattle.pcrf_model.specs.Views.{view}
use Rattle.indexed_state.specs.ByRecord.{bindings_among}
use Rattle.indexed_state.proofs.binding.bindings_found.Given as goal

-- those found so far, and those among the rest
abbrev pub invariant-loop-session : goal.invariant-loop-session
invariant-loop-session l =
    l.found.items ++ bindings_among (view l.state.facts) l.session-iterator
    ≡ bindings_among (view l.state.facts) l.fn.sessions
