use Rattle.std.proofs.Common.{◌≡◌, ◌++◌, map}
use Rattle.pcrf_model.specs.Views.{view}
use Rattle.indexed_state.specs.ByRecord.{af_among}
use Rattle.indexed_state.specs.Shown.{af_pair}
use Rattle.indexed_state.proofs.calls.calls.Given as goal

-- those seen so far, and those among the rest
abbrev pub invariant-loop-session : goal.invariant-loop-session
invariant-loop-session l =
    map af_pair l.found.items ++ af_among (view l.state.facts) l.session-iterator
    ≡ af_among (view l.state.facts) l.fn.sessions
