use Rattle.std.proofs.Common.{◌≡◌, ◌++◌, map}
use Rattle.pcrf_model.specs.Views.{view}
use Rattle.indexed_state.specs.ByRecord.{gx_among}
use Rattle.indexed_state.specs.Shown.{gx_pair}
use Rattle.indexed_state.proofs.gateways.gateways.Given as goal

-- those seen so far, and those among the rest
abbrev pub invariant-loop-session : goal.invariant-loop-session
invariant-loop-session l =
    map gx_pair l.found.items ++ gx_among l.tables (view l.state.facts) l.session-iterator
    ≡ gx_among l.tables (view l.state.facts) l.fn.sessions
