use Rattle.std.proofs.Common.{◌≡◌, ◌++◌}
use Rattle.bind_index.specs.Listings.{HasSubscriber}
use Rattle.bind_index.specs.Index.{asked_among}
use Rattle.bind_index.proofs.subscribed.list_asked.Given as goal

-- those found so far, and those that are asked for among the rest
abbrev pub invariant-loop-session : goal.invariant-loop-session
invariant-loop-session l =
    l.found.items ++ asked_among (HasSubscriber l.subscriber) l.state.facts l.session-iterator
    ≡ asked_among (HasSubscriber l.subscriber) l.state.facts l.fn.ids
