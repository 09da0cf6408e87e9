use Rattle.std.proofs.Common.{◌≡◌, ◌++◌}
use Rattle.bind_index.specs.Listings.{asked_value, listed_among}
use Rattle.bind_index.proofs.listing.list.Given as goal

-- those found so far, and those that are listed among the rest
abbrev pub invariant-loop-session : goal.invariant-loop-session
invariant-loop-session l =
    l.found.items ++ listed_among (asked_value l.asked) l.session-iterator
    ≡ listed_among (asked_value l.asked) l.fn.sessions
