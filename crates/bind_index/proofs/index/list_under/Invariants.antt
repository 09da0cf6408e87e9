use Rattle.std.proofs.Common.{take}
use Rattle.bind_index.specs.Index.{GrowsUnder, ListedUnder}
use Rattle.bind_index.proofs.index.list_under.Given as goal

-- nothing was unlisted, and the session is listed under those so far
abbrev pub invariant-loop-subscriber : goal.invariant-loop-subscriber
invariant-loop-subscriber l = record { grows : GrowsUnder l.fn.lists l.lists; so_far : ListedUnder l.lists l.id (take l.subscriber-index l.subscribers) }
