use Rattle.std.proofs.Common.{take}
use Rattle.std.specs.Option.{option_copied}
use Rattle.site_join.specs.States.{record_facts}
use Rattle.bind_index.specs.Forgetting.{ForgetsUnshown}
use Rattle.bind_index.proofs.subscribed.unlist_unshown.Given as goal

-- the session was taken out from under those so far that it doesn't show
abbrev pub invariant-loop-subscriber : goal.invariant-loop-subscriber
invariant-loop-subscriber l = record { so_far : ForgetsUnshown l.fn.lists l.lists l.id (take l.subscriber-index l.subscribers) (record_facts (option_copied l.known)) }
