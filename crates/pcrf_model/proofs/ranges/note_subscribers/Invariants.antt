use Rattle.std.proofs.Common.{◌≡◌, true, take}
use Rattle.std.specs.List.{list_all}
use Rattle.pcrf_model.specs.Forms.{is_subscriber}
use Rattle.pcrf_model.proofs.ranges.note_subscribers.Given as goal

-- those so far are subscribers
abbrev pub invariant-loop-subscriber : goal.invariant-loop-subscriber
invariant-loop-subscriber l = list_all is_subscriber (take l.subscriber-index l.subscriber-items) ≡ true
