use Rattle.std.proofs.Common.{◌≡◌, ◌++◌, take}
use Rattle.std.specs.List.{flat_map}
use Rattle.fact_codec.specs.Spelling.{subscriber_bytes}
use Rattle.fact_codec.proofs.put_values.put_subscribers.Given as goal

abbrev pub invariant-loop-subscriber : goal.invariant-loop-subscriber
invariant-loop-subscriber l = l.out.items ≡ l.initial.out.items ++ flat_map subscriber_bytes (take l.subscriber-index l.list)
