use Rattle.std.proofs.Common.{sym, subst, List}
use Rattle.pcrf_values.specs.Values.{Subscriber}
use Rattle.bind_index.specs.Forgetting.{ForgetsEach}
use Rattle.bind_index.proofs.Covering.{next_taken}
use Rattle.bind_index.proofs.Forgotten.{each_none, each_more}
use Rattle.bind_index.proofs.index.unlist_under.Goals as goal

pub loop-subscriber-init : goal.loop-subscriber-init
loop-subscriber-init c = record { so_far = each_none _ c.args.id.now }

pub loop-subscriber-preserved : goal.loop-subscriber-preserved
loop-subscriber-preserved c =
    let item = c.subscriber-item.result in
    record {
      so_far = subst (λ (xs : List Subscriber). ForgetsEach c.args.lists.now c.remove.new.self c.args.id.now xs)
          (sym (next_taken c.args.subscribers.now c.loop-subscriber.subscriber-index item c.loop-subscriber-test.true c.subscriber-item.is))
          (each_more _ c.loop-subscriber.lists c.remove.new.self c.args.id.now _ item c.loop-subscriber.invariant.so_far c.remove.ensures);
    }
