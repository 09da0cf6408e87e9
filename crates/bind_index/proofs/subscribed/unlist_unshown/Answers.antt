use Rattle.std.proofs.Common.{sym, subst, List}
use Rattle.std.specs.Option.{option_copied}
use Rattle.pcrf_values.specs.Values.{Subscriber}
use Rattle.site_join.specs.States.{record_facts}
use Rattle.bind_index.specs.Forgetting.{ForgetsUnshown}
use Rattle.bind_index.proofs.BySubscriber.{unshown_none, unshown_more}
use Rattle.bind_index.proofs.Covering.{next_taken}
use Rattle.bind_index.proofs.subscribed.unlist_unshown.Goals as goal

pub loop-subscriber-init : goal.loop-subscriber-init
loop-subscriber-init c = record { so_far = unshown_none _ c.args.id.now (record_facts (option_copied c.args.known)) }

pub loop-subscriber-preserved : goal.loop-subscriber-preserved
loop-subscriber-preserved c =
    let item = c.subscriber-item.result in
    let facts = record_facts (option_copied c.args.known) in
    record {
      so_far = subst (λ (xs : List Subscriber). ForgetsUnshown c.args.lists.now c.unlist_unless_shown.new.lists c.args.id.now xs facts)
          (sym (next_taken c.args.subscribers.now c.loop-subscriber.subscriber-index item c.loop-subscriber-test.true c.subscriber-item.is))
          (unshown_more _ c.loop-subscriber.lists c.unlist_unless_shown.new.lists c.args.id.now _ item facts c.loop-subscriber.invariant.so_far c.unlist_unless_shown.ensures);
    }
