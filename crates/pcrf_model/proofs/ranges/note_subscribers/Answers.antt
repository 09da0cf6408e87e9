use Rattle.std.proofs.Common.{◌≡◌, true, ◌∙◌, subst}
use Rattle.std.proofs.lemmas.List.{take_all}
use Rattle.std.specs.List.{list_all}
use Rattle.pcrf_model.specs.Forms.{is_subscriber}
use Rattle.pcrf_model.proofs.RangeLaws.{subscribers_pass}
use Rattle.pcrf_model.proofs.ranges.note_subscribers.Goals as goal

pub returns : goal.returns
returns c =
    let set = c.as_slice-subscriber-items.ensures in
    let whole = take_all c.loop-subscriber.subscriber-index c.as_slice-subscriber-items.result.now c.loop-subscriber-test.false ∙ set.members in
    let each = subst (λ xs. list_all is_subscriber xs ≡ true) whole c.loop-subscriber.invariant in
    subscribers_pass c.args.subscribers.now set.not_empty set.within set.ascending each
