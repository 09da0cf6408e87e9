use Rattle.std.proofs.Common.{◌∙◌, sym, ap}
use Rattle.std.specs.Ordering.{is_lt}
use Rattle.pcrf_values.specs.Subscribers.{subscriber_cmp}
use Rattle.pcrf_values.proofs.FactLaws.{subscriber_ranked}
use Rattle.fact_codec.proofs.Rising.{rises_on}
use Rattle.fact_codec.proofs.values.are_rising.Goals as goal

pub loop-first-preserved-else-not-is_lt : goal.loop-first-preserved-else-not-is_lt
loop-first-preserved-else-not-is_lt c =
    c.loop-first.invariant ∙ rises_on subscriber_cmp subscriber_ranked c.loop-first.left.now c.in-Some.rest.now c.in-Some.first.now c.in-Some-first.second.now c.in-Some.ensures.cases.0 c.in-Some-first.ensures.value (sym (c.is_lt.ensures ∙ ap is_lt c.cmp.ensures) ∙ c.if-not-is_lt.false)
