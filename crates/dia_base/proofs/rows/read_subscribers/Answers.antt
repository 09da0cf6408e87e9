use Rattle.std.proofs.Common.{◌≡◌, ◌≤◌, length, arith, ◌∙◌, ap}
use Rattle.pcrf_values.specs.Ascending.{ascending}
use Rattle.pcrf_values.specs.Sets.{if_any}
use Rattle.pcrf_values.proofs.Lengths.{length-ascending}
use Rattle.pcrf_values.specs.Limits.{subscribers_limit}
use Rattle.pcrf_values.specs.Subscribers.{subscriber_cmp}
use Rattle.pcrf_values.proofs.Ranges.{one_to-if_any}
use Rattle.dia_codec.specs.Spelling.{avp_views}
use Rattle.dia_base.specs.Subscriptions.{named_subscribers}
use Rattle.dia_base.proofs.rows.read_subscribers.Goals as goal

pub returns-clause-subscribers : goal.returns-clause-subscribers
returns-clause-subscribers c =
    let named : c.in_ok-given.given.items ≡ named_subscribers (avp_views c.args.avps.now) = rw c.base_key-key.ensures at c.in_ok-given.ensures.read in
    let short : length (ascending subscriber_cmp c.in_ok-given.given.items) ≤ subscribers_limit =
    omega (arith, c.in_ok-given.ensures.within, length-ascending subscriber_cmp c.in_ok-given.given.items) in
    c.in_ok-set.ensures ∙ one_to-if_any subscribers_limit (ascending subscriber_cmp c.in_ok-given.given.items) short ∙ ap (λ l. if_any (ascending subscriber_cmp l)) named
