use Rattle.std.proofs.Common.{rules, sym, subst, ◌≡◌, ◌∙◌}
use Rattle.pcrf_values.specs.Ascending.{ascending}
use Rattle.pcrf_values.specs.Subscribers.{subscriber_cmp}
use Rattle.pcrf_values.specs.laws.Values.{subscriber_total, subscriber_same}
use Rattle.pcrf_values.proofs.AscendingLaws.{ascending_twice}
use Rattle.pcrf_values.proofs.subscribers.Subscribers.of.Goals as goal

pub invariant_of-result : goal.invariant_of-result
invariant_of-result c =
    let is : c.of.result ≡ ascending subscriber_cmp c.args.given.items = c.of.ensures ∙ c.in_ok-members.ensures in
    (search rules, search rules, subst (λ l. ascending subscriber_cmp l ≡ l) (sym is) (ascending_twice subscriber_cmp (record { total = subscriber_total; same = subscriber_same }) c.args.given.items))
