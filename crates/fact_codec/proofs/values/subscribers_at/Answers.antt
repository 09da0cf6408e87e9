use Rattle.std.proofs.Common.{◌≡◌, ◌∙◌, true, ap, None, Some, rules, append_assoc}
use Rattle.pcrf_values.specs.Ascending.{ascending}
use Rattle.pcrf_values.specs.Limits.{subscribers_limit}
use Rattle.pcrf_values.specs.Subscribers.{subscriber_cmp}
use Rattle.pcrf_values.specs.Texts.{one_to}
use Rattle.pcrf_values.proofs.FactLaws.{subscriber_ranked}
use Rattle.pcrf_model.specs.Forms.{is_rising}
use Rattle.fact_codec.specs.Said.{subscribers}
use Rattle.fact_codec.proofs.Rising.{one_to_is, set_itself}
use Rattle.fact_codec.proofs.values.subscribers_at.Goals as goal

pub returns-in_default-clause-read : goal.returns-in_default-clause-read
unfolding subscribers
returns-in_default-clause-read c =
    let rising : is_rising subscriber_cmp c.in_ok-list.list.items ≡ true = search rules in
    let same = set_itself subscriber_cmp subscriber_ranked c.in_ok-list.list.items rising in
    let set : None ≡ one_to subscribers_limit (ascending subscriber_cmp c.in_ok-list.list.items) = search rules in
    let few : None ≡ one_to subscribers_limit c.in_ok-list.list.items = set ∙ ap (one_to subscribers_limit) same in
    search rules

pub returns-clause-read : goal.returns-clause-read
unfolding subscribers
returns-clause-read c =
    let rising : is_rising subscriber_cmp c.in_ok-list.list.items ≡ true = search rules in
    let same = set_itself subscriber_cmp subscriber_ranked c.in_ok-list.list.items rising in
    let set : Some c.in-Some.subscribers ≡ one_to subscribers_limit (ascending subscriber_cmp c.in_ok-list.list.items) = search rules in
    let few : Some c.in-Some.subscribers ≡ one_to subscribers_limit c.in_ok-list.list.items = set ∙ ap (one_to subscribers_limit) same in
    search rules

pub returns-clause-spelled : goal.returns-clause-spelled
returns-clause-spelled c =
    let rising : is_rising subscriber_cmp c.in_ok-list.list.items ≡ true = search rules in
    let same = set_itself subscriber_cmp subscriber_ranked c.in_ok-list.list.items rising in
    let set : Some c.in-Some.subscribers ≡ one_to subscribers_limit (ascending subscriber_cmp c.in_ok-list.list.items) = search rules in
    let is : c.in-Some.subscribers ≡ c.in_ok-list.list.items = one_to_is subscribers_limit c.in-Some.subscribers c.in_ok-list.list.items (set ∙ ap (one_to subscribers_limit) same) in
    rw is (search (rules, append_assoc))
