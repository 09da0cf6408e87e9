use Rattle.std.proofs.Common.{◌∙◌, ℕ, List, ap, subst}
use Rattle.std.proofs.lemmas.Result.{IfOk-weaker}
use Rattle.pcrf_values.specs.Ascending.{Rises}
use Rattle.pcrf_values.specs.Orders.{text_cmp}
use Rattle.bind_index.specs.Listings.{HasSubscriber}
use Rattle.bind_index.specs.Index.{asked_among}
use Rattle.bind_index.proofs.BySubscriber.{listed_are_sessions, none_listed}
use Rattle.bind_index.proofs.index.Index.sessions_of.Goals as goal

pub returns-in_default : goal.returns-in_default
returns-in_default c = λ all. c.new.ensures.items ∙ none_listed c.args.state.now.facts c.args.subscriber.now c.args.self.now all c.in_default.ensures

pub returns : goal.returns
returns c =
    let facts = c.args.state.now.facts in
    let x = c.args.subscriber.now in
    IfOk-weaker c.list_asked.result _ _ (λ found h all.
    h
    ∙ ap (asked_among (HasSubscriber x) facts) c.in-Some.ensures
    ∙ listed_are_sessions facts x c.args.self.now all (subst (λ (l : List (List ℕ)). Rises text_cmp l) c.in-Some.ensures c.list_asked.ensures.ascending))
    c.list_asked.ensures.asked
