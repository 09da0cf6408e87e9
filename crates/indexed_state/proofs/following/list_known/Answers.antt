use Rattle.std.proofs.Common.{List, sym, ap, ◌∙◌, subst}
use Rattle.std.specs.Option.{option_copied}
use Rattle.pcrf_values.specs.Facts.{Fact}
use Rattle.pcrf_model.specs.Views.{view}
use Rattle.bind_index.specs.Index.{ListsGateway}
use Rattle.bind_index.proofs.Covered.{covers_grow}
use Rattle.bind_index.proofs.Covering.{grows_itself}
use Rattle.site_join.specs.States.{record_facts}
use Rattle.indexed_state.proofs.Agreeing.{placed_covered, none_listed}
use Rattle.indexed_state.proofs.following.list_known.Goals as goal

pub returns-in_default-clause-grows : goal.returns-in_default-clause-grows
returns-in_default-clause-grows c = grows_itself c.args.index.now

pub returns-in_default-clause-covers : goal.returns-in_default-clause-covers
returns-in_default-clause-covers c = λ listed before after is differs covers.
    let none = sym (ap (λ o. record_facts (option_copied o)) c.in_default.is) ∙ is in
    placed_covered before after c.args.id.now c.args.index.now differs covers
    (subst (λ (fs : List Fact). ListsGateway c.args.index.now c.args.id.now fs) none (none_listed c.args.index.now c.args.id.now))

pub returns-in-Ok-clause-covers : goal.returns-in-Ok-clause-covers
returns-in-Ok-clause-covers c = λ listed before after is differs covers.
    let index = c.cover_gateway.new.self in
    let facts = sym (ap (λ o. record_facts (option_copied o)) c.in-Some.is) ∙ is in
    placed_covered before after c.args.id.now index differs
    (covers_grow (view before) c.args.index.now index c.cover_gateway.ensures.grows covers)
    (subst (λ (fs : List Fact). ListsGateway index c.args.id.now fs) facts c.in-Ok.ensures.lists)
