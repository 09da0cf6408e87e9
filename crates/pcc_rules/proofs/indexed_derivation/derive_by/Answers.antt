use Rattle.std.proofs.Common.{◌≡◌, ℕ, List, [], ◌++◌, map, refl, sym, ap, ◌∙◌, subst}
use Rattle.std.proofs.lemmas.Result.{IfOk-weaker}
use Rattle.pcrf_values.specs.Ascending.{ascending}
use Rattle.pcrf_values.specs.Sets.{Distinct}
use Rattle.pcrf_values.specs.RuleValues.{RuleValue}
use Rattle.pcrf_model.specs.Sessions.{gx}
use Rattle.pcrf_model.specs.Views.{view}
use Rattle.pcrf_model.specs.Rules.{rules}
use Rattle.pcrf_model.specs.Differences.{rule_name_of}
use Rattle.bind_index.specs.Index.{Covers}
use Rattle.pcc_rules.specs.FlowsAlone.{rules_of_sessions}
use Rattle.pcc_rules.specs.Listing.{keyed, unkeyed, keyed_cmp}
use Rattle.pcc_rules.proofs.Derived.{dead_has_none, derived_is, derived_apart}
use Rattle.pcc_rules.proofs.indexed_derivation.derive_by.Goals as goal

pub returns-in_default-clause-derived : goal.returns-in_default-clause-derived
returns-in_default-clause-derived c = λ all.
    c.new.ensures.items ∙ dead_has_none c.args.tables.now c.args.state.now.facts c.args.session.now [] c.in_default.ensures refl

pub returns-then-not-live-clause-derived : goal.returns-then-not-live-clause-derived
returns-then-not-live-clause-derived c = λ all.
    c.new-then-not-live.ensures.items ∙ dead_has_none c.args.tables.now c.args.state.now.facts c.args.session.now c.in-Some.gateway.now c.in-Some.ensures (sym c.live.ensures ∙ c.if-not-live.true)

pub returns-clause-derived : goal.returns-clause-derived
returns-clause-derived c =
    let live = sym c.live.ensures ∙ c.if-not-live.false in
    let t = c.args.tables.now in
    let facts = c.args.state.now.facts in
    let id = c.args.session.now in
    let all = rules t (view facts) (gx id) in
    IfOk-weaker c.in_order.result (λ made. made.items ≡ map unkeyed (ascending keyed_cmp c.add_called.new.found.items)) (λ made. Covers (view facts) c.args.index.now → made.items ≡ all)
    (λ made h covers.
    let called = c.in_ok-add_called.ensures c.in-Some.ensures covers in
    h ∙ derived_is t facts id called.among called.bound c.in-Some.gateway.now c.in-Some.ensures live c.add_called.new.found.items
    (called.adds.items ∙ ap (λ (xs : List (ℕ × RuleValue)). xs ++ map keyed (rules_of_sessions t (view facts) (gx id) called.among)) c.in_ok-found.ensures.given))
    c.in_order.ensures

pub returns-clause-names_apart : goal.returns-clause-names_apart
returns-clause-names_apart c =
    let live = sym c.live.ensures ∙ c.if-not-live.false in
    let t = c.args.tables.now in
    let facts = c.args.state.now.facts in
    let id = c.args.session.now in
    let all = rules t (view facts) (gx id) in
    IfOk-weaker c.in_order.result (λ made. Covers (view facts) c.args.index.now → made.items ≡ all) (λ made. Covers (view facts) c.args.index.now → Distinct (map rule_name_of made.items))
    (λ made h covers.
    let called = c.in_ok-add_called.ensures c.in-Some.ensures covers in
    subst (λ (xs : List RuleValue). Distinct (map rule_name_of xs)) (sym (h covers))
    (derived_apart t facts id called.among called.bound c.in-Some.gateway.now c.in-Some.ensures live called.adds.low c.in_ok-found.ensures.apart))
    (returns-clause-derived c)
