use Rattle.std.proofs.Common.{◌≡◌, ℕ, IfOk, List, [], ◌++◌, map, refl, sym, ap, ◌∙◌, subst}
use Rattle.std.proofs.lemmas.Result.{IfOk-weaker}
use Rattle.pcrf_values.specs.Sets.{Distinct}
use Rattle.pcrf_values.specs.RuleValues.{RuleValue}
use Rattle.pcrf_model.specs.Sessions.{gx, af}
use Rattle.pcrf_model.specs.Views.{view}
use Rattle.pcrf_model.specs.Rules.{rules}
use Rattle.pcrf_model.specs.Differences.{rule_name_of}
use Rattle.bind_index.proofs.Entries.{AreRecordsOf}
use Rattle.pcc_rules.specs.FlowsAlone.{rules_of_sessions}
use Rattle.pcc_rules.specs.Listing.{keyed}
use Rattle.pcc_rules.proofs.Flows.{all_have}
use Rattle.pcc_rules.proofs.Derived.{dead_has_none, derived_is, derived_apart}
use Rattle.pcc_rules.proofs.derivation.derive.Goals as goal

pub returns-in_default-clause-derived : goal.returns-in_default-clause-derived
returns-in_default-clause-derived c =
    c.new.ensures.items ∙ dead_has_none c.args.tables.now c.args.state.now.facts c.args.session.now [] c.in_default.ensures refl

pub returns-then-not-live-clause-derived : goal.returns-then-not-live-clause-derived
returns-then-not-live-clause-derived c =
    c.new-then-not-live.ensures.items ∙ dead_has_none c.args.tables.now c.args.state.now.facts c.args.session.now c.in-Some.gateway.now c.in-Some.ensures (sym c.live.ensures ∙ c.if-not-live.true)

pub returns-clause-derived : goal.returns-clause-derived
returns-clause-derived c =
    let records : AreRecordsOf af c.args.state.now.facts c.all_af.result = record { ascending = c.all_af.ensures.ascending; reads = c.all_af.ensures.facts } in
    let live = sym c.live.ensures ∙ c.if-not-live.false in
    subst (λ (xs : List RuleValue). IfOk c.in_order.result (λ made. made.items ≡ xs))
    (derived_is c.args.tables.now c.args.state.now.facts c.args.session.now c.all_af.result (all_have c.args.state.now.facts (gx c.args.session.now) c.all_af.result records) c.in-Some.gateway.now c.in-Some.ensures live c.add_bound.new.found.items
    (c.in_ok-add_bound.ensures.added ∙ ap (λ (xs : List (ℕ × RuleValue)). xs ++ map keyed (rules_of_sessions c.args.tables.now (view c.args.state.now.facts) (gx c.args.session.now) c.all_af.result)) c.in_ok-found.ensures.given))
    c.in_order.ensures

pub returns-clause-names_apart : goal.returns-clause-names_apart
returns-clause-names_apart c =
    let records : AreRecordsOf af c.args.state.now.facts c.all_af.result = record { ascending = c.all_af.ensures.ascending; reads = c.all_af.ensures.facts } in
    let live = sym c.live.ensures ∙ c.if-not-live.false in
    let all = rules c.args.tables.now (view c.args.state.now.facts) (gx c.args.session.now) in
    IfOk-weaker c.in_order.result (λ made. made.items ≡ all) (λ made. Distinct (map rule_name_of made.items))
    (λ made h. subst (λ (xs : List RuleValue). Distinct (map rule_name_of xs)) (sym h)
    (derived_apart c.args.tables.now c.args.state.now.facts c.args.session.now c.all_af.result (all_have c.args.state.now.facts (gx c.args.session.now) c.all_af.result records) c.in-Some.gateway.now c.in-Some.ensures live c.in_ok-add_bound.ensures.low c.in_ok-found.ensures.apart))
    (returns-clause-derived c)
