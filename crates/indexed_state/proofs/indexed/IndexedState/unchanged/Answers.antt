use Rattle.std.proofs.Common.{◌≡◌, true, List, map, sym, ◌∙◌, subst}
use Rattle.pcrf_values.specs.Sets.{Distinct}
use Rattle.pcrf_values.specs.RuleValues.{RuleValue}
use Rattle.pcrf_values.specs.Facts.{Fact}
use Rattle.pcrf_values.specs.Held.{kept_list, join_of}
use Rattle.pcrf_values.specs.ToldWords.{ToldRule, told_rules}
use Rattle.pcrf_model.specs.Differences.{difference, is_empty, rule_name_of}
use Rattle.pcrf_model.specs.Holdings.{facts_on}
use Rattle.pcrf_model.specs.Rules.{rules}
use Rattle.pcrf_model.specs.Sessions.{gx}
use Rattle.pcrf_model.specs.Views.{view}
use Rattle.gx_records.specs.GxFacts.{fact_of}
use Rattle.indexed_state.specs.Alike.{BringsNothing, ShowAlike}
use Rattle.indexed_state.specs.Indexed.{IndexedValue}
use Rattle.indexed_state.proofs.Refreshing.{refreshed_alike, refreshed_told}
use Rattle.indexed_state.proofs.indexed.IndexedState.unchanged.Goals as goal

pub returns-clause-nothing : goal.returns-clause-nothing
returns-clause-nothing c =
    let id = c.args.id.now in
    let ts = map fact_of c.args.facts.now in
    let own = c.in-Some.known.now in
    let there = c.in-Some.ensures in
    let kept = c.self.invariant.kept in
    let told = c.was_told_kept.ensures c.if-not-was_told_kept.false in
    let is = kept.each id told.0 told.1 in
    let each = c.refresh.ensures c.if-not-refresh.false in
    let live = sym c.live.ensures ∙ c.if-not-live.false in
    let joined : List Fact → List Fact = λ fs. join_of fs (kept_list ts) in
    let all = rules c.self.inside.tables (view c.self.inside.state.facts) (gx id) in
    subst (λ (x : IndexedValue). BringsNothing x.tables x.holding (gx id) (join_of (facts_on x.holding.facts (gx id)) (kept_list ts))) c.self.view_is (record {
      alike = subst (λ (fs : List Fact). ShowAlike fs (joined fs)) there (refreshed_alike own ts each live);
      apart = subst (λ (rs : List RuleValue). Distinct (map rule_name_of rs)) is (kept.apart id told.0 told.1);
      told = subst (λ (fs : List Fact). is_empty (difference (told_rules (joined fs)) all) ≡ true) there
          (subst (λ (rs : List RuleValue). is_empty (difference (told_rules (joined own)) rs) ≡ true) is
          (subst (λ (us : List ToldRule). is_empty (difference us told.0) ≡ true) (refreshed_told own ts each) told.2));
    })
