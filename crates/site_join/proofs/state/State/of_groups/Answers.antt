use Rattle.std.proofs.Common.{◌≡◌, true, List, [], ◌∷◌, ◌++◌, map, sym, subst}
use Rattle.std.proofs.lemmas.List.{nil_from_length}
use Rattle.std.specs.Cmp.{first_so, second_so}
use Rattle.std.specs.List.{list_all}
use Rattle.pcrf_values.specs.Sets.{Same}
use Rattle.pcrf_model.specs.Holdings.{SessionFact, Holding, kept_facts}
use Rattle.pcrf_model.specs.Forms.{is_holding}
use Rattle.site_join.specs.Groups.{Group, group_of, is_group, facts_of_groups}
use Rattle.site_join.specs.States.{Records, facts_of, gx_with}
use Rattle.site_join.specs.declared.operation.SessionFacts.{SessionFacts}
use Rattle.site_join.proofs.HeldGroups.{groups_by_test, groups_held, group_record, first_taken, all_taken}
use Rattle.site_join.proofs.state.State.of_groups.Goals as goal

pub join_facts-requires : goal.join_facts-requires
join_facts-requires c =
    let all : list_all (is_group c.args.clock) (map group_of (c.in-Some.first.now ∷ c.in-Some.rest.now)) ≡ true =
    subst (λ (l : List SessionFacts). list_all (is_group c.args.clock) (map group_of l) ≡ true) c.in-Some.ensures.cases.0 c.loop-first.invariant.form in
    group_record c.args.clock (group_of c.in-Some.first.now) (first_so (is_group c.args.clock (group_of c.in-Some.first.now)) _ all)

pub loop-first-preserved : goal.loop-first-preserved
loop-first-preserved c =
    let first = c.in-Some.first.now in
    let rest : List SessionFact = facts_of_groups (map group_of c.in-Some.rest.now) in
    let total : List SessionFact = kept_facts (facts_of_groups (map group_of c.args.groups.items)) in
    let all : list_all (is_group c.args.clock) (map group_of (first ∷ c.in-Some.rest.now)) ≡ true =
    subst (λ (l : List SessionFacts). list_all (is_group c.args.clock) (map group_of l) ≡ true) c.in-Some.ensures.cases.0 c.loop-first.invariant.form in
    let before : Same (kept_facts (facts_of c.loop-first.gx c.loop-first.af ++ facts_of_groups (map group_of (first ∷ c.in-Some.rest.now)))) total =
    subst (λ (l : List SessionFacts). Same (kept_facts (facts_of c.loop-first.gx c.loop-first.af ++ facts_of_groups (map group_of l))) total) c.in-Some.ensures.cases.0 c.loop-first.invariant.facts in
    let after = first_taken c.loop-first.gx c.loop-first.af first rest total c.note_valid.ensures c.note_valid-in-Some.ensures before in
    record {
      form = second_so (is_group c.args.clock (group_of first)) _ all;
      facts = subst (λ (es : Records). Same (kept_facts (facts_of es c.join_facts.new.af ++ rest)) total) (sym c.in_ok-join_facts.ensures.gx)
          (subst (λ (es : Records). Same (kept_facts (facts_of (gx_with c.loop-first.gx first) es ++ rest)) total) (sym c.in_ok-join_facts.ensures.af) after);
    }

pub invariant_of-result : goal.invariant_of-result
invariant_of-result c =
    let gs : List Group = map group_of c.args.groups.items in
    let form = groups_by_test c.args.clock gs c.requires in
    let none = nil_from_length c.loop-first.left.now c.in_default.ensures.cases in
    let left : Same (kept_facts (facts_of c.loop-first.gx c.loop-first.af ++ [])) (kept_facts (facts_of_groups gs)) =
    subst (λ (l : List SessionFacts). Same (kept_facts (facts_of c.loop-first.gx c.loop-first.af ++ facts_of_groups (map group_of l))) (kept_facts (facts_of_groups gs))) none c.loop-first.invariant.facts in
    let is = all_taken c.args.clock gs form c.loop-first.gx c.loop-first.af c.note_valid-2.ensures c.note_valid-3.ensures left in
    subst (λ (h : Holding). is_holding h ≡ true) (sym is) (groups_held c.args.clock gs form)

pub returns : goal.returns
returns c =
    let gs : List Group = map group_of c.args.groups.items in
    let form = groups_by_test c.args.clock gs c.requires in
    let none = nil_from_length c.loop-first.left.now c.in_default.ensures.cases in
    let left : Same (kept_facts (facts_of c.loop-first.gx c.loop-first.af ++ [])) (kept_facts (facts_of_groups gs)) =
    subst (λ (l : List SessionFacts). Same (kept_facts (facts_of c.loop-first.gx c.loop-first.af ++ facts_of_groups (map group_of l))) (kept_facts (facts_of_groups gs))) none c.loop-first.invariant.facts in
    all_taken c.args.clock gs form c.loop-first.gx c.loop-first.af c.note_valid-2.ensures c.note_valid-3.ensures left
