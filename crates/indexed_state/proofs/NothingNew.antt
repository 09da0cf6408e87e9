-- Where a record that brings nothing new takes its session's place, the gateway is to be told nothing, and no session has to wait.
use Rattle.std.proofs.lemmas.Bool.Decides.{nat_tests}
use Rattle.std.proofs.lemmas.List.{nil_from_length}
use Rattle.std.proofs.Math.Seq.{take-nil}
use Rattle.std.proofs.Common.{◌≡◌, ℕ, ◌+◌, ◌-◌, Bool, true, List, [], length, refl, sym, ap, ◌∙◌, arith}
use Rattle.pcrf_values.specs.RuleValues.{DeltaValue}
use Rattle.pcrf_values.specs.Facts.{Fact}
use Rattle.pcrf_values.specs.ToldWords.{ToldRule, told_rules}
use Rattle.pcrf_model.specs.Differences.{difference, first, is_empty, told_rules_of}
use Rattle.pcrf_model.specs.Holdings.{Holding, facts_on}
use Rattle.pcrf_model.specs.Laws.{BindsAlike, DifferInOne}
use Rattle.pcrf_model.specs.Rules.{rules}
use Rattle.pcrf_model.specs.Serving.{delta_of, empty_delta}
use Rattle.pcrf_model.specs.Sessions.{gx}
use Rattle.pcrf_model.specs.Tables.{Tables}
use Rattle.pcrf_model.specs.Views.{view}
use Rattle.pcrf_model.proofs.NeighbourLaws.{all_keep}
use Rattle.rule_delta.proofs.ToldAlone.{told_alone}
use Rattle.bind_index.specs.Index.{IndexValue}
use Rattle.pcc_rules.specs.Cached.{RulesValue}
use Rattle.rule_delta.specs.Waits.{WaitingValue, waiting_of, DueWait}
use Rattle.indexed_state.specs.Alike.{BringsNothing}
use Rattle.indexed_state.specs.Indexed.{Agree}
use Rattle.indexed_state.proofs.BindingAlike.{binds_alike, agree_due}
use Rattle.indexed_state.proofs.DueByRules.{none_more}

-- where nothing is to be removed or installed, no name and no rule is there
emptied : (d : DeltaValue) → is_empty d ≡ true → d ≡ empty_delta
emptied d none =
    let entries : length d.removed + length d.installed ≡ 0 = grind (arith, nat_tests) in
    let names = nil_from_length d.removed (omega arith) in
    let left = nil_from_length d.installed (omega arith) in
    λ i. record { removed = names i; installed = left i }

-- and the first entries of nothing are none
first_of_none : (n : ℕ) → first n empty_delta ≡ empty_delta
first_of_none n = λ i. record { removed = take-nil n i; installed = take-nil (n - 0) i }

module _ (t : Tables) (h k : Holding) (id : List ℕ) (known : List Fact) (there : known ≡ facts_on k.facts (gx id)) (differs : DifferInOne h.facts k.facts (gx id)) (nothing : BringsNothing t h (gx id) known) where
  -- it binds as before
  alike : BindsAlike (view h.facts) (view k.facts) (gx id)
  alike = binds_alike h k id (facts_on h.facts (gx id)) known refl there nothing.alike

  -- so its rules stay
  pub rules_stay : rules t (view h.facts) (gx id) ≡ rules t (view k.facts) (gx id)
  rules_stay = all_keep t h.facts k.facts (gx id) (gx id) differs alike

  -- what was told is read of the record
  told_is : told_rules known ≡ told_rules_of (view k.facts) (gx id)
  told_is = ap told_rules there ∙ told_alone k.facts (gx id)

  -- it was told just these
  all_told : is_empty (difference (told_rules_of (view k.facts) (gx id)) (rules t (view k.facts) (gx id))) ≡ true
  all_told = (λ i. is_empty (difference (sym told_is i) (sym rules_stay i))) ∙ nothing.told

  -- so it isn't due, and all that are due wait already
  still_wait : (i : ℕ) (w : WaitingValue) → DueWait t i (view h.facts) w → DueWait t i (view k.facts) w
  still_wait i w due = record {
    listed = λ all. none_more t i h.facts k.facts (gx id) (waiting_of w) differs (due.listed all) (λ s. all_keep t h.facts k.facts (gx id) s differs alike) all_told;
  }

  -- and the parts agree
  pub agree_nothing : (i : ℕ) (b : Bool) (index : IndexValue) (r : RulesValue) (w x : WaitingValue) → Agree t i h b index r w x → Agree t i k b index r w x
  agree_nothing i b index r w x a = agree_due h k id differs alike t i b index r w w x (still_wait i w a.due) a

  -- nothing is to be told
  pub nothing_told : (n : ℕ) → delta_of n t (view k.facts) (gx id) ≡ empty_delta
  nothing_told n =
      (λ i. first n (difference (sym told_is i) (sym rules_stay i)))
      ∙ ap (first n) (emptied (difference (told_rules known) (rules t (view h.facts) (gx id))) nothing.told)
      ∙ first_of_none n
