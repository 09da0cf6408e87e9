-- What was found, in order, is the session's rules.
use Rattle.std.proofs.Common.{◌≡◌, ℕ, Bool, true, false, cond, List, [], ◌++◌, map, sym, ap, ◌∙◌, subst}
use Rattle.std.proofs.lemmas.List.{map-append}
use Rattle.pcrf_values.specs.Ascending.{ascending}
use Rattle.pcrf_values.specs.Sets.{Same, Distinct}
use Rattle.pcrf_values.proofs.SetLaws.{Same-append, Same-itself, map-Same}
use Rattle.pcrf_values.specs.RuleValues.{RuleValue}
use Rattle.pcrf_values.specs.Facts.{Fact}
use Rattle.pcrf_values.specs.Live.{gx_is_live}
use Rattle.pcrf_values.specs.Places.{apn}
use Rattle.pcrf_model.specs.Holdings.{SessionFact, facts_on}
use Rattle.pcrf_model.specs.Sessions.{Session, gx}
use Rattle.pcrf_model.specs.Views.{View, view, text}
use Rattle.pcrf_model.specs.Tables.{Tables}
use Rattle.pcrf_model.specs.Rules.{apn_of, operator_rules, flow_rules, listed_cmp, rules}
use Rattle.pcrf_model.specs.Differences.{rule_name_of}
use Rattle.pcrf_model.proofs.RuleNames.{row_of, names_differ}
use Rattle.site_join.specs.States.{Records}
use Rattle.op_tables.specs.Statements.{NamesRulesApart}
use Rattle.bind_index.specs.Beside.{beside}
use Rattle.pcc_rules.specs.FlowsAlone.{rules_of_sessions, AreLowWhereBound}
use Rattle.pcc_rules.specs.Listed.{HasBound}
use Rattle.pcc_rules.specs.Listing.{keyed, unkeyed, keyed_cmp, RowNamesApart}
use Rattle.pcc_rules.proofs.Ordered.{listed_is}
use Rattle.pcc_rules.proofs.Flows.{same_rules, low_flows}

-- a session that is not live has no rules
pub dead_has_none : (t : Tables) (facts : List SessionFact) (id : List ℕ) (known : List Fact) → known ≡ facts_on facts (gx id) → gx_is_live known ≡ false → [] ≡ rules t (view facts) (gx id)
unfolding view rules
dead_has_none t facts id known its dead =
    ap (λ (b : Bool). cond b (ascending listed_cmp (operator_rules t (view facts) (gx id) ++ flow_rules t (view facts) (gx id))) []) (sym dead ∙ ap gx_is_live its)

-- no access point is shown, or one whose rules have different names
pub names_apart_at : (t : Tables) (v : View) (s : Session) → NamesRulesApart t → RowNamesApart t v s
names_apart_at t v s apart row h = let w = row_of t (text v s apn) row h in apart w.0 row w.1

module _ (t : Tables) (facts : List SessionFact) (id : List ℕ) (es : Records) (r : HasBound facts (gx id) es) (known : List Fact) (its : known ≡ facts_on facts (gx id)) (live : gx_is_live known ≡ true) where
  -- what is read of the facts
  abbrev v : View
  v = view facts

  -- the operator's rules are read of the session alone
  operator_alone : operator_rules t (beside known []) (gx []) ≡ operator_rules t v (gx id)
  unfolding view
  operator_alone = ap (λ (fs : List Fact). operator_rules t (beside fs []) (gx [])) its

  -- and so is its access point
  row_alone : apn_of t v (gx id) ≡ apn_of t (beside known []) (gx [])
  unfolding view
  row_alone = ap (λ (fs : List Fact). apn_of t (beside fs []) (gx [])) (sym its)

  -- all that is found
  abbrev found : List (ℕ × RuleValue)
  found = map keyed (operator_rules t (beside known []) (gx [])) ++ map keyed (rules_of_sessions t v (gx id) es)

  -- is the operator's and the flows' rules
  found_same : Same found (map keyed (operator_rules t v (gx id) ++ flow_rules t v (gx id)))
  found_same = subst (λ (ys : List (ℕ × RuleValue)). Same found ys) (sym (map-append keyed (operator_rules t v (gx id)) (flow_rules t v (gx id))))
      (Same-append (map keyed (operator_rules t (beside known []) (gx []))) (map keyed (rules_of_sessions t v (gx id) es)) (map keyed (operator_rules t v (gx id))) (map keyed (flow_rules t v (gx id)))
      (subst (λ (xs : List RuleValue). Same (map keyed (operator_rules t (beside known []) (gx []))) (map keyed xs)) operator_alone (Same-itself (map keyed (operator_rules t (beside known []) (gx [])))))
      (map-Same keyed (rules_of_sessions t v (gx id) es) (flow_rules t v (gx id)) (same_rules t facts (gx id) es r)))

  -- and in order the rules of the session
  pub derived_is : (all : List (ℕ × RuleValue)) → all ≡ found → map unkeyed (ascending keyed_cmp all) ≡ rules t v (gx id)
  unfolding view rules
  derived_is all h =
      ap (λ (xs : List (ℕ × RuleValue)). map unkeyed (ascending keyed_cmp xs)) h
      ∙ listed_is found (operator_rules t v (gx id) ++ flow_rules t v (gx id)) found_same
      ∙ ap (λ (b : Bool). cond b (ascending listed_cmp (operator_rules t v (gx id) ++ flow_rules t v (gx id))) []) (sym live ∙ ap gx_is_live its)

  -- no two of one name
  pub derived_apart : AreLowWhereBound v (gx id) es → RowNamesApart t (beside known []) (gx []) → Distinct (map rule_name_of (rules t v (gx id)))
  derived_apart low apart = names_differ t facts (gx id) (low_flows t facts (gx id) es r low) (λ row h. apart row (sym row_alone ∙ h))
