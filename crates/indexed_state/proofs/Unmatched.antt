-- Where one gateway's session changes to which no call can be bound, before or after, every other session keeps its rules.
use Rattle.std.proofs.Common.{◌≡◌, true, false, cond, not, ◌&&◌, List, [], ◌++◌, Option, Some, None, sym, ap, ◌∙◌, subst, option_map, option_and_then, unwrap_or}
use Rattle.std.specs.Ordering.{is_eq}
use Rattle.pcrf_values.proofs.Plain.{clash, came_from}
use Rattle.pcrf_values.specs.Ascending.{ascending}
use Rattle.pcrf_values.specs.Sets.{In, Same}
use Rattle.pcrf_values.proofs.OrderLaws.{eq_is, eq_itself}
use Rattle.pcrf_values.proofs.SetLaws.{Same-back, Same-itself, Same-append, In-filter_map, filter_map-In}
use Rattle.pcrf_values.proofs.AscendingLaws.{ascending-Same}
use Rattle.pcrf_values.specs.RuleValues.{RuleValue}
use Rattle.pcrf_values.specs.Places.{FlowDescriptions, Place, OfFlow}
use Rattle.pcrf_model.specs.Sessions.{Session, session_cmp, is_gx}
use Rattle.pcrf_model.specs.Holdings.{SessionFact, facts_on}
use Rattle.pcrf_model.specs.Views.{View, Shown, view}
use Rattle.pcrf_model.specs.Live.{is_live}
use Rattle.pcrf_model.specs.Bindings.{party, suits, matches, standing, bind, is_bound_to}
use Rattle.pcrf_model.specs.Tables.{Tables}
use Rattle.pcrf_model.specs.Flows.{FlowId}
use Rattle.pcrf_model.specs.Rules.{flow_at, rule_of, rule_at, operator_rules, flow_rules, listed_cmp, rules}
use Rattle.pcrf_model.specs.Laws.{DifferInOne}
use Rattle.pcrf_model.proofs.HoldingLaws.{session_ranked}
use Rattle.pcrf_model.proofs.ViewLaws.{In-all, all-shows}
use Rattle.pcrf_model.proofs.BindLaws.{bind-greatest, matched}
use Rattle.pcrf_model.proofs.NeighbourLaws.{SaysTheSame, only, said, same_life, shown_there}
use Rattle.pcrf_model.proofs.RuleNames.{listed_ranked}

-- ---- sessions of which both views say the same

module _ (v w : View) (s : Session) (h : SaysTheSame v w s) where
  -- the operator gives them the same rules
  same_operator_rules : (t : Tables) → operator_rules t v s ≡ operator_rules t w s
  same_operator_rules t = λ i. operator_rules t (only (shown_there v w s h i) (h.ended i)) s

  -- they stand the same beside others
  same_standing : standing v s ≡ standing w s
  same_standing = λ i. standing (only (shown_there v w s h i) (h.ended i)) s

-- and match the same
same_match : (v w : View) (a s : Session) → SaysTheSame v w a → SaysTheSame v w s → matches v a s ≡ matches w a s
same_match v w a s h k = λ i.
    not (is_gx a.kind) && is_gx s.kind
    && suits (party (only (shown_there v w a h i) (h.ended i)) a) (party (only (shown_there v w s k i) (k.ended i)) s)

-- a flow of such a session has the same rule
same_rule : (t : Tables) (v w : View) (i : FlowId) → SaysTheSame v w i.session → rule_of t v i ≡ rule_of t w i
same_rule t v w f h = λ i. rule_of t (only (shown_there v w f.session h i) (h.ended i)) f

-- and so has the flow of a place
same_flow : (t : Tables) (v w : View) (a : Session) (p : Place) → SaysTheSame v w a → option_and_then (rule_of t v) (flow_at a p) ≡ option_and_then (rule_of t w) (flow_at a p)
same_flow t v w a (OfFlow c n FlowDescriptions) h = same_rule t v w (record { session = a; component = c; flow = n }) h
same_flow t v w a p h = λ i. option_and_then (rule_of t v) (flow_at a p)

-- who is bound to s is bound to it by `bind`
pub is_bound : (v : View) (s a : Session) → is_bound_to v s a ≡ true → bind v a ≡ Some s
is_bound v s a h = by (bind v a) h
  where
    by : (o : Option Session) → unwrap_or (option_map (λ x. is_eq (session_cmp x s)) o) false ≡ true → o ≡ Some s
    by None g = clash false g (λ i. false)
    by (Some x) g = ap Some (eq_is session_ranked x s g)

-- and the other way round
bound_is : (v : View) (s a : Session) → bind v a ≡ Some s → is_bound_to v s a ≡ true
bound_is v s a h = ap (λ o. unwrap_or (option_map (λ x. is_eq (session_cmp x s)) o) false) h ∙ eq_itself session_ranked s

-- the flows of sessions that stay bound have their rules in the second view too
flows_stay : (t : Tables) (xs ys : List SessionFact) (s : Session)
    → ((a : Session) → bind (view xs) a ≡ Some s → SaysTheSame (view xs) (view ys) a × (bind (view ys) a ≡ Some s))
    → (z : RuleValue) → In z (flow_rules t (view xs) s) → In z (flow_rules t (view ys) s)
flows_stay t xs ys s stay z i =
    let v = view xs in
    let w = view ys in
    let r = filter_map-In (rule_at t v s) z v.all i in
    let x : Shown = r.0 in
    let c = came_from (is_bound_to v s x.session) (option_and_then (rule_of t v) (flow_at x.session x.place)) z r.2 in
    let k = stay x.session (is_bound v s x.session c.0) in
    let shows = sym (k.0.shows x.place) ∙ all-shows xs x r.1 in
    let there = In-all ys x.session x.place (x.tag, x.value) shows in
    let rule = sym (same_flow t v w x.session x.place k.0) ∙ c.1 in
    In-filter_map (rule_at t w s) x z w.all there (ap (λ b. cond b (option_and_then (rule_of t w) (flow_at x.session x.place)) None) (bound_is w s x.session k.1) ∙ rule)

-- a session that is live as before, with the operator's rules, and to which the same flows are bound, has the same rules
keeps_rules : (t : Tables) (v w : View) (s : Session) → is_live v s ≡ is_live w s → operator_rules t v s ≡ operator_rules t w s
    → Same (flow_rules t v s) (flow_rules t w s) → rules t v s ≡ rules t w s
unfolding rules
keeps_rules t v w s lives operators flows =
    let both = ascending-Same listed_cmp listed_ranked (operator_rules t v s ++ flow_rules t v s) (operator_rules t w s ++ flow_rules t w s)
    (Same-append (operator_rules t v s) (flow_rules t v s) (operator_rules t w s) (flow_rules t w s)
    (subst (λ (l : List RuleValue). Same (operator_rules t v s) l) operators (Same-itself (operator_rules t v s))) flows) in
    λ i. cond (lives i) (both i) []

-- ---- one session that changes

-- no session can be bound to it
abbrev pub NoneMatches : View → Session → Type 0
NoneMatches v d = (a : Session) → matches v a d ≡ true → ⊥

module _ (xs ys : List SessionFact) (d : Session) (h : DifferInOne xs ys d) (gateway : is_gx d.kind ≡ true)
    (before : NoneMatches (view xs) d) (after : NoneMatches (view ys) d) where
  -- what is read before and after
  abbrev v : View
  v = view xs

  abbrev w : View
  w = view ys

  -- who is bound to another session stays so
  stays_bound : (s a : Session) → bind v a ≡ Some s → SaysTheSame v w a × (bind w a ≡ Some s)
  stays_bound s a b =
      let was = (bind-greatest xs a s).0 b in
      let other : a ≡ d → ⊥ = λ e. clash (is_gx d.kind) gateway (ap (λ (q : Session). is_gx q.kind) (sym e) ∙ (matched v a s was.fits).asks) in
      let own : s ≡ d → ⊥ = λ e. before a (subst (λ (q : Session). matches v a q ≡ true) e was.fits) in
      let its = said xs ys d a h other in
      let k = said xs ys d s h own in (
        its,
        (bind-greatest ys a s).1 (record {
          fits = sym (same_match v w a s its k) ∙ was.fits;
          no_other = λ r m x.
              let third : r ≡ d → ⊥ = λ e. after a (subst (λ (q : Session). matches w a q ≡ true) e m) in
              let j = said xs ys d r h third in
              was.no_other r (same_match v w a r its j ∙ m) (record {
                upper = x.upper;
                lower = x.lower;
                of_upper = same_standing v w r j ∙ x.of_upper;
                of_lower = same_standing v w s k ∙ x.of_lower;
                above = x.above;
              });
        }),
      )

-- so it keeps its rules
pub others_keep : (t : Tables) (xs ys : List SessionFact) (d s : Session) → DifferInOne xs ys d → is_gx d.kind ≡ true
    → NoneMatches (view xs) d → NoneMatches (view ys) d → (s ≡ d → ⊥) → rules t (view xs) s ≡ rules t (view ys) s
others_keep t xs ys d s h gateway before after other =
    let its = said xs ys d s h other in
    let back : DifferInOne ys xs d = record { elsewhere = λ r n. Same-back (facts_on xs r) (facts_on ys r) (h.elsewhere r n) } in
    keeps_rules t (view xs) (view ys) s (same_life (view xs) (view ys) s its) (same_operator_rules (view xs) (view ys) s its t) (λ z. (
      flows_stay t xs ys s (stays_bound xs ys d h gateway before after s) z,
      flows_stay t ys xs s (stays_bound ys xs d back gateway after before s) z,
    ))
