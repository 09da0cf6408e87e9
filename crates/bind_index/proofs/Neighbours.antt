-- Which rules can change where the facts of one session alone change that has a prefix.
use Rattle.std.proofs.Common.{◌≡◌, true, false, cond, not, ◌&&◌, List, [], ◌++◌, ◌⊎◌, Option, Some, None, inl, inr, sym, ap, ◌∙◌, subst, option_map, option_and_then, unwrap_or}
use Rattle.std.specs.Ordering.{is_eq}
use Rattle.pcrf_values.proofs.Plain.{clash, is_false, came_from, some_same}
use Rattle.pcrf_values.specs.Ascending.{ascending}
use Rattle.pcrf_values.specs.Sets.{In, Same}
use Rattle.pcrf_values.proofs.OrderLaws.{eq_is, eq_itself}
use Rattle.pcrf_values.proofs.SetLaws.{Same-back, Same-itself, Same-append, In-filter_map, filter_map-In}
use Rattle.pcrf_values.proofs.AscendingLaws.{ascending-Same}
use Rattle.pcrf_values.specs.Prefixes.{Ipv6Prefix, covers}
use Rattle.pcrf_values.specs.RuleValues.{RuleValue}
use Rattle.pcrf_values.proofs.PrefixLaws.{covers_itself}
use Rattle.pcrf_values.specs.Places.{FlowDescriptions, Place, OfFlow, address, prefix}
use Rattle.pcrf_values.specs.Values.{Value, Prefix, Entry}
use Rattle.pcrf_model.specs.Sessions.{Session, session_cmp, is_gx}
use Rattle.pcrf_model.specs.Holdings.{SessionFact, facts_on}
use Rattle.pcrf_model.specs.Views.{View, Shown, view, value}
use Rattle.pcrf_model.specs.Live.{is_live}
use Rattle.pcrf_model.specs.Bindings.{party, suits, matches, standing, bind, is_bound_to}
use Rattle.pcrf_model.specs.Tables.{Tables}
use Rattle.pcrf_model.specs.Flows.{FlowId}
use Rattle.pcrf_model.specs.Rules.{flow_at, rule_of, rule_at, operator_rules, flow_rules, listed_cmp, rules}
use Rattle.pcrf_model.specs.Laws.{Exceeds, DifferInOne, HasAddress, NeverMeet, ShowsNoPrefix}
use Rattle.pcrf_model.proofs.HoldingLaws.{session_ranked}
use Rattle.pcrf_model.proofs.ViewLaws.{In-all, all-shows}
use Rattle.pcrf_model.proofs.BindLaws.{bind-greatest, of_gx}
use Rattle.pcrf_model.proofs.NeighbourLaws.{SaysTheSame, how_they_meet, live_by_address, only, said, same_life, shown_there, shows_the_address, which}
use Rattle.pcrf_model.proofs.RuleNames.{listed_ranked}
use Rattle.bind_index.specs.Neighbours.{HasPrefix, NeighboursAlone, NeverCover}
use Rattle.bind_index.proofs.Indexed.{prefixes_met}
use Rattle.bind_index.proofs.CoveredNetworks.{either_covers}

-- ---- sessions of which both views say the same

module _ (v w : View) (s : Session) (h : SaysTheSame v w s) where
  -- the same value stands at each place
  same_value : (p : Place) → value v s p ≡ value w s p
  same_value p = ap (option_map (λ (e : Entry). e.1)) (h.shows p)

  -- the operator gives them the same rules
  same_operator_rules : (t : Tables) → operator_rules t v s ≡ operator_rules t w s
  same_operator_rules t = λ i. operator_rules t (only (shown_there v w s h i) (h.ended i)) s

  -- they stand the same beside others
  same_standing : standing v s ≡ standing w s
  same_standing = λ i. standing (only (shown_there v w s h i) (h.ended i)) s

-- and match the same
same_match : (v w : View) (a s : Session) → SaysTheSame v w a → SaysTheSame v w s → matches v a s ≡ matches w a s
same_match v w a s h k = λ i.
    not (is_gx a.kind) && is_gx s.kind
    && suits (party (only (shown_there v w a h i) (h.ended i)) a) (party (only (shown_there v w s k i) (k.ended i)) s)

-- a flow of such a session has the same rule
same_rule : (t : Tables) (v w : View) (i : FlowId) → SaysTheSame v w i.session → rule_of t v i ≡ rule_of t w i
same_rule t v w f h = λ i. rule_of t (only (shown_there v w f.session h i) (h.ended i)) f

-- and so has the flow of a place
same_flow : (t : Tables) (v w : View) (a : Session) (p : Place) → SaysTheSame v w a → option_and_then (rule_of t v) (flow_at a p) ≡ option_and_then (rule_of t w) (flow_at a p)
same_flow t v w a (OfFlow c n FlowDescriptions) h = same_rule t v w (record { session = a; component = c; flow = n }) h
same_flow t v w a p h = λ i. option_and_then (rule_of t v) (flow_at a p)

-- ---- rules that stay

-- s, which binds a, binds it in the second view too, where of what stands above it there both say the same
stays_bound : (xs ys : List SessionFact) (a s : Session) → SaysTheSame (view xs) (view ys) a → SaysTheSame (view xs) (view ys) s
    → ((r : Session) → matches (view ys) a r ≡ true → SaysTheSame (view xs) (view ys) r) → bind (view xs) a ≡ Some s → bind (view ys) a ≡ Some s
stays_bound xs ys a s h k above b =
    let v = view xs in
    let w = view ys in
    let was = (bind-greatest xs a s).0 b in
    (bind-greatest ys a s).1 (record {
      fits = sym (same_match v w a s h k) ∙ was.fits;
      no_other = λ r m x.
          let j = above r m in
          was.no_other r (same_match v w a r h j ∙ m) (record {
            upper = x.upper;
            lower = x.lower;
            of_upper = same_standing v w r j ∙ x.of_upper;
            of_lower = same_standing v w s k ∙ x.of_lower;
            above = x.above;
          });
    })

-- who is bound to s is bound to it by `bind`
is_bound : (v : View) (s a : Session) → is_bound_to v s a ≡ true → bind v a ≡ Some s
is_bound v s a h = by (bind v a) h
  where
    by : (o : Option Session) → unwrap_or (option_map (λ x. is_eq (session_cmp x s)) o) false ≡ true → o ≡ Some s
    by None g = clash false g (λ i. false)
    by (Some x) g = ap Some (eq_is session_ranked x s g)

-- and the other way round
bound_is : (v : View) (s a : Session) → bind v a ≡ Some s → is_bound_to v s a ≡ true
bound_is v s a h = ap (λ o. unwrap_or (option_map (λ x. is_eq (session_cmp x s)) o) false) h ∙ eq_itself session_ranked s

-- the flows of sessions that stay bound have their rules in the second view too
flows_stay : (t : Tables) (xs ys : List SessionFact) (s : Session)
    → ((a : Session) → bind (view xs) a ≡ Some s → SaysTheSame (view xs) (view ys) a × (bind (view ys) a ≡ Some s))
    → (z : RuleValue) → In z (flow_rules t (view xs) s) → In z (flow_rules t (view ys) s)
flows_stay t xs ys s stay z i =
    let v = view xs in
    let w = view ys in
    let r = filter_map-In (rule_at t v s) z v.all i in
    let x : Shown = r.0 in
    let c = came_from (is_bound_to v s x.session) (option_and_then (rule_of t v) (flow_at x.session x.place)) z r.2 in
    let k = stay x.session (is_bound v s x.session c.0) in
    let shows = sym (k.0.shows x.place) ∙ all-shows xs x r.1 in
    let there = In-all ys x.session x.place (x.tag, x.value) shows in
    let rule = sym (same_flow t v w x.session x.place k.0) ∙ c.1 in
    In-filter_map (rule_at t w s) x z w.all there (ap (λ b. cond b (option_and_then (rule_of t w) (flow_at x.session x.place)) None) (bound_is w s x.session k.1) ∙ rule)

-- a session that is live as before, with the operator's rules, and to which the same flows are bound, has the same rules
keeps_rules : (t : Tables) (v w : View) (s : Session) → is_live v s ≡ is_live w s → operator_rules t v s ≡ operator_rules t w s
    → Same (flow_rules t v s) (flow_rules t w s) → rules t v s ≡ rules t w s
unfolding rules
keeps_rules t v w s lives operators flows =
    let both = ascending-Same listed_cmp listed_ranked (operator_rules t v s ++ flow_rules t v s) (operator_rules t w s ++ flow_rules t w s)
    (Same-append (operator_rules t v s) (flow_rules t v s) (operator_rules t w s) (flow_rules t w s)
    (subst (λ (l : List RuleValue). Same (operator_rules t v s) l) operators (Same-itself (operator_rules t v s))) flows) in
    λ i. cond (lives i) (both i) []

-- one that is live in neither has none
no_rules : (t : Tables) (v w : View) (s : Session) → is_live v s ≡ false → is_live w s ≡ false → rules t v s ≡ rules t w s
unfolding rules
no_rules t v w s h k =
    let own = ascending listed_cmp (operator_rules t v s ++ flow_rules t v s) in
    let other = ascending listed_cmp (operator_rules t w s ++ flow_rules t w s) in
    ap (λ b. cond b own []) h ∙ sym (ap (λ b. cond b other []) k)

-- ---- one session that changes

-- what is so of a session is so of the same
of_same : {A : Type 0} (read : Session → A) (r d : Session) (x : A) → r ≡ d → read r ≡ x → read d ≡ x
of_same read r d x e h = ap read (sym e) ∙ h

-- two facts swapped
swapped : (xs ys : List SessionFact) (d : Session) → DifferInOne xs ys d → DifferInOne ys xs d
swapped xs ys d h = record { elsewhere = λ r n. Same-back (facts_on xs r) (facts_on ys r) (h.elsewhere r n) }

-- an address turned round
turned : (v w : View) (s : Session) (x : Value) → HasAddress v w s x → HasAddress w v s x
turned v w s x (inl h) = inr h
turned v w s x (inr h) = inl h

-- a prefix turned round
turned_prefix : (v w : View) (s : Session) (p : Ipv6Prefix) → HasPrefix v w s p → HasPrefix w v s p
turned_prefix v w s p (inl h) = inr h
turned_prefix v w s p (inr h) = inl h

-- and sessions that never meet
never_back : (v w : View) (d s : Session) → NeverMeet v w d s → NeverMeet w v d s
never_back v w d s k = record { apart = λ x h j. k.apart x (turned w v d x h) (turned w v s x j) }

-- or cover
cover_back : (v w : View) (d s : Session) → NeverCover v w d s → NeverCover w v d s
cover_back v w d s c = record {
  over = λ p q h j. c.over p q (turned_prefix w v d p h) (turned_prefix w v s q j);
  under = λ g p q h j. c.under g p q (turned_prefix w v d p h) (turned_prefix w v s q j);
  itself = λ e. record { before = (c.itself e).after; after = (c.itself e).before };
}

module _ (xs ys : List SessionFact) (d s : Session) (h : DifferInOne xs ys d) (k : NeverMeet (view xs) (view ys) d s) (c : NeverCover (view xs) (view ys) d s) where
  -- what is read before and after
  abbrev v : View
  v = view xs

  abbrev w : View
  w = view ys

  -- who matches it isn't the one that changes
  other : (a : Session) → matches v a s ≡ true → a ≡ d → ⊥
  other a fits e = elim (how_they_meet v a s fits) [
    | inl x ↦ k.apart x.0 (inl (of_same (λ r. value v r address) a d (Some x.0) e x.1)) (inl x.2)
    | inr n ↦
        let p = prefixes_met v a s fits n.0 in
        c.over p.asked p.shown (inl (of_same (λ r. value v r prefix) a d (Some (Prefix p.asked)) e p.asks)) (inl p.shows) p.covered
  ]

  -- nor is it itself, where one matches it
  own : (a : Session) → matches v a s ≡ true → s ≡ d → ⊥
  own a fits e = elim (how_they_meet v a s fits) [
    | inl x ↦ k.apart x.0 (inl (of_same (λ r. value v r address) s d (Some x.0) e x.2)) (inl x.2)
    | inr n ↦
        let p = prefixes_met v a s fits n.0 in
        c.over p.shown p.shown (inl (of_same (λ r. value v r prefix) s d (Some (Prefix p.shown)) e p.shows)) (inl p.shows) (covers_itself p.shown)
  ]

  -- nor is another that one of the same facts matches afterwards
  third : (a r : Session) → SaysTheSame v w a → matches v a s ≡ true → matches w a r ≡ true → r ≡ d → ⊥
  third a r its fits m e = elim (how_they_meet w a r m) [
    | inl y ↦
        let x = shows_the_address v a s fits y.0 (same_value v w a its address ∙ y.1) in
        k.apart y.0 (inr (of_same (λ q. value w q address) r d (Some y.0) e y.2)) (inl x)
    | inr n ↦
        let p = prefixes_met v a s fits (same_value v w a its address ∙ n.0) in
        let q = prefixes_met w a r m n.0 in
        let asked : q.asked ≡ p.asked = ap prefix_in (some_same (Prefix q.asked) (Prefix p.asked) (sym q.asks ∙ sym (same_value v w a its prefix) ∙ p.asks)) in
        let there : HasPrefix v w d q.shown = inr (of_same (λ x. value w x prefix) r d (Some (Prefix q.shown)) e q.shows) in
        let gateway : is_gx d.kind ≡ true = of_same (λ x. is_gx x.kind) r d true e (of_gx w a r m) in
        elim (either_covers p.shown q.shown p.asked p.covered (subst (λ (x : Ipv6Prefix). covers q.shown x ≡ true) asked q.covered)) [
          | inl z ↦ c.over q.shown p.shown there (inl p.shows) z
          | inr z ↦ c.under gateway q.shown p.shown there (inl p.shows) z
        ]
  ]
    where
      prefix_in : Value → Ipv6Prefix
      prefix_in (Prefix x) = x
      prefix_in x = (0, [])

  -- so who is bound to it stays so
  pub apart_stays : (a : Session) → bind v a ≡ Some s → SaysTheSame v w a × (bind w a ≡ Some s)
  apart_stays a b =
      let fits = ((bind-greatest xs a s).0 b).fits in
      let its = said xs ys d a h (other a fits) in
      (its, stays_bound xs ys a s its (said xs ys d s h (own a fits)) (λ r m. said xs ys d r h (third a r its fits m)) b)

-- each that never meets the one that changes keeps its rules
pub neighbours_alone : NeighboursAlone
neighbours_alone t xs ys d s h k c = elim (which d s) [ inl e ↦ itself e | inr other ↦ another other ]
  where
    -- live without a prefix it shares an address with itself
    dead : (u : View) → value u d prefix ≡ None
        → ((x : Value) → value u d address ≡ Some x → value u s address ≡ Some x → ⊥)
        → s ≡ d → is_live u s ≡ false
    dead u none apart e = is_false (is_live u s) (λ l.
        let x = live_by_address u s l (of_same (λ r. value u r prefix) d s None (sym e) none) in
        apart x.0 (of_same (λ r. value u r address) s d (Some x.0) e x.1) x.1)

    itself : s ≡ d → rules t (view xs) s ≡ rules t (view ys) s
    itself e = no_rules t (view xs) (view ys) s
        (dead (view xs) (c.itself e).before (λ x i j. k.apart x (inl i) (inl j)) e)
        (dead (view ys) (c.itself e).after (λ x i j. k.apart x (inr i) (inr j)) e)

    another : (s ≡ d → ⊥) → rules t (view xs) s ≡ rules t (view ys) s
    another n =
        let its = said xs ys d s h n in
        keeps_rules t (view xs) (view ys) s (same_life (view xs) (view ys) s its) (same_operator_rules (view xs) (view ys) s its t) (λ z. (
          flows_stay t xs ys s (apart_stays xs ys d s h k c) z,
          flows_stay t ys xs s (apart_stays ys xs d s (swapped xs ys d h) (never_back (view xs) (view ys) d s k) (cover_back (view xs) (view ys) d s c)) z,
        ))
