-- Which rules can change where the facts of one session alone change.
use Rattle.std.proofs.Common.{◌≡◌, Bool, true, false, cond, not, ◌&&◌, List, [], ◌++◌, ◌⊎◌, map, Option, Some, None, inl, inr, refl, sym, ap, ◌∙◌, subst, option_map, option_and_then, unwrap_or}
use Rattle.std.specs.Ordering.{is_eq}
use Rattle.pcrf_values.proofs.Plain.{clash, is_false, none_some, came_from, split}
use Rattle.pcrf_values.specs.Ascending.{ascending}
use Rattle.pcrf_values.specs.Sets.{In, Same}
use Rattle.pcrf_values.proofs.OrderLaws.{eq_is, eq_itself}
use Rattle.pcrf_values.proofs.SetLaws.{Same-back, Same-itself, Same-append, In-filter_map, filter_map-In}
use Rattle.pcrf_values.proofs.AscendingLaws.{ascending-Same}
use Rattle.pcrf_values.specs.RuleValues.{RuleValue}
use Rattle.pcrf_values.specs.Places.{FlowDescriptions, Place, OfFlow, address, prefix, apn}
use Rattle.pcrf_values.specs.Values.{Value, Prefix, Entry}
use Rattle.pcrf_values.proofs.FactLaws.{value_ranked}
use Rattle.pcrf_values.proofs.ShownLaws.{members_show_the_same}
use Rattle.pcrf_model.specs.Sessions.{Session, session_cmp, is_gx}
use Rattle.pcrf_model.specs.Holdings.{SessionFact, facts_on}
use Rattle.pcrf_model.specs.Views.{View, Shown, view, value, as_text}
use Rattle.pcrf_model.specs.Live.{is_live}
use Rattle.pcrf_model.specs.Bindings.{agrees, is_covered, Party, party, suits, matches, standing, bind, is_bound_to}
use Rattle.pcrf_model.specs.Tables.{ApnRow, Tables, apn_row}
use Rattle.pcrf_model.specs.Flows.{FlowId}
use Rattle.pcrf_model.specs.Rules.{flow_at, rule_of, rule_at, operator_rule, operator_rules, flow_rules, listed_cmp, rules}
use Rattle.pcrf_model.specs.Laws.{Exceeds, DifferInOne, HasAddress, ShowsNoPrefix, NeverMeet, BindsAlike}
use Rattle.pcrf_model.proofs.HoldingLaws.{session_ranked}
use Rattle.pcrf_model.proofs.ViewLaws.{In-all, all-shows}
use Rattle.pcrf_model.proofs.BindLaws.{bind-greatest, matched, of_gx, live_asking, live_reached}
use Rattle.pcrf_model.proofs.RuleNames.{listed_ranked}

-- ---- what a match says of addresses and prefixes

-- what agrees is equal
agreed : (x : Value) (o : Option Value) → agrees (Some x) o ≡ true → o ≡ Some x
agreed x None h = clash false h refl
agreed x (Some y) h = ap Some (sym (eq_is value_ranked x y h))

-- no prefix is covered by none
uncovered : (x : Option Value) → is_covered x None ≡ true → x ≡ None
uncovered None h = refl
uncovered (Some (Prefix p)) h = clash false h refl
uncovered (Some x) h = clash false h refl

-- what matches shows the address that is asked for
pub shows_the_address : (v : View) (a s : Session) → matches v a s ≡ true → (x : Value)
    → value v a address ≡ Some x → value v s address ≡ Some x
shows_the_address v a s m x h =
    agreed x (value v s address)
    (ap (λ o. agrees o (value v s address)) (sym h) ∙ (matched v a s m).at_address)

-- and a prefix that covers the one that is asked for
pub covers_the_prefix : (v : View) (a s : Session) → matches v a s ≡ true → (x : Value)
    → value v a prefix ≡ Some x → is_covered (Some x) (value v s prefix) ≡ true
covers_the_prefix v a s m x h =
    ap (λ o. is_covered o (value v s prefix)) (sym h) ∙ (matched v a s m).at_prefix

-- where it shows none, none is asked for
pub no_prefix_asked : (v : View) (a s : Session) → matches v a s ≡ true
    → value v s prefix ≡ None → value v a prefix ≡ None
no_prefix_asked v a s m h =
    uncovered (value v a prefix)
    (ap (is_covered (value v a prefix)) (sym h) ∙ (matched v a s m).at_prefix)

-- the place shows a value
shown_value : (v : View) (s : Session) (p : Place) (e : Entry) → v.shows s p ≡ Some e
    → value v s p ≡ Some e.1
shown_value v s p e h = ap (option_map (λ (x : Entry). x.1)) h

-- one of two places of a live session shows a value
live_by_either : (v : View) (s : Session) → is_live v s ≡ true
    → ((x : Value) × (value v s address ≡ Some x)) ⊎ ((x : Value) × (value v s prefix ≡ Some x))
live_by_either v s h =
    let r = live_reached v s h in
    let shown = shown_value v s r.0 r.2 r.3 in
    elim r.1 [
      | inl e ↦ inl (r.2.1, subst (λ (p : Place). value v s p ≡ Some r.2.1) e shown)
      | inr i ↦ elim i [
        | inl e ↦ inr (r.2.1, subst (λ (p : Place). value v s p ≡ Some r.2.1) e shown)
        | inr j ↦ absurd j
      ]
    ]

-- a live session without a prefix shows an address
pub live_by_address : (v : View) (s : Session) → is_live v s ≡ true
    → value v s prefix ≡ None → (x : Value) × (value v s address ≡ Some x)
live_by_address v s h n = elim (live_by_either v s h) [
  | inl w ↦ w
  | inr w ↦ none_some w.0 (sym n ∙ w.1)
]

-- and one without an address a prefix
pub live_by_prefix : (v : View) (s : Session) → is_live v s ≡ true
    → value v s address ≡ None → (x : Value) × (value v s prefix ≡ Some x)
live_by_prefix v s h n = elim (live_by_either v s h) [
  | inl w ↦ none_some w.0 (sym n ∙ w.1)
  | inr w ↦ w
]

-- what covers a prefix is there
covering : (x : Value) (o : Option Value) → is_covered (Some x) o ≡ true
    → (y : Value) × (o ≡ Some y)
covering (Prefix p) None h = clash false h refl
covering (Prefix p) (Some y) h = (y, refl)
covering x o h = clash false h refl

-- where no address is asked for, what matches shows a prefix
pub shows_a_prefix : (v : View) (a s : Session) → matches v a s ≡ true
    → value v a address ≡ None → (y : Value) × (value v s prefix ≡ Some y)
shows_a_prefix v a s m n =
    let w = live_by_prefix v a (live_asking v a s m) n in
    covering w.0 (value v s prefix) (covers_the_prefix v a s m w.0 w.1)

-- both show one address, or only a prefix is asked for and both show one
pub how_they_meet : (v : View) (a s : Session) → matches v a s ≡ true
    → ((x : Value) × (value v a address ≡ Some x) × (value v s address ≡ Some x))
    ⊎ ((value v a address ≡ None) × ((y : Value) × (value v s prefix ≡ Some y)))
how_they_meet v a s m = by (value v a address) refl
  where
    by : (o : Option Value) → value v a address ≡ o
        → ((x : Value) × (value v a address ≡ Some x) × (value v s address ≡ Some x))
        ⊎ ((value v a address ≡ None) × ((y : Value) × (value v s prefix ≡ Some y)))
    by None e = inr (e, shows_a_prefix v a s m e)
    by (Some x) e = inl (x, e, shows_the_address v a s m x e)

-- where no prefix is asked for, both show one address
pub both_show : (v : View) (a s : Session) → matches v a s ≡ true → value v a prefix ≡ None
    → (x : Value) × (value v a address ≡ Some x) × (value v s address ≡ Some x)
both_show v a s m n =
    let w = live_by_address v a (live_asking v a s m) n in
    (w.0, w.1, shows_the_address v a s m w.0 w.1)

-- ---- sessions of which both views say the same

-- the views say the same of the session
pub record SaysTheSame (v w : View) (s : Session) : Type 0 where
  pub shows : (p : Place) → v.shows s p ≡ w.shows s p
  pub ended : v.ended s ≡ w.ended s

-- of those that have the same facts
same_said : (xs ys : List SessionFact) (s : Session) → Same (facts_on xs s) (facts_on ys s) → SaysTheSame (view xs) (view ys) s
unfolding view
same_said xs ys s h = let k = members_show_the_same (facts_on xs s) (facts_on ys s) h in record { shows = k.shows; ended = k.ended }

-- a view in which every session shows this
abbrev pub only : (Place → Option Entry) → Bool → View
only shows ended = record { shows = λ s. shows; ended = λ s. ended; removals = λ s. []; aborted = λ s. false; all = []; sessions = [] }

module _ (v w : View) (s : Session) (h : SaysTheSame v w s) where
  -- they show the same everywhere
  pub shown_there : v.shows s ≡ w.shows s
  shown_there = λ i p. h.shows p i

  -- both live, or neither
  pub same_life : is_live v s ≡ is_live w s
  same_life = λ i. is_live (only (shown_there i) (h.ended i)) s

  -- the same value stands at each place
  same_value : (p : Place) → value v s p ≡ value w s p
  same_value p = ap (option_map (λ (e : Entry). e.1)) (h.shows p)

  -- binding reads the same
  same_party : party v s ≡ party w s
  same_party = λ i. party (only (shown_there i) (h.ended i)) s

  -- they stand the same beside others
  same_standing : standing v s ≡ standing w s
  same_standing = λ i. standing (only (shown_there i) (h.ended i)) s

  -- the operator gives them the same rules
  same_operator_rules : (t : Tables) → operator_rules t v s ≡ operator_rules t w s
  same_operator_rules t = λ i. operator_rules t (only (shown_there i) (h.ended i)) s

-- a flow of such a session has the same rule
same_rule : (t : Tables) (v w : View) (i : FlowId) → SaysTheSame v w i.session → rule_of t v i ≡ rule_of t w i
same_rule t v w f h = λ i. rule_of t (only (shown_there v w f.session h i) (h.ended i)) f

-- and so has the flow of a place
same_flow : (t : Tables) (v w : View) (a : Session) (p : Place) → SaysTheSame v w a → option_and_then (rule_of t v) (flow_at a p) ≡ option_and_then (rule_of t w) (flow_at a p)
same_flow t v w a (OfFlow c n FlowDescriptions) h = same_rule t v w (record { session = a; component = c; flow = n }) h
same_flow t v w a p h = refl

-- what binding reads of a session is the same in both views
record MatchesAlike (v w : View) (s : Session) : Type 0 where
  reads : party v s ≡ party w s
  stands : standing v s ≡ standing w s

-- so it is where they say the same
alike_said : (v w : View) (s : Session) → SaysTheSame v w s → MatchesAlike v w s
alike_said v w s h = record { reads = same_party v w s h; stands = same_standing v w s h }

-- and then they match alike
same_match : (v w : View) (a s : Session) → MatchesAlike v w a → MatchesAlike v w s → matches v a s ≡ matches w a s
same_match v w a s h k = λ i.
    not (is_gx a.kind) && is_gx s.kind && suits (h.reads i) (k.reads i)

-- ---- a binding that stays

-- those that match and stand above s in the second view do so in the first
record NoneAbove (v w : View) (a s : Session) : Type 0 where
  from : (r : Session) → matches w a r ≡ true → Exceeds w r s → MatchesAlike v w r

-- s, which binds a, binds it in the second view too
stays_bound : (xs ys : List SessionFact) (a s : Session) → MatchesAlike (view xs) (view ys) a → MatchesAlike (view xs) (view ys) s → NoneAbove (view xs) (view ys) a s
    → bind (view xs) a ≡ Some s → bind (view ys) a ≡ Some s
stays_bound xs ys a s h k n b =
    let v = view xs in
    let w = view ys in
    let was = (bind-greatest xs a s).0 b in
    (bind-greatest ys a s).1 (record {
      fits = sym (same_match v w a s h k) ∙ was.fits;
      no_other = λ r m x.
          let j = n.from r m x in
          was.no_other r (same_match v w a r h j ∙ m) (record {
            upper = x.upper;
            lower = x.lower;
            of_upper = j.stands ∙ x.of_upper;
            of_lower = k.stands ∙ x.of_lower;
            above = x.above;
          });
    })

-- ---- rules of flows

-- who is bound to s is bound to it by `bind`
is_bound : (v : View) (s a : Session) → is_bound_to v s a ≡ true → bind v a ≡ Some s
is_bound v s a h = by (bind v a) h
  where
    by : (o : Option Session) → unwrap_or (option_map (λ x. is_eq (session_cmp x s)) o) false ≡ true → o ≡ Some s
    by None g = clash false g refl
    by (Some x) g = ap Some (eq_is session_ranked x s g)

-- and the other way round
bound_is : (v : View) (s a : Session) → bind v a ≡ Some s → is_bound_to v s a ≡ true
bound_is v s a h = ap (λ o. unwrap_or (option_map (λ x. is_eq (session_cmp x s)) o) false) h ∙ eq_itself session_ranked s

-- the flows of sessions that stay bound have their rules in the second view too
flows_stay : (t : Tables) (xs ys : List SessionFact) (s : Session)
    → ((a : Session) → bind (view xs) a ≡ Some s → SaysTheSame (view xs) (view ys) a × (bind (view ys) a ≡ Some s))
    → (z : RuleValue) → In z (flow_rules t (view xs) s) → In z (flow_rules t (view ys) s)
flows_stay t xs ys s stay z i =
    let v = view xs in
    let w = view ys in
    let r = filter_map-In (rule_at t v s) z v.all i in
    let x : Shown = r.0 in
    let c = came_from (is_bound_to v s x.session) (option_and_then (rule_of t v) (flow_at x.session x.place)) z r.2 in
    let k = stay x.session (is_bound v s x.session c.0) in
    let shows = sym (k.0.shows x.place) ∙ all-shows xs x r.1 in
    let there = In-all ys x.session x.place (x.tag, x.value) shows in
    let rule = sym (same_flow t v w x.session x.place k.0) ∙ c.1 in
    In-filter_map (rule_at t w s) x z w.all there (ap (λ b. cond b (option_and_then (rule_of t w) (flow_at x.session x.place)) None) (bound_is w s x.session k.1) ∙ rule)

-- ---- rules that stay

-- a session that stays live, with the operator's rules, and to which the same flows are bound
record KeepsItsOwn (t : Tables) (v w : View) (s : Session) : Type 0 where
  lives : is_live v s ≡ is_live w s
  operators : operator_rules t v s ≡ operator_rules t w s
  flows : Same (flow_rules t v s) (flow_rules t w s)

-- has the same rules
keeps_rules : (t : Tables) (v w : View) (s : Session) → KeepsItsOwn t v w s → rules t v s ≡ rules t w s
unfolding rules
keeps_rules t v w s h =
    let both = ascending-Same listed_cmp listed_ranked (operator_rules t v s ++ flow_rules t v s) (operator_rules t w s ++ flow_rules t w s)
    (Same-append (operator_rules t v s) (flow_rules t v s) (operator_rules t w s) (flow_rules t w s) (same_by (operator_rules t v s) (operator_rules t w s) h.operators) h.flows) in
    λ i. cond (h.lives i) (both i) []
  where
    same_by : (xs ys : List RuleValue) → xs ≡ ys → Same xs ys
    same_by xs ys e = subst (λ (l : List RuleValue). Same xs l) e (Same-itself xs)

-- a session that is live in neither view has none
no_rules : (t : Tables) (v w : View) (s : Session) → is_live v s ≡ false → is_live w s ≡ false → rules t v s ≡ rules t w s
unfolding rules
no_rules t v w s h k =
    let own = ascending listed_cmp (operator_rules t v s ++ flow_rules t v s) in
    let other = ascending listed_cmp (operator_rules t w s ++ flow_rules t w s) in
    ap (λ b. cond b own []) h ∙ sym (ap (λ b. cond b other []) k)

-- ---- one session that changes

-- two facts swapped
swapped : (xs ys : List SessionFact) (d : Session) → DifferInOne xs ys d → DifferInOne ys xs d
swapped xs ys d h = record { elsewhere = λ r n. Same-back (facts_on xs r) (facts_on ys r) (h.elsewhere r n) }

-- a session is the one that changes, or isn't
pub which : (d r : Session) → (r ≡ d) ⊎ (r ≡ d → ⊥)
which d r = elim (split (is_eq (session_cmp r d))) [
  | inl e ↦ inl (eq_is session_ranked r d e)
  | inr f ↦ inr (λ e. clash (is_eq (session_cmp r d)) (ap (λ (q : Session). is_eq (session_cmp r q)) (sym e) ∙ eq_itself session_ranked r) f)
]

-- of each other session both say the same
pub said : (xs ys : List SessionFact) (d r : Session) → DifferInOne xs ys d → (r ≡ d → ⊥) → SaysTheSame (view xs) (view ys) r
said xs ys d r h n = same_said xs ys r (h.elsewhere r n)

-- an address turned round
turned : (v w : View) (d : Session) (x : Value) → HasAddress v w d x → HasAddress w v d x
turned v w d x (inl h) = inr h
turned v w d x (inr h) = inl h

-- and sessions that never meet
never_back : (v w : View) (d s : Session) → NeverMeet v w d s → NeverMeet w v d s
never_back v w d s k = record { apart = λ x h j. k.apart x (turned w v d x h) (turned w v s x j) }

-- a prefix that shows in neither, the other way round
no_prefix_back : (v w : View) (d : Session) → ShowsNoPrefix v w d → ShowsNoPrefix w v d
no_prefix_back v w d n = record { before = n.after; after = n.before }

-- what is so of a session is so of the same
of_same : {A : Type 0} (read : Session → A) (r d : Session) (x : A) → r ≡ d → read r ≡ x → read d ≡ x
of_same read r d x e h = ap read (sym e) ∙ h

-- who is bound to a session that never meets the one that changes isn't that one, nor is the session itself, and stays bound
apart_stays : (xs ys : List SessionFact) (d s : Session) → DifferInOne xs ys d
    → ShowsNoPrefix (view xs) (view ys) d → NeverMeet (view xs) (view ys) d s
    → (a : Session) → bind (view xs) a ≡ Some s → SaysTheSame (view xs) (view ys) a × (bind (view ys) a ≡ Some s)
apart_stays xs ys d s h n k a b =
    let v = view xs in
    let w = view ys in
    let at_v : Session → Option Value = λ r. value v r address in
    let at_w : Session → Option Value = λ r. value w r address in
    let fits = ((bind-greatest xs a s).0 b).fits in
    let other : a ≡ d → ⊥ = λ e.
    let none = of_same (λ r. value v r prefix) d a None (sym e) n.before in
    let x = both_show v a s fits none in
    k.apart x.0 (inl (of_same at_v a d (Some x.0) e x.1)) (inl x.2) in
    let own : s ≡ d → ⊥ = λ e.
    let none = of_same (λ r. value v r prefix) d s None (sym e) n.before in
    let x = live_by_address v s (matched v a s fits).lives none in
    k.apart x.0 (inl (of_same at_v s d (Some x.0) e x.1)) (inl x.1) in
    let its = said xs ys d a h other in
    let alike = alike_said v w a its in
    let above : NoneAbove v w a s = record {
      from = λ r m _.
          let third : r ≡ d → ⊥ = λ e.
          let none = of_same (λ q. value w q prefix) d r None (sym e) n.after in
          let y = both_show w a r m (no_prefix_asked w a r m none) in
          let x = shows_the_address v a s fits y.0 (same_value v w a its address ∙ y.1) in
          k.apart y.0 (inr (of_same at_w r d (Some y.0) e y.2)) (inl x) in
          alike_said v w r (said xs ys d r h third);
    } in
    (its, stays_bound xs ys a s alike (alike_said v w s (said xs ys d s h own)) above b)

-- the one that changes has no rules where it shares no address with itself; every other that it never meets keeps its rules
pub others_keep : (t : Tables) (xs ys : List SessionFact) (d s : Session) → DifferInOne xs ys d
    → ShowsNoPrefix (view xs) (view ys) d → NeverMeet (view xs) (view ys) d s
    → rules t (view xs) s ≡ rules t (view ys) s
others_keep t xs ys d s h n k = elim (which d s) [ inl e ↦ itself e | inr other ↦ another other ]
  where
    -- live without a prefix it shares an address with itself
    dead : (v : View) → value v d prefix ≡ None
        → ((x : Value) → value v d address ≡ Some x → value v s address ≡ Some x → ⊥)
        → s ≡ d → is_live v s ≡ false
    dead v none apart e = is_false (is_live v s) (λ l.
        let x = live_by_address v s l (of_same (λ r. value v r prefix) d s None (sym e) none) in
        apart x.0 (of_same (λ r. value v r address) s d (Some x.0) e x.1) x.1)

    itself : s ≡ d → rules t (view xs) s ≡ rules t (view ys) s
    itself e = no_rules t (view xs) (view ys) s
        (dead (view xs) n.before (λ x i j. k.apart x (inl i) (inl j)) e)
        (dead (view ys) n.after (λ x i j. k.apart x (inr i) (inr j)) e)

    another : (s ≡ d → ⊥) → rules t (view xs) s ≡ rules t (view ys) s
    another other =
        let its = said xs ys d s h other in
        keeps_rules t (view xs) (view ys) s (record {
          lives = same_life (view xs) (view ys) s its;
          operators = same_operator_rules (view xs) (view ys) s its t;
          flows = λ z. (
            flows_stay t xs ys s (apart_stays xs ys d s h n k) z,
            flows_stay t ys xs s (apart_stays ys xs d s (swapped xs ys d h)
                (no_prefix_back (view xs) (view ys) d n) (never_back (view xs) (view ys) d s k)) z,
          );
        })

-- ---- one session that changes, by what binding reads of it

-- those that are bound to s stay so, and so do those that were not, as long as binding reads the same of all that matches
keeps_by : (t : Tables) (xs ys : List SessionFact) (s : Session)
    → (is_live (view xs) s ≡ is_live (view ys) s) → (operator_rules t (view xs) s ≡ operator_rules t (view ys) s)
    → ((a : Session) → bind (view xs) a ≡ Some s → SaysTheSame (view xs) (view ys) a × (bind (view ys) a ≡ Some s))
    → ((a : Session) → bind (view ys) a ≡ Some s → SaysTheSame (view ys) (view xs) a × (bind (view xs) a ≡ Some s))
    → rules t (view xs) s ≡ rules t (view ys) s
keeps_by t xs ys s lives operators forth back = keeps_rules t (view xs) (view ys) s (record {
  lives = lives;
  operators = operators;
  flows = λ z. (flows_stay t xs ys s forth z, flows_stay t ys xs s back z);
})

-- what binding reads, the other way round
alike_back : (v w : View) (d : Session) → BindsAlike v w d → BindsAlike w v d
alike_back v w d h = record { of_gateway = h.of_gateway; reads = sym h.reads; stands = sym h.stands }

-- where one Gx session changes and binds as before, all match alike
all_alike : (xs ys : List SessionFact) (d r : Session) → DifferInOne xs ys d → BindsAlike (view xs) (view ys) d → MatchesAlike (view xs) (view ys) r
all_alike xs ys d r h k = elim (which d r) [
  | inl e ↦ subst (λ (q : Session). MatchesAlike (view xs) (view ys) q) (sym e) (record { reads = k.reads; stands = k.stands })
  | inr n ↦ alike_said (view xs) (view ys) r (said xs ys d r h n)
]

-- and who is bound stays so
alike_stays : (xs ys : List SessionFact) (d s : Session) → DifferInOne xs ys d → BindsAlike (view xs) (view ys) d
    → (a : Session) → bind (view xs) a ≡ Some s → SaysTheSame (view xs) (view ys) a × (bind (view ys) a ≡ Some s)
alike_stays xs ys d s h k a b =
    let fits = ((bind-greatest xs a s).0 b).fits in
    let other : a ≡ d → ⊥ = λ e. clash (is_gx d.kind) k.of_gateway (ap (λ (q : Session). is_gx q.kind) (sym e) ∙ (matched (view xs) a s fits).asks) in (
      said xs ys d a h other,
      stays_bound xs ys a s (all_alike xs ys d a h k) (all_alike xs ys d s h k) (record { from = λ r m x. all_alike xs ys d r h k }) b,
    )

-- the operator's rules are those of the access point that shows
operators_by_apn : (t : Tables) (v w : View) (s : Session) → value v s apn ≡ value w s apn → operator_rules t v s ≡ operator_rules t w s
operators_by_apn t v w s e =
    ap (λ (o : Option Value). unwrap_or (option_map (λ (r : ApnRow). map operator_rule r.rules) (option_and_then (apn_row t) (option_and_then as_text o))) []) e

-- so all keep their rules
pub all_keep : (t : Tables) (xs ys : List SessionFact) (d s : Session) → DifferInOne xs ys d → BindsAlike (view xs) (view ys) d → rules t (view xs) s ≡ rules t (view ys) s
all_keep t xs ys d s h k =
    let its = all_alike xs ys d s h k in
    keeps_by t xs ys s (ap (λ (p : Party). p.live) its.reads)
    (operators_by_apn t (view xs) (view ys) s (ap (λ (p : Party). p.apn) its.reads))
    (alike_stays xs ys d s h k)
    (alike_stays ys xs d s (swapped xs ys d h) (alike_back (view xs) (view ys) d k))

-- where one AF session changes that isn't bound to s, who is bound to s stays so
unbound_stays : (xs ys : List SessionFact) (d s : Session) → DifferInOne xs ys d → is_gx d.kind ≡ false → (bind (view xs) d ≡ Some s → ⊥)
    → (a : Session) → bind (view xs) a ≡ Some s → SaysTheSame (view xs) (view ys) a × (bind (view ys) a ≡ Some s)
unbound_stays xs ys d s h k n a b =
    let v = view xs in
    let w = view ys in
    let fits = ((bind-greatest xs a s).0 b).fits in
    let others : (r : Session) → is_gx r.kind ≡ true → MatchesAlike v w r =
    λ r g. alike_said v w r (said xs ys d r h (λ e. clash (is_gx r.kind) g (ap (λ (q : Session). is_gx q.kind) e ∙ k))) in
    let its = said xs ys d a h (λ e. n (subst (λ (q : Session). bind v q ≡ Some s) e b)) in
    (its, stays_bound xs ys a s (alike_said v w a its) (others s (of_gx v a s fits)) (record { from = λ r m x. others r (of_gx w a r m) }) b)

-- so a Gx session to which it is bound neither before nor after keeps its rules
pub unbound_keep : (t : Tables) (xs ys : List SessionFact) (d s : Session) → DifferInOne xs ys d → is_gx d.kind ≡ false → is_gx s.kind ≡ true
    → (bind (view xs) d ≡ Some s → ⊥) → (bind (view ys) d ≡ Some s → ⊥) → rules t (view xs) s ≡ rules t (view ys) s
unbound_keep t xs ys d s h k g n m =
    let its = said xs ys d s h (λ e. clash (is_gx s.kind) g (ap (λ (q : Session). is_gx q.kind) e ∙ k)) in
    keeps_by t xs ys s (same_life (view xs) (view ys) s its) (same_operator_rules (view xs) (view ys) s its t)
    (unbound_stays xs ys d s h k n)
    (unbound_stays ys xs d s (swapped xs ys d h) k m)
