-- After an accepted initial request, an update or a push a gateway lacks just what the first entries of the difference left.
use Rattle.std.proofs.Common.{◌≡◌, ℕ, ◌+◌, Bool, true, false, List, ◌++◌, map, Option, Some, inl, inr, refl, sym, ap, ◌∙◌, subst, option_map, unwrap_or, arith, append_assoc, Less, Equal}
use Rattle.std.specs.Ordering.{nat_cmp, ordering_then}
use Rattle.std.specs.Cmp.{nat_cmp_is, first_so, second_so}
use Rattle.std.proofs.lemmas.List.{map-append}
use Rattle.std.proofs.lemmas.List.Elements.{filter_map-append}
use Rattle.pcrf_values.specs.Ascending.{ascending}
use Rattle.pcrf_values.specs.Sets.{In, Same, Distinct}
use Rattle.pcrf_values.specs.Tags.{tag_cmp}
use Rattle.pcrf_values.specs.declared.tag.Tag.{Tag}
use Rattle.pcrf_values.proofs.Plain.{clash, is_false, not_true}
use Rattle.pcrf_values.proofs.SetLaws.{In-right, In-cases, In-any, any-In, In-map, map-In, map-Same, Same-itself, Same-through, Same-append}
use Rattle.pcrf_values.proofs.AscendingLaws.{ascending-In}
use Rattle.pcrf_values.proofs.DistinctLaws.{take-In, one_of_key}
use Rattle.pcrf_values.specs.RuleValues.{RuleValue, DeltaValue}
use Rattle.pcrf_values.specs.Numbers.{request_kind_number}
use Rattle.pcrf_values.specs.Places.{SessionField, OriginHost, FlowField, Place, OfSession, OfFlow, OfRuleName, Component, Flow, host}
use Rattle.pcrf_values.specs.Values.{Value, Text}
use Rattle.pcrf_values.specs.Facts.{Fact, End, Removed, Field, fact_cmp}
use Rattle.pcrf_values.specs.Held.{ends, is_ended, blocks, is_gone}
use Rattle.pcrf_values.proofs.FactLaws.{fact_ranked}
use Rattle.pcrf_model.specs.Sessions.{Session, session_cmp, gx, is_gx}
use Rattle.pcrf_model.specs.Holdings.{SessionFact, session_fact_cmp, under, on_session, facts_on, Holding}
use Rattle.pcrf_model.specs.Operations.{Operation}
use Rattle.pcrf_model.specs.Views.{View, view}
use Rattle.pcrf_model.specs.Live.{is_live}
use Rattle.pcrf_model.specs.Tables.{Tables}
use Rattle.pcrf_model.specs.Rules.{rules}
use Rattle.pcrf_model.specs.Differences.{told_cmp, told_rules_of, rule_name_of, difference, as_told, apply}
use Rattle.pcrf_model.specs.Requests.{CcrValue}
use Rattle.pcrf_model.specs.Making.{request_says, ccr_fields, told_facts, next_tag, next_operation}
use Rattle.pcrf_model.specs.Serving.{delta_of, provision_outcome, with_added}
use Rattle.pcrf_model.specs.Pushing.{is_due, due_session, push_outcome, nothing_pushed, push}
use Rattle.pcrf_model.specs.Forms.{are_tables, is_holding}
use Rattle.pcrf_model.specs.Laws.{TellsTheFirst}
use Rattle.pcrf_model.proofs.HoldingLaws.{session_ranked, session_fact_ranked, facts_on-In, In-under, under-In}
use Rattle.pcrf_model.proofs.ViewLaws.{its_session, sessions_alone, view-Same}
use Rattle.pcrf_model.proofs.DifferenceLaws.{no_name_twice, installed-In, apply-difference}
use Rattle.pcrf_model.proofs.DueLaws.{first_is_all}
use Rattle.pcrf_model.proofs.RestOfEntries.{difference-first}
use Rattle.pcrf_model.specs.ToldTags.{ToldUpTo}
use Rattle.pcrf_model.proofs.MadeForms.{said_each, said_there}
use Rattle.pcrf_model.proofs.FormReading.{found, FlowsFit, flows_fit}
use Rattle.pcrf_model.proofs.ToldTagLaws.{told_holding}
use Rattle.pcrf_model.proofs.RuleNames.{rules-names_differ}
use Rattle.pcrf_model.proofs.ToldLaws.{told_is_told}
use Rattle.pcrf_model.proofs.ToldFacts.{is_told, same_field, IsApart, told-tells}
use Rattle.pcrf_model.proofs.TellingLaws.{facts_on-under, rules_same, told_after}

-- ---- telling the first entries, on facts

module _ (most : ℕ) (t : Tables) (xs : List SessionFact) (s : Session) (names : Distinct (map rule_name_of (rules t (view xs) s))) where
  -- what is read before
  abbrev v : View
  v = view xs

  -- the first entries of the difference
  abbrev d : DeltaValue
  d = delta_of most t v s

  -- what is installed now is of the difference
  in_difference : (r : RuleValue) → In r d.installed → In r (difference (told_rules_of v s) (rules t v s)).installed
  in_difference r i = take-In _ r (difference (told_rules_of v s) (rules t v s)).installed i

  -- the first entries are apart
  pub first_apart : IsApart (delta_of most t (view xs) s)
  first_apart = record {
    one_each = λ a b i j e. one_of_key rule_name_of (rules t v s) names a b
        (installed-In (told_rules_of v s) (rules t v s) a (in_difference a i)).0 (installed-In (told_rules_of v s) (rules t v s) b (in_difference b j)).0 e;
    not_both = λ n i j.
        let r = map-In rule_name_of n d.installed j in
        no_name_twice (told_rules_of v s) (rules t v s) n (take-In most n (difference (told_rules_of v s) (rules t v s)).removed i)
        (subst (λ (m : List ℕ). In m (map rule_name_of (difference (told_rules_of v s) (rules t v s)).installed)) (sym r.2) (In-map rule_name_of r.0 (difference (told_rules_of v s) (rules t v s)).installed (in_difference r.0 r.1)));
  }

  module _ (g : Tag) (known : In s (map its_session xs))
      (older : (m : List ℕ) (u : Tag) (x : Value) → In (Field (OfRuleName m) u x) (facts_on xs s) → tag_cmp u g ≡ Less)
      (open_ : (n : List ℕ) → is_gone (facts_on xs s) (OfRuleName n) ≡ false) where
    -- so they are told
    tells_the_first : TellsTheFirst most t v (view (xs ++ under s (told_facts g d))) s
    tells_the_first =
        let stay = rules_same xs s (told_facts g d) (told-tells g d) known t in
        let next = told_after xs s g d older open_ first_apart in
        record {
          rules_stay = stay;
          told_next = next;
          left = (λ i. difference (next i) (stay i)) ∙ difference-first most (told_rules_of v s) (rules t v s) (told_is_told xs s) names;
          all_told = λ few.
              next ∙ ap (apply (told_rules_of v s)) (first_is_all most (difference (told_rules_of v s) (rules t v s)) few)
              ∙ apply-difference (told_rules_of v s) (rules t v s) (told_is_told xs s).one_each names
              ∙ ap (λ (rs : List RuleValue). ascending told_cmp (map as_told rs)) (sym stay);
        }

-- ---- nothing told is gone, where the session is not ended

-- the end alone blocks a rule's name
pub end_alone : (n : List ℕ) (f : Fact) → blocks (OfRuleName n) f ≡ true → ends f ≡ true
end_alone n End h = refl
end_alone n (Removed (Component c)) h = clash false h refl
end_alone n (Removed (Flow c m)) h = clash false h refl
end_alone n f h = clash false h refl

-- so no told name is gone
pub told_not_gone : (facts : List Fact) (n : List ℕ) → is_ended facts ≡ false → is_gone facts (OfRuleName n) ≡ false
told_not_gone facts n open_ = is_false _ (λ h. let r = any-In (blocks (OfRuleName n)) facts h in clash (is_ended facts) (In-any ends r.0 facts r.1 (end_alone n r.0 r.2)) open_)

-- ---- the fields of a request

-- the place is a field of a flow
abbrev is_flow_place : Place → Bool
is_flow_place (OfFlow c n f) = true
is_flow_place p = false

-- a field of the session, and nothing else
pub record IsField (f : Fact) : Type 0 where
  pub name : SessionField
  pub tag : Tag
  pub value : Value
  pub is : f ≡ Field (OfSession name) tag value

-- what a request says in each field
abbrev ccr_says : CcrValue → SessionField → Option Value
ccr_says q = request_says q.user q.host q.realm (request_kind_number q.kind)

-- every fact that a request's fields make is one
pub of_request : (q : CcrValue) (t : Tag) (f : Fact) → In f (ccr_fields q t) → IsField f
of_request q t = (said_each (ccr_says q) t (λ g v e. record { name = g; tag = t; value = v; is = refl })).so

-- ---- a holding, and one with the fields of a request

module _ (h : Holding) (i : ℕ) (told_up_to : ToldUpTo h.clock h.facts) where
  -- what is told next is above all that was told
  pub above_all : (s : Session) (m : List ℕ) (u : Tag) (x : Value) → In (Field (OfRuleName m) u x) (facts_on h.facts s) → tag_cmp u (next_tag i h 0) ≡ Less
  above_all s m u x j =
      let tag = told_up_to.each (s, Field (OfRuleName m) u x) (facts_on-In h.facts s (Field (OfRuleName m) u x) j) in
      let low = tag.1 in
      let a : nat_cmp u.number 0 ≡ Equal = ap (λ n. nat_cmp n 0) tag.0 in
      let b : nat_cmp u.counter (h.clock + 1) ≡ Less = sym (nat_cmp_is u.counter (h.clock + 1) Less (omega (arith, low))) in
      λ k. ordering_then (a k) (ordering_then (b k) (nat_cmp u.site i))

module _ (h : Holding) (s : Session) (fs : List Fact) (fields : (f : Fact) → In f fs → IsField f) where
  -- the facts of the session with the fields
  facts_with : facts_on (h.facts ++ under s fs) s ≡ facts_on h.facts s ++ fs
  facts_with = filter_map-append (on_session s) h.facts (under s fs) ∙ ap (λ (l : List Fact). facts_on h.facts s ++ l) (facts_on-under s fs)

  -- fields end nothing
  ended_with : is_ended (facts_on h.facts s) ≡ false → is_ended (facts_on (h.facts ++ under s fs) s) ≡ false
  ended_with open_ = ap is_ended facts_with ∙ is_false _ (λ g. let r = any-In ends (facts_on h.facts s ++ fs) g in elim (In-cases r.0 (facts_on h.facts s) fs r.1) [
    | inl j ↦ clash (is_ended (facts_on h.facts s)) (In-any ends r.0 (facts_on h.facts s) j r.2) open_
    | inr j ↦ clash (ends r.0) r.2 (ap ends (fields r.0 j).is)
  ])

  -- they are of no flow
  flows_with : FlowsFit h.facts → FlowsFit (h.facts ++ under s fs)
  flows_with fit = record {
    low_component = λ r c n f t x i. fit.low_component r c n f t x (old r (Field (OfFlow c n f) t x) (λ q. not_field c n f t x q) i);
    low_flow = λ r c n f t x i. fit.low_flow r c n f t x (old r (Field (OfFlow c n f) t x) (λ q. not_field c n f t x q) i);
  }
    where
      old : (r : Session) (f : Fact) → (In f fs → ⊥) → In (r, f) (h.facts ++ under s fs) → In (r, f) h.facts
      old r f none i = elim (In-cases (r, f) h.facts (under s fs) i) [ inl j ↦ j | inr j ↦ absurd (none (under-In s (r, f) fs j).1) ]

      not_field : (c n : ℕ) (f : FlowField) (t : Tag) (x : Value) → In (Field (OfFlow c n f) t x) fs → ⊥
      not_field c n f t x i =
          let w = fields (Field (OfFlow c n f) t x) i in
          clash (is_flow_place (OfFlow c n f)) refl (ap is_flow_place (same_field (OfFlow c n f) (OfSession w.name) t w.tag x w.value w.is).0)

  -- what was told stays older
  older_with : (g : Tag) → ((m : List ℕ) (u : Tag) (x : Value) → In (Field (OfRuleName m) u x) (facts_on h.facts s) → tag_cmp u g ≡ Less)
      → (m : List ℕ) (u : Tag) (x : Value) → In (Field (OfRuleName m) u x) (facts_on (h.facts ++ under s fs) s) → tag_cmp u g ≡ Less
  older_with g older m u x j = elim (In-cases (Field (OfRuleName m) u x) (facts_on h.facts s) fs (subst (λ (l : List Fact). In (Field (OfRuleName m) u x) l) facts_with j)) [
    | inl k ↦ older m u x k
    | inr k ↦
        let f = fields (Field (OfRuleName m) u x) k in
        clash (is_told (OfRuleName m)) refl (ap is_told (same_field (OfRuleName m) (OfSession f.name) u f.tag x f.value f.is).0)
  ]

-- the facts of a holding with an operation, as one list
pub one_list : (xs : List SessionFact) (s : Session) (ts : List Fact) → Same (ascending session_fact_cmp (xs ++ under s (ascending fact_cmp ts))) (xs ++ under s ts)
one_list xs s ts =
    let new : List SessionFact = under s (ascending fact_cmp ts) in
    Same-through (ascending session_fact_cmp (xs ++ new)) (xs ++ new) (xs ++ under s ts)
    (ascending-In session_fact_cmp session_fact_ranked (xs ++ new))
    (Same-append xs new xs (under s ts) (Same-itself xs) (map-Same (λ (f : Fact). (s, f)) (ascending fact_cmp ts) ts (ascending-In fact_cmp fact_ranked ts)))

-- and in two steps
in_two : (xs : List SessionFact) (s : Session) (fs ts : List Fact) → xs ++ under s (fs ++ ts) ≡ (xs ++ under s fs) ++ under s ts
in_two xs s fs ts = ap (λ (l : List SessionFact). xs ++ l) (map-append (λ (f : Fact). (s, f)) fs ts) ∙ sym (append_assoc xs (under s fs) (under s ts))

-- ---- an initial request or an update, and a push

-- a session that is read has a fact
pub sessions_are : (facts : List SessionFact) (s : Session) → In s (view facts).sessions → In s (map its_session facts)
unfolding view
sessions_are facts s i = (ascending-In session_cmp session_ranked (map its_session facts) s).0 i

-- what is held with the fields of a request
abbrev with_fields : ℕ → Holding → CcrValue → List SessionFact
with_fields i h q = h.facts ++ under (gx q.session) (ccr_fields q (next_tag i h q.number))

-- an initial request or an update tells the first entries, where the names of the rules differ and what was told is up to the clock
pub provisioning-tells_up_to : (most : ℕ) (t : Tables) (i : ℕ) (h : Holding) (q : CcrValue) → ToldUpTo h.clock h.facts → Distinct (map rule_name_of (rules t (view (with_fields i h q)) (gx q.session))) →
    (view h.facts).ended (gx q.session) ≡ false →
    TellsTheFirst most t (view (h.facts ++ under (gx q.session) (ccr_fields q (next_tag i h q.number)))) (view (with_added h (provision_outcome most t i h q).added).facts) (gx q.session)
unfolding provision_outcome
provisioning-tells_up_to most t i h q told_up_to names alive =
    let s : Session = gx q.session in
    let fs : List Fact = ccr_fields q (next_tag i h q.number) in
    let xs : List SessionFact = h.facts ++ under s fs in
    let g : Tag = next_tag i h 0 in
    let fields : (f : Fact) → In f fs → IsField f = of_request q (next_tag i h q.number) in
    let open_ : is_ended (facts_on xs s) ≡ false = ended_with h s fs fields (sym (sessions_alone h.facts s).ended ∙ alive) in
    let own : Fact = Field host (next_tag i h q.number) (Text q.host) in
    let said : In own fs = said_there (ccr_says q) (next_tag i h q.number) OriginHost (Text q.host) refl in
    let there : In (s, own) xs = In-right (s, own) h.facts (under s fs) (In-under s own fs said) in
    let new : List Fact = told_facts g (delta_of most t (view xs) s) in
    let told_so : TellsTheFirst most t (view xs) (view (xs ++ under s new)) s =
    tells_the_first most t xs s names g (In-map its_session (s, own) xs there)
    (older_with h s fs fields g (above_all h i told_up_to s))
    (λ n. told_not_gone (facts_on xs s) n open_) in
    subst (λ (w : View). TellsTheFirst most t (view xs) w s) (sym (view-Same _ _ (one_list h.facts s (fs ++ new)) ∙ ap view (in_two h.facts s fs new))) told_so

-- so it does by tables and on a holding of the form
pub provisioning-tells : (most : ℕ) (t : Tables) (i : ℕ) (h : Holding) (q : CcrValue) → are_tables t ≡ true → is_holding h ≡ true → (view h.facts).ended (gx q.session) ≡ false →
    TellsTheFirst most t (view (with_fields i h q)) (view (with_added h (provision_outcome most t i h q).added).facts) (gx q.session)
provisioning-tells most t i h q rows form =
    let s : Session = gx q.session in
    let fs : List Fact = ccr_fields q (next_tag i h q.number) in
    let fit = flows_with h s fs (of_request q (next_tag i h q.number)) (flows_fit h form) in
    provisioning-tells_up_to most t i h q (told_holding h form) (rules-names_differ t (with_fields i h q) s rows fit)

-- what is added where something is due
added_due : (most : ℕ) (t : Tables) (i : ℕ) (h : Holding) (v : View) (o : Option Session) (s : Session) → o ≡ Some s
    → (unwrap_or (option_map (push_outcome most t i h v) o) nothing_pushed).added ≡ Some (next_operation i h 0 s (told_facts (next_tag i h 0) (delta_of most t v s)))
added_due most t i h v o s is = ap (λ (x : Option Session). (unwrap_or (option_map (push_outcome most t i h v) x) nothing_pushed).added) is

-- a push tells the first entries, where the names of the rules differ and what was told is up to the clock
pub pushing-tells_up_to : (most : ℕ) (t : Tables) (i : ℕ) (h : Holding) (name : Option (List ℕ)) (s : Session) → ToldUpTo h.clock h.facts → Distinct (map rule_name_of (rules t (view h.facts) s)) →
    due_session t i (view h.facts) name ≡ Some s →
    TellsTheFirst most t (view h.facts) (view (with_added h (push most t i h name).added).facts) s
unfolding push due_session
pushing-tells_up_to most t i h name s told_up_to names is =
    let v : View = view h.facts in
    let g : Tag = next_tag i h 0 in
    let new : List Fact = told_facts g (delta_of most t v s) in
    let r = found (is_due t i v name) v.sessions s is in
    let alive : is_live v s ≡ true = second_so (is_gx s.kind) _ (first_so _ _ (first_so _ _ (first_so _ _ r.1))) in
    let open_ : is_ended (facts_on h.facts s) ≡ false = sym (sessions_alone h.facts s).ended ∙ not_true _ (first_so _ _ alive) in
    let told_so : TellsTheFirst most t v (view (h.facts ++ under s new)) s =
    tells_the_first most t h.facts s names g (sessions_are h.facts s r.0) (above_all h i told_up_to s)
    (λ n. told_not_gone (facts_on h.facts s) n open_) in
    let added = added_due most t i h v (due_session t i v name) s is in
    subst (λ (w : View). TellsTheFirst most t v w s)
    (sym (view-Same _ _ (one_list h.facts s new)) ∙ ap (λ (o : Option Operation). view (with_added h o).facts) (sym added))
    told_so

-- so it does by tables and on a holding of the form
pub pushing-tells : (most : ℕ) (t : Tables) (i : ℕ) (h : Holding) (name : Option (List ℕ)) (s : Session) → are_tables t ≡ true → is_holding h ≡ true → due_session t i (view h.facts) name ≡ Some s →
    TellsTheFirst most t (view h.facts) (view (with_added h (push most t i h name).added).facts) s
pushing-tells most t i h name s rows form = pushing-tells_up_to most t i h name s (told_holding h form) (rules-names_differ t h.facts s rows (flows_fit h form))
