-- How a site serves application functions.
use Rattle.std.proofs.Common.{◌≡◌, ℕ, ◌+◌, Bool, true, false, not, ◌&&◌, is_none, is_some, List, [], ◌∷◌, ◌++◌, Option, Some, None, refl, sym, ap, ◌∙◌, option_map, option_copied, Bor}
use Rattle.std.proofs.lemmas.List.{append-nil}
use Rattle.std.specs.List.{list_any}
use Rattle.pcrf_values.specs.Ascending.{ascending}
use Rattle.pcrf_values.specs.declared.refusal.Refusal.{Refusal}
use Rattle.pcrf_values.specs.Results.{missing_avp, service_not_authorized, session_not_available, unable_to_comply, unknown_session_id}
use Rattle.pcrf_values.specs.Facts.{Fact, End, fact_cmp}
use Rattle.pcrf_values.specs.Held.{kept_list, join_of, is_ended}
use Rattle.pcrf_values.specs.Live.{af_is_live}
use Rattle.pcrf_model.specs.Sessions.{gx, af}
use Rattle.pcrf_model.specs.Holdings.{Holding, SessionFact, under, facts_on}
use Rattle.pcrf_model.specs.Tables.{Tables}
use Rattle.pcrf_model.specs.Views.{view}
use Rattle.pcrf_model.specs.Live.{is_live}
use Rattle.pcrf_model.specs.Requests.{gives_no_address, AarValue, StrValue}
use Rattle.pcrf_model.specs.Refusals.{first_cause, aar_refusal, str_refusal, binds_to_none, has_no_class, is_clock_full}
use Rattle.pcrf_model.specs.Replies.{Done, Refused}
use Rattle.pcrf_model.specs.Serving.{serve_aar, serve_str}
use Rattle.indexed_state.proofs.Records.{HasRecord, kept_record}
use Rattle.indexed_state.proofs.PlacedRecord.{facts_on-append, own_under, held-append}
use Rattle.site_machine.specs.Call.{call_facts}
use Rattle.site_machine.specs.Calls.{late_refusal}
use Rattle.site_machine.specs.Facts.{operation_on_call}
use Rattle.site_machine.specs.Sites.{SiteValue, aar_served, str_served}

-- ---- the facts of one session among others

-- none of a gateway's session among an application function's
other_under : (id a : List ℕ) (fs : List Fact) → facts_on (under (af a) fs) (gx id) ≡ []
other_under id a [] = refl
other_under id a (f ∷ fs) = other_under id a fs

-- so with a request's facts the session asks for a binding by that record
pub asks_with : (facts : List SessionFact) (a : List ℕ) (fs asking : List Fact) → asking ≡ join_of (facts_on facts (af a)) (kept_list fs) → HasRecord facts asking (facts ++ under (af a) fs) a
asks_with facts a fs asking is = kept_record facts asking (facts ++ under (af a) fs) a
    (λ id.
    sym (facts_on-append facts (under (af a) fs) (gx id)
    ∙ ap (λ (l : List Fact). facts_on facts (gx id) ++ l) (other_under id a fs)
    ∙ append-nil (facts_on facts (gx id))))
    (is ∙ held-append (facts_on facts (af a)) fs
    ∙ ap kept_list (sym (facts_on-append facts (under (af a) fs) (af a) ∙ ap (λ (l : List Fact). facts_on facts (af a) ++ l) (own_under (af a) fs))))

-- what is there is the opposite of what is none
turned : (a b : Bool) → a ≡ not b → b ≡ not a
turned true true h = absurd (cc)
turned true false h = refl
turned false true h = refl
turned false false h = absurd (cc)

-- none is found
none_found : (x : Option (Bor (List ℕ))) → not (is_some x) ≡ is_none (option_map gx (option_copied x))
none_found None = refl
none_found (Some x) = refl

-- so it is said
pub none_copied : (x : Option (Bor (List ℕ))) (b : Bool) → is_some x ≡ not b → b ≡ is_none (option_map gx (option_copied x))
none_copied x b is = turned (is_some x) b is ∙ none_found x

-- ---- refusals of AA requests

-- the second of causes stands
second_stands : (a b : Bool) (r s : Refusal) (rest : List (Bool × Refusal)) → a ≡ false → b ≡ true → first_cause ((a, r) ∷ (b, s) ∷ rest) ≡ Some s
second_stands a b r s rest first second = rw (first, second) refl

-- the third
third_stands : (a b c : Bool) (q r s : Refusal) (rest : List (Bool × Refusal)) → a ≡ false → b ≡ false → c ≡ true → first_cause ((a, q) ∷ (b, r) ∷ (c, s) ∷ rest) ≡ Some s
third_stands a b c q r s rest first second third = rw (first, second, third) refl

-- one behind them
later_stands : (a b c : Bool) (q r s : Refusal) (rest : List (Bool × Refusal)) → a ≡ false → b ≡ false → c ≡ false → first_cause ((a, q) ∷ (b, r) ∷ (c, s) ∷ rest) ≡ first_cause rest
later_stands a b c q r s rest first second third = rw (first, second, third) refl

module _ (t : Tables) (i : ℕ) (h : Holding) (q : AarValue) where
  -- the facts of the request's session
  abbrev own : List Fact
  own = facts_on h.facts (af q.session)

  -- whether it is ended
  ended_is : (view h.facts).ended (af q.session) ≡ is_ended own
  unfolding view
  ended_is = refl

  -- and whether it is live
  live_is : is_live (view h.facts) (af q.session) ≡ af_is_live own
  unfolding view
  live_is = refl

  -- nor says the request where its user is reached
  no_address : (b : Bool) → (not (af_is_live own) && gives_no_address q.user) ≡ b → (not (is_live (view h.facts) (af q.session)) && gives_no_address q.user) ≡ b
  no_address b given = ap (λ (l : Bool). not l && gives_no_address q.user) live_is ∙ given

  -- of an ended session
  pub call_ended : is_ended (facts_on h.facts (af q.session)) ≡ true → aar_refusal t i h q ≡ Some unknown_session_id
  unfolding aar_refusal
  call_ended ended = rw (ended_is, ended) refl

  -- by which it isn't known where the user is reached
  pub call_unknown : is_ended (facts_on h.facts (af q.session)) ≡ false → (not (af_is_live (facts_on h.facts (af q.session))) && gives_no_address q.user) ≡ true → aar_refusal t i h q ≡ Some missing_avp
  unfolding aar_refusal
  call_unknown ended unknown = second_stands ((view h.facts).ended (af q.session)) (not (is_live (view h.facts) (af q.session)) && gives_no_address q.user) unknown_session_id missing_avp
      ((list_any (has_no_class t) q.components, service_not_authorized) ∷ ((binds_to_none i h q, session_not_available) ∷ (is_clock_full h, unable_to_comply) ∷ [])) (ended_is ∙ ended) (no_address true unknown)

  -- with a Media-Type without a row
  pub call_unclassed : is_ended (facts_on h.facts (af q.session)) ≡ false → (not (af_is_live (facts_on h.facts (af q.session))) && gives_no_address q.user) ≡ false
      → list_any (has_no_class t) q.components ≡ true → aar_refusal t i h q ≡ Some service_not_authorized
  unfolding aar_refusal
  call_unclassed ended known unclassed = third_stands ((view h.facts).ended (af q.session)) (not (is_live (view h.facts) (af q.session)) && gives_no_address q.user) (list_any (has_no_class t) q.components)
      unknown_session_id missing_avp service_not_authorized ((binds_to_none i h q, session_not_available) ∷ (is_clock_full h, unable_to_comply) ∷ []) (ended_is ∙ ended) (no_address false known) unclassed

  -- else by its binding and by the clock
  pub call_open : is_ended (facts_on h.facts (af q.session)) ≡ false → (not (af_is_live (facts_on h.facts (af q.session))) && gives_no_address q.user) ≡ false
      → list_any (has_no_class t) q.components ≡ false → aar_refusal t i h q ≡ late_refusal i h q
  unfolding aar_refusal
  call_open ended known classed = later_stands ((view h.facts).ended (af q.session)) (not (is_live (view h.facts) (af q.session)) && gives_no_address q.user) (list_any (has_no_class t) q.components)
      unknown_session_id missing_avp service_not_authorized ((binds_to_none i h q, session_not_available) ∷ (is_clock_full h, unable_to_comply) ∷ []) (ended_is ∙ ended) (no_address false known) classed

-- would be bound to none
pub late_unbound : (i : ℕ) (h : Holding) (q : AarValue) → binds_to_none i h q ≡ true → late_refusal i h q ≡ Some session_not_available
late_unbound i h q none = rw none refl

-- no counter is left
pub late_full : (i : ℕ) (h : Holding) (q : AarValue) → binds_to_none i h q ≡ false → is_clock_full h ≡ true → late_refusal i h q ≡ Some unable_to_comply
late_full i h q bound full = rw (bound, full) refl

-- neither
pub late_none : (i : ℕ) (h : Holding) (q : AarValue) → binds_to_none i h q ≡ false → is_clock_full h ≡ false → late_refusal i h q ≡ None
late_none i h q bound left = rw (bound, left) refl

-- ---- what is served

-- an AA request that is refused
pub aar_refused : (s : SiteValue) (q : AarValue) (r : Refusal) → aar_refusal s.tables s.number s.state.holding q ≡ Some r → aar_served s q ≡ record { reply = Refused r; added = None }
unfolding serve_aar
aar_refused s q r is = rw is refl

-- one that is accepted
pub aar_accepted : (s : SiteValue) (q : AarValue) → aar_refusal s.tables s.number s.state.holding q ≡ None
    → aar_served s q ≡ record {
      reply = Done;
      added = Some (operation_on_call s.number (s.state.holding.clock + 1) q.session (ascending fact_cmp (call_facts s.number (s.state.holding.clock + 1) q)));
    }
unfolding serve_aar
aar_accepted s q is = rw is refl

-- a session termination request of a session that is not live
pub str_unknown : (s : SiteValue) (q : StrValue) → af_is_live (facts_on s.state.holding.facts (af q.session)) ≡ false → str_served s q ≡ record { reply = Refused unknown_session_id; added = None }
unfolding serve_str str_refusal view
str_unknown s q live = rw live refl

-- where no counter is left
pub str_full : (s : SiteValue) (q : StrValue) → af_is_live (facts_on s.state.holding.facts (af q.session)) ≡ true → is_clock_full s.state.holding ≡ true
    → str_served s q ≡ record { reply = Refused unable_to_comply; added = None }
unfolding serve_str str_refusal view
str_full s q live full = rw (live, full) refl

-- and one that is accepted
pub str_accepted : (s : SiteValue) (q : StrValue) → af_is_live (facts_on s.state.holding.facts (af q.session)) ≡ true → is_clock_full s.state.holding ≡ false
    → str_served s q ≡ record { reply = Done; added = Some (operation_on_call s.number (s.state.holding.clock + 1) q.session (End ∷ [])) }
unfolding serve_str str_refusal view
str_accepted s q live left = rw (live, left) refl
