-- What a site replies to credit control requests.
use Rattle.std.proofs.Common.{◌≡◌, ℕ, ◌+◌, Bool, true, false, cond, List, ◌++◌, Option, Some, None, refl, sym, ap, ◌∙◌, subst, option_and_then}
use Rattle.pcrf_values.specs.Ascending.{ascending}
use Rattle.pcrf_values.specs.Sets.{In}
use Rattle.pcrf_values.specs.declared.tag.Tag.{Tag}
use Rattle.pcrf_values.proofs.Plain.{clash}
use Rattle.pcrf_values.specs.RuleValues.{DeltaValue}
use Rattle.pcrf_values.specs.Results.{unknown_session_id, initial_parameters, authorization_rejected, unable_to_comply}
use Rattle.pcrf_values.specs.declared.refusal.Refusal.{Refusal}
use Rattle.pcrf_values.specs.declared.numbers.RequestKind.{RequestKind}
use Rattle.pcrf_values.specs.declared.numbers.RequestKind.TheVariants.{Initial, Update, Termination}
use Rattle.pcrf_values.specs.Facts.{Fact, Field, fact_cmp}
use Rattle.pcrf_values.specs.Held.{is_ended, entry_shown}
use Rattle.pcrf_values.specs.Live.{gx_is_live}
use Rattle.pcrf_values.specs.Places.{apn, host}
use Rattle.pcrf_values.specs.Values.{Text}
use Rattle.pcrf_values.specs.FlowWords.{or_else}
use Rattle.pcrf_values.specs.Limits.{delta_limit}
use Rattle.pcrf_model.specs.Sessions.{Session, gx}
use Rattle.pcrf_model.specs.Holdings.{SessionFact, session_fact_cmp, under, facts_on, kept_facts, kept_of, Holding}
use Rattle.pcrf_model.specs.Operations.{Operation, with_operation}
use Rattle.pcrf_model.specs.Views.{View, view}
use Rattle.pcrf_model.specs.Live.{is_live}
use Rattle.pcrf_model.specs.Tables.{ApnRow, Tables, apn_row}
use Rattle.pcrf_model.specs.Rules.{quality_of}
use Rattle.pcrf_model.specs.Requests.{CcrValue}
use Rattle.pcrf_model.specs.Refusals.{ccr_refusal, lacks_parameters, names_no_row, is_clock_full}
use Rattle.pcrf_model.specs.Replies.{OnGx, Granted, Rejected}
use Rattle.pcrf_model.specs.Making.{ccr_fields, told_facts, next_tag}
use Rattle.pcrf_model.specs.Serving.{delta_of, provision_outcome, accepted_ccr, serve_ccr}
use Rattle.site_machine.specs.Sites.{SiteValue}
use Rattle.pcrf_model.proofs.HoldingLaws.{sorted-In}
use Rattle.pcrf_model.proofs.ViewLaws.{view-Same, view-kept}
use Rattle.site_machine.specs.Facts.{opens, operation_made, operation_told}
use Rattle.site_machine.specs.Gateway.{made_facts}
use Rattle.site_machine.specs.Replies.{quality_shown, told_reply}
use Rattle.site_machine.specs.Sites.{ccr_served}
use Rattle.site_machine.proofs.ToldOrder.{fields_then_told, host_is_set}

-- ---- refusals

-- the end of the clock refuses
abbrev pub by_clock : Holding → Option Refusal
by_clock h = cond (is_clock_full h) (Some unable_to_comply) None

-- a cause, and then something else
cause_or : (b : Bool) (r : Refusal) (x : Option Refusal) → cond b (Some r) x ≡ or_else (cond b (Some r) None) x
cause_or true r x = refl
cause_or false r x = refl

-- an access point without a row refuses
abbrev pub by_row : Tables → Option (List ℕ) → Option Refusal
by_row t apn = cond (names_no_row t apn) (Some authorization_rejected) None

module _ (t : Tables) (h : Holding) (q : CcrValue) where
  -- the facts of the request's session
  abbrev own : List Fact
  own = facts_on h.facts (gx q.session)

  -- whether it is ended
  ended_is : (view h.facts).ended (gx q.session) ≡ is_ended own
  unfolding view
  ended_is = refl

  -- and whether it is live
  live_is : is_live (view h.facts) (gx q.session) ≡ gx_is_live own
  unfolding view
  live_is = refl

  -- an initial request of an ended session
  pub initial_ended : q.kind ≡ Initial → is_ended (facts_on h.facts (gx q.session)) ≡ true → ccr_refusal t h q ≡ Some unknown_session_id
  unfolding ccr_refusal
  initial_ended kind ended = rw (kind, ended_is, ended) refl

  -- one that lacks a parameter
  pub initial_lacking : q.kind ≡ Initial → is_ended (facts_on h.facts (gx q.session)) ≡ false → lacks_parameters q ≡ true → ccr_refusal t h q ≡ Some initial_parameters
  unfolding ccr_refusal
  initial_lacking kind ended lacks = rw (kind, ended_is, ended, lacks) refl

  -- one that lacks nothing
  pub initial_whole : q.kind ≡ Initial → is_ended (facts_on h.facts (gx q.session)) ≡ false → lacks_parameters q ≡ false → ccr_refusal t h q ≡ or_else (by_row t q.user.apn) (by_clock h)
  unfolding ccr_refusal
  initial_whole kind ended lacks = rw (kind, ended_is, ended, lacks) (cause_or (names_no_row t q.user.apn) authorization_rejected (by_clock h))

  -- an update of a session that is not live
  pub update_unknown : q.kind ≡ Update → gx_is_live (facts_on h.facts (gx q.session)) ≡ false → ccr_refusal t h q ≡ Some unknown_session_id
  unfolding ccr_refusal
  update_unknown kind live = rw (kind, live_is, live) refl

  -- an update of a live one
  pub update_known : q.kind ≡ Update → gx_is_live (facts_on h.facts (gx q.session)) ≡ true → ccr_refusal t h q ≡ or_else (by_row t q.user.apn) (by_clock h)
  unfolding ccr_refusal
  update_known kind live = rw (kind, live_is, live) (cause_or (names_no_row t q.user.apn) authorization_rejected (by_clock h))

  -- a termination of a session that is not live
  pub termination_unknown : q.kind ≡ Termination → gx_is_live (facts_on h.facts (gx q.session)) ≡ false → ccr_refusal t h q ≡ Some unknown_session_id
  unfolding ccr_refusal
  termination_unknown kind live = rw (kind, live_is, live) refl

  -- a termination of a live one
  pub termination_known : q.kind ≡ Termination → gx_is_live (facts_on h.facts (gx q.session)) ≡ true → ccr_refusal t h q ≡ by_clock h
  unfolding ccr_refusal
  termination_known kind live = rw (kind, live_is, live) refl

-- ---- what is granted

-- what is held with the operation of a site shows what was held with its facts
pub shown_with : (h : Holding) (o : Operation) → view (kept_of (with_operation h o)).facts ≡ view (h.facts ++ under o.session o.facts)
shown_with h o =
    let all : List SessionFact = h.facts ++ under o.session o.facts in
    let both : List SessionFact = ascending session_fact_cmp all in
    view-Same (ascending session_fact_cmp (kept_facts both)) (kept_facts both) (sorted-In (kept_facts both))
    ∙ view-kept both
    ∙ view-Same both all (sorted-In all)

-- what is held of a session has the default quality of service that its facts show
pub quality_is : (t : Tables) (facts : List SessionFact) (s : Session) → quality_of t (view facts) s ≡ quality_shown t (facts_on facts s)
unfolding view
quality_is t facts s = refl

-- where facts show no access point, there is none
pub no_access_point : (t : Tables) (facts : List Fact) → entry_shown facts apn ≡ None → quality_shown t facts ≡ None
no_access_point t facts h = rw h refl

-- else it is that of the access point
pub access_point : (t : Tables) (facts : List Fact) (g : Tag) (name : List ℕ) → entry_shown facts apn ≡ Some (g, Text name)
    → quality_shown t facts ≡ option_and_then (λ (r : ApnRow). r.default) (apn_row t name)
access_point t facts g name h = rw h refl

-- a request that leaves its session open sets its fields
pub fields_made : (q : CcrValue) (k : RequestKind) (t : Tag) → opens k ≡ true → made_facts q k t ≡ ccr_fields q t
fields_made q Initial t h = refl
fields_made q Update t h = refl
fields_made q Termination t h = clash false h refl

-- the host among them
pub host_is_made : (q : CcrValue) (k : RequestKind) (t : Tag) → opens k ≡ true → In (Field host t (Text q.host)) (made_facts q k t)
host_is_made q k t opening = subst (In (Field host t (Text q.host))) (sym (fields_made q k t opening)) (host_is_set q t)

module _ (t : Tables) (i : ℕ) (h : Holding) (q : CcrValue) (k : RequestKind) (opening : opens k ≡ true) where
  -- the operation of the request's fields
  abbrev of_fields : Operation
  of_fields = operation_made i (h.clock + 1) q k

  -- what is read with them
  abbrev v : View
  v = view (kept_of (with_operation h of_fields)).facts

  -- what the gateway is told then
  abbrev d : DeltaValue
  d = delta_of delta_limit t v (gx q.session)

  -- so an initial request or an update gives
  pub provisioned_is : provision_outcome delta_limit t i h q ≡ record { reply = told_reply t v (gx q.session); added = Some (operation_told i (h.clock + 1) q k d) }
  unfolding provision_outcome
  provisioned_is =
      let s : Session = gx q.session in
      let tag : Tag = next_tag i h q.number in
      let fields : List Fact = ccr_fields q tag in
      let made : made_facts q k tag ≡ fields = fields_made q k tag opening in
      let shows : view (h.facts ++ under s fields) ≡ v = ap (λ (fs : List Fact). view (h.facts ++ under s fs)) (sym made) ∙ sym (shown_with h of_fields) in
      let facts : (e : DeltaValue) → ascending fact_cmp (fields ++ told_facts (next_tag i h 0) e) ≡ made_facts q k tag ++ ascending fact_cmp (told_facts (next_tag i h 0) e) =
      λ e. fields_then_told q tag (next_tag i h 0) e ∙ ap (λ (fs : List Fact). fs ++ ascending fact_cmp (told_facts (next_tag i h 0) e)) (sym made) in
      let delta : (w : View) → DeltaValue = λ w. delta_of delta_limit t w s in
      λ j. record {
        reply = OnGx (Granted (delta (shows j)) (quality_of t (shows j) s));
        added = Some (record { counter = h.clock + 1; site = i; number = q.number; session = s; facts = (facts (delta (view (h.facts ++ under s fields))) ∙ ap (λ (w : View). made_facts q k tag ++ ascending fact_cmp (told_facts (next_tag i h 0) (delta w))) shows) j });
      }

-- what is accepted of a request that leaves its session open
pub opening_is : (t : Tables) (i : ℕ) (h : Holding) (q : CcrValue) (k : RequestKind) → opens k ≡ true → accepted_ccr delta_limit t i h q k ≡ provision_outcome delta_limit t i h q
opening_is t i h q Initial opening = refl
opening_is t i h q Update opening = refl
opening_is t i h q Termination opening = clash false opening refl

-- ---- what is served

-- a refused request
pub served_refused : (s : SiteValue) (q : CcrValue) (r : Refusal) → ccr_refusal s.tables s.state.holding q ≡ Some r → ccr_served s q ≡ record { reply = OnGx (Rejected r); added = None }
unfolding serve_ccr
served_refused s q r h = rw h refl

-- an accepted one
pub served_accepted : (s : SiteValue) (q : CcrValue) (k : RequestKind) → q.kind ≡ k → ccr_refusal s.tables s.state.holding q ≡ None → ccr_served s q ≡ accepted_ccr delta_limit s.tables s.number s.state.holding q k
unfolding serve_ccr
served_accepted s q k is h = rw h (ap (accepted_ccr delta_limit s.tables s.number s.state.holding q) is)
