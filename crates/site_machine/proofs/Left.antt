-- What a gateway lacks after a request of its was granted, or after a push.
use Rattle.std.proofs.Common.{◌≡◌, ℕ, ◌+◌, Bool, true, false, not, cond, List, ◌++◌, map, Option, Some, None, refl, sym, ap, ◌∙◌, subst}
use Rattle.std.specs.Prelude.{IfSome, if◌then◌else◌}
use Rattle.std.specs.Cmp.{first_so}
use Rattle.pcrf_values.specs.Sets.{Distinct}
use Rattle.pcrf_values.proofs.Plain.{clash, not_true, none_some}
use Rattle.pcrf_values.specs.Results.{unknown_session_id}
use Rattle.pcrf_values.specs.declared.refusal.Refusal.{Refusal}
use Rattle.pcrf_values.specs.declared.numbers.RequestKind.{RequestKind}
use Rattle.pcrf_values.specs.declared.numbers.RequestKind.TheVariants.{Initial, Update, Termination}
use Rattle.pcrf_values.specs.Facts.{Fact}
use Rattle.pcrf_values.specs.Limits.{delta_limit}
use Rattle.pcrf_model.specs.Sessions.{Session, gx}
use Rattle.pcrf_model.specs.Holdings.{Holding, under, kept_of}
use Rattle.pcrf_model.specs.Operations.{Operation, with_operation}
use Rattle.pcrf_model.specs.Views.{View, view}
use Rattle.pcrf_model.specs.Live.{is_live}
use Rattle.pcrf_model.specs.Tables.{Tables}
use Rattle.pcrf_model.specs.Rules.{rules}
use Rattle.pcrf_model.specs.Differences.{rule_name_of}
use Rattle.pcrf_model.specs.Requests.{CcrValue}
use Rattle.pcrf_model.specs.Refusals.{first_cause, ccr_causes, ccr_refusal}
use Rattle.pcrf_model.specs.Making.{next_tag}
use Rattle.pcrf_model.specs.Serving.{provision_outcome, with_added}
use Rattle.pcrf_model.specs.Pushing.{due_session, push}
use Rattle.pcrf_model.specs.Laws.{TellsTheFirst}
use Rattle.pcrf_model.specs.ToldTags.{ToldUpTo}
use Rattle.pcrf_model.proofs.UnionLaws.{view-kept_of}
use Rattle.pcrf_model.proofs.ProvisionLaws.{provisioning-tells_up_to, pushing-tells_up_to}
use Rattle.site_machine.specs.Facts.{opens, operation_made}
use Rattle.pcrf_model.specs.declared.answer.GxReply.{GxReply}
use Rattle.pcrf_model.specs.declared.answer.GxReply.TheVariants.{Granted, Refused}
use Rattle.site_machine.specs.Left.{with_fields, fields_added, granted_opening, LacksTheRest}
use Rattle.site_machine.specs.Sites.{SiteValue, with_made}
use Rattle.site_machine.proofs.Replies.{fields_made, shown_with}

-- ---- a request that isn't refused

-- a cause that refuses nothing doesn't stand
no_cause : (b : Bool) (r : Refusal) (x : Option Refusal) → cond b (Some r) x ≡ None → b ≡ false
no_cause true r x e = none_some r (sym e)
no_cause false r x e = refl

-- what is not false is true
not_false : (b : Bool) → not b ≡ false → b ≡ true
not_false true h = refl
not_false false h = clash true refl h

-- where an initial request or an update is accepted its session isn't ended
not_ended : (t : Tables) (h : Holding) (v : View) (q : CcrValue) (k : RequestKind) → opens k ≡ true → first_cause (ccr_causes t h v q k) ≡ None → v.ended (gx q.session) ≡ false
not_ended t h v q Initial opening e = no_cause (v.ended (gx q.session)) unknown_session_id _ e
not_ended t h v q Update opening e = not_true _ (first_so (not (v.ended (gx q.session))) _ (not_false _ (no_cause (not (is_live v (gx q.session))) unknown_session_id _ e)))
not_ended t h v q Termination opening e = clash false opening refl

-- so it is of what is held
pub accepted_open : (t : Tables) (h : Holding) (q : CcrValue) → opens q.kind ≡ true → ccr_refusal t h q ≡ None → (view h.facts).ended (gx q.session) ≡ false
unfolding ccr_refusal
accepted_open t h q = not_ended t h (view h.facts) q q.kind

-- ---- what is held with the fields of a request, and with what is told

-- what a site holds with an operation of its own shows what the definitions hold with it
shown_made : (s : SiteValue) (o : Option Operation) → view (with_made s o).state.holding.facts ≡ view (with_added s.state.holding o).facts
shown_made s None = refl
shown_made s (Some o) = view-kept_of (with_operation s.state.holding o)

-- what is read with the fields of a request
pub shown_fields : (i : ℕ) (h : Holding) (q : CcrValue) (k : RequestKind) → opens k ≡ true → view (kept_of (with_operation h (operation_made i (h.clock + 1) q k))).facts ≡ view (with_fields i h q)
shown_fields i h q k opening =
    shown_with h (operation_made i (h.clock + 1) q k)
    ∙ ap (λ (fs : List Fact). view (h.facts ++ under (gx q.session) fs)) (fields_made q k (next_tag i h q.number) opening)

module _ (s : SiteValue) (w : ToldUpTo s.state.holding.clock s.state.holding.facts) where
  -- what is held
  abbrev h : Holding
  h = s.state.holding

  -- an initial request or an update leaves the rest
  pub provisioned_leaves : (q : CcrValue) → (view s.state.holding.facts).ended (gx q.session) ≡ false
      → Distinct (map rule_name_of (rules s.tables (view (with_fields s.number s.state.holding q)) (gx q.session)))
      → (after : SiteValue) → after ≡ with_made s (provision_outcome delta_limit s.tables s.number s.state.holding q).added
      → TellsTheFirst delta_limit s.tables (view (with_fields s.number s.state.holding q)) (view after.state.holding.facts) (gx q.session)
  provisioned_leaves q alive names after is =
      let o : Option Operation = (provision_outcome delta_limit s.tables s.number h q).added in
      subst (λ (v : View). TellsTheFirst delta_limit s.tables (view (with_fields s.number h q)) v (gx q.session))
      (sym (ap (λ (x : SiteValue). view x.state.holding.facts) is ∙ shown_made s o))
      (provisioning-tells_up_to delta_limit s.tables s.number h q w names alive)

  -- and so does a push
  pub pushed_leaves : (name : Option (List ℕ)) (r : Session) → due_session s.tables s.number (view s.state.holding.facts) name ≡ Some r
      → Distinct (map rule_name_of (rules s.tables (view s.state.holding.facts) r))
      → (after : SiteValue) → after ≡ with_made s (push delta_limit s.tables s.number s.state.holding name).added
      → TellsTheFirst delta_limit s.tables (view s.state.holding.facts) (view after.state.holding.facts) r
  pushed_leaves name r is_due names after is =
      let o : Option Operation = (push delta_limit s.tables s.number h name).added in
      subst (λ (v : View). TellsTheFirst delta_limit s.tables (view h.facts) v r)
      (sym (ap (λ (x : SiteValue). view x.state.holding.facts) is ∙ shown_made s o))
      (pushing-tells_up_to delta_limit s.tables s.number h name r w names is_due)

-- ---- replies

-- the gateway lacks the rest, whatever the request is granted
abbrev pub GrantLacksTheRest : SiteValue → SiteValue → CcrValue → GxReply → Type 0
GrantLacksTheRest before after q reply = IfSome (granted_opening q reply) (λ x. LacksTheRest before (fields_added before x) after (gx x.session))

-- so it does where it lacks the rest anyway
pub granted_lacks : (before after : SiteValue) (q : CcrValue) (reply : GxReply)
    → LacksTheRest before (fields_added before q) after (gx q.session) → GrantLacksTheRest before after q reply
granted_lacks before after q (Granted delta quality) lacks =
    elim (opens q.kind) as (λ b. IfSome (if b then Some q else None) (λ x. LacksTheRest before (fields_added before x) after (gx x.session)))
    [ true ↦ lacks | false ↦ tt ]
granted_lacks before after q (Refused r) lacks = tt

-- an end is no opening
pub ended_lacks : (before after : SiteValue) (q : CcrValue) (reply : GxReply) → q.kind ≡ Termination → GrantLacksTheRest before after q reply
ended_lacks before after q (Granted delta quality) is =
    subst (λ b. IfSome (if b then Some q else None) (λ x. LacksTheRest before (fields_added before x) after (gx x.session)))
    (sym (ap opens is)) tt
ended_lacks before after q (Refused r) is = tt
