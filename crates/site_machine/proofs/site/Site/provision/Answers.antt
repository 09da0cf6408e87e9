use Rattle.std.proofs.Common.{◌≡◌, ℕ, true, List, [], ◌∷◌, ◌++◌, map, Option, Some, IfOk, OnOk, refl, sym, ap, ◌∙◌, subst}
use Rattle.pcrf_values.specs.Sets.{Distinct}
use Rattle.pcrf_values.proofs.SetLaws.{In-left}
use Rattle.pcrf_values.specs.RuleValues.{DeltaValue}
use Rattle.pcrf_values.specs.Facts.{Fact}
use Rattle.pcrf_values.specs.Limits.{delta_limit}
use Rattle.pcrf_model.specs.Sessions.{gx}
use Rattle.pcrf_model.specs.Holdings.{facts_on, kept_of}
use Rattle.pcrf_model.specs.Operations.{Operation, with_operation}
use Rattle.pcrf_model.specs.Views.{View, view}
use Rattle.pcrf_model.specs.Rules.{rules}
use Rattle.pcrf_model.specs.Differences.{difference, first, rule_name_of}
use Rattle.pcrf_model.specs.Forms.{are_up_to}
use Rattle.pcrf_model.specs.Replies.{Outcome}
use Rattle.pcrf_model.specs.Serving.{delta_of, empty_delta}
use Rattle.site_machine.specs.Sites.{SiteValue}
use Rattle.gx_profile.specs.Requests.{ccr_view}
use Rattle.site_join.specs.States.{record_facts}
use Rattle.site_machine.specs.Facts.{operation_made, operation_told}
use Rattle.site_machine.specs.Replies.{told_reply}
use Rattle.site_machine.specs.Sites.{with_made, with_one, with_record}
use Rattle.site_machine.proofs.Replies.{provisioned_is, host_is_made}
use Rattle.site_machine.proofs.Restoring.{restored, once_more, known_after}
use Rattle.site_machine.proofs.Formed.{put_back_up_to}
use Rattle.site_machine.proofs.Left.{shown_fields, provisioned_leaves}
use Rattle.std.proofs.lemmas.Result.{on_ok_weaker}
use Rattle.site_machine.specs.Gateway.{made_facts}
use Rattle.gx_records.specs.GxFacts.{fact_of}
use Rattle.indexed_state.specs.Alike.{BringsNothing}
use Rattle.pcrf_values.specs.Held.{kept_list, join_of}
use Rattle.pcrf_values.specs.RuleValues.{RuleValue}
use Rattle.pcrf_model.specs.Replies.{ReplyValue, OnGx, Granted}
use Rattle.site_machine.specs.Facts.{fields_of}
use Rattle.site_machine.specs.Replies.{gx_reply_value, quality_shown}
use Rattle.pcrf_values.specs.declared.default_quality.DefaultQuality.{DefaultQuality}
use Rattle.pcrf_values.specs.ToldWords.{told_rules}
use Rattle.indexed_state.specs.Opened.{OpensAlone}
use Rattle.site_machine.proofs.GrantedAlone.{granted_is, names_apart, of_some}
use Rattle.site_machine.proofs.NothingTold.{refreshed_is, same_quality, same_rules}
use Rattle.site_machine.proofs.site.Site.provision.Goals as goal

pub fields_joined-requires-clause-fields : goal.fields_joined-requires-clause-fields
fields_joined-requires-clause-fields g c =
    let s = c.args.self.now in
    let q = ccr_view c.args.ccr.now in
    ap (map fact_of) c.as_slice-2.ensures.value ∙ c.in_ok-facts.ensures ∙ ap (made_facts q q.kind) c.tag.ensures

pub returns-in-Some-2-clause-reply : goal.returns-in-Some-2-clause-reply
returns-in-Some-2-clause-reply g c =
    let s = c.args.self.now in
    let h = s.state.holding in
    let q = ccr_view c.args.ccr.now in
    let joins = c.in_ok-known.ensures ∙ ap (λ (n : ℕ). join_of (facts_on h.facts (gx q.session)) (kept_list (fields_of s.number n q q.kind))) c.requires.next in
    let comes = of_some _ c.in-Some-2.rules (λ made. OpensAlone s.tables s.state.holding q.session c.in_ok-known.known made.items) c.in-Some-2.is c.in_ok-rules.ensures in
    let is = granted_is s q c.note_kept.ensures c.in_ok-known.known c.in-Some-2.rules.items joins comes c.requires.opens in
    subst (λ (r : ReplyValue). IfOk c.grant.result (λ reply. gx_reply_value reply ≡ r)) (sym (ap (λ (o : Outcome). o.reply) is)) c.grant.ensures.reply

pub returns-in-Some-2-clause-ok : goal.returns-in-Some-2-clause-ok
returns-in-Some-2-clause-ok g c =
    let s = c.args.self.now in
    let h = s.state.holding in
    let q = ccr_view c.args.ccr.now in
    let rs = c.in-Some-2.rules.items in
    let joins = c.in_ok-known.ensures ∙ ap (λ (n : ℕ). join_of (facts_on h.facts (gx q.session)) (kept_list (fields_of s.number n q q.kind))) c.requires.next in
    let comes = of_some _ c.in-Some-2.rules (λ made. OpensAlone s.tables s.state.holding q.session c.in_ok-known.known made.items) c.in-Some-2.is c.in_ok-rules.ensures in
    let is = granted_is s q c.note_kept.ensures c.in_ok-known.known rs joins comes c.requires.opens in
    let told = ap (λ (n : ℕ). Some (operation_told s.number n q q.kind (first delta_limit (difference (told_rules c.in_ok-known.known) rs)))) c.requires.next ∙ sym (ap (λ (o : Outcome). o.added) is) in
    subst (λ (o : Option Operation). OnOk c.grant.result (c.grant.new.self ≡ with_made s o)) told c.grant.ensures.ok

pub returns-in-Some-2-clause-left : goal.returns-in-Some-2-clause-left
returns-in-Some-2-clause-left g c =
    let s = c.args.self.now in
    let h = s.state.holding in
    let q = ccr_view c.args.ccr.now in
    let joins = c.in_ok-known.ensures ∙ ap (λ (n : ℕ). join_of (facts_on h.facts (gx q.session)) (kept_list (fields_of s.number n q q.kind))) c.requires.next in
    let comes = of_some _ c.in-Some-2.rules (λ made. OpensAlone s.tables s.state.holding q.session c.in_ok-known.known made.items) c.in-Some-2.is c.in_ok-rules.ensures in
    let apart = names_apart s q c.note_kept.ensures c.in_ok-known.known c.in-Some-2.rules.items joins comes in
    let names = subst (λ (v : View). Distinct (map rule_name_of (rules s.tables v (gx q.session)))) (shown_fields s.number h q q.kind c.requires.opens) apart in
    on_ok_weaker c.grant.result
    (provisioned_leaves s c.note_told.ensures q c.requires.alive names c.grant.new.self)
    (returns-in-Some-2-clause-ok g c)

pub refresh-requires-clause-nothing : goal.refresh-requires-clause-nothing
refresh-requires-clause-nothing g c =
    let s = c.args.self.now in
    let q = ccr_view c.args.ccr.now in
    let own = facts_on s.state.holding.facts (gx q.session) in
    let made = ap (map fact_of) c.as_slice.ensures.value ∙ c.in_ok-facts.ensures ∙ ap (made_facts q q.kind) c.tag.ensures in
    subst (λ (fs : List Fact). BringsNothing s.tables s.state.holding (gx q.session) (join_of own (kept_list fs))) made c.in-Some.ensures.nothing

pub returns-in-Some-clause-reply : goal.returns-in-Some-clause-reply
returns-in-Some-clause-reply g c =
    let s = c.args.self.now in
    let h = s.state.holding in
    let q = ccr_view c.args.ccr.now in
    let own = facts_on h.facts (gx q.session) in
    let known = join_of own (kept_list (fields_of s.number c.args.counter q q.kind)) in
    let made = ap (map fact_of) c.as_slice.ensures.value ∙ c.in_ok-facts.ensures ∙ ap (made_facts q q.kind) c.tag.ensures in
    let nothing = subst (λ (fs : List Fact). BringsNothing s.tables h (gx q.session) (join_of own (kept_list fs))) made c.in-Some.ensures.nothing in
    let joins = ap (λ (n : ℕ). join_of own (kept_list (fields_of s.number n q q.kind))) c.requires.next in
    let is = refreshed_is s q c.requires.opens c.note_kept.ensures known joins nothing in
    let tables = c.tables.ensures ∙ ap (λ (x : SiteValue). x.tables) c.self.view_is in
    let quality = c.quality_by-quality.ensures
    ∙ (λ i. quality_shown (tables i) (c.in-Some.ensures.stands i))
    ∙ same_quality s.tables own known nothing.alike in
    let reply = ap (λ (d : Option DefaultQuality). OnGx (Granted empty_delta d)) quality ∙ sym (ap (λ (o : Outcome). o.reply) is) in
    subst (λ (r : ReplyValue). IfOk c.refresh.result (λ reply. gx_reply_value reply ≡ r)) reply c.refresh.ensures.reply

pub returns-in-Some-clause-ok : goal.returns-in-Some-clause-ok
returns-in-Some-clause-ok g c =
    let s = c.args.self.now in
    let h = s.state.holding in
    let q = ccr_view c.args.ccr.now in
    let own = facts_on h.facts (gx q.session) in
    let known = join_of own (kept_list (fields_of s.number c.args.counter q q.kind)) in
    let fields = ap (map fact_of) c.as_slice.ensures.value ∙ c.in_ok-facts.ensures ∙ ap (made_facts q q.kind) c.tag.ensures in
    let nothing = subst (λ (fs : List Fact). BringsNothing s.tables h (gx q.session) (join_of own (kept_list fs))) fields c.in-Some.ensures.nothing in
    let joins = ap (λ (n : ℕ). join_of own (kept_list (fields_of s.number n q q.kind))) c.requires.next in
    let is = refreshed_is s q c.requires.opens c.note_kept.ensures known joins nothing in
    let made = ap (λ (n : ℕ). Some (operation_made s.number n q q.kind)) c.requires.next ∙ sym (ap (λ (o : Outcome). o.added) is) in
    subst (λ (o : Option Operation). OnOk c.refresh.result (c.refresh.new.self ≡ with_made s o)) made c.refresh.ensures.ok

pub returns-in-Some-clause-left : goal.returns-in-Some-clause-left
returns-in-Some-clause-left g c =
    let s = c.args.self.now in
    let h = s.state.holding in
    let q = ccr_view c.args.ccr.now in
    let own = facts_on h.facts (gx q.session) in
    let known = join_of own (kept_list (fields_of s.number c.args.counter q q.kind)) in
    let fields = ap (map fact_of) c.as_slice.ensures.value ∙ c.in_ok-facts.ensures ∙ ap (made_facts q q.kind) c.tag.ensures in
    let nothing = subst (λ (fs : List Fact). BringsNothing s.tables h (gx q.session) (join_of own (kept_list fs))) fields c.in-Some.ensures.nothing in
    let joins = ap (λ (n : ℕ). join_of own (kept_list (fields_of s.number n q q.kind))) c.requires.next in
    let stays = same_rules s q c.requires.opens c.note_kept.ensures known joins nothing in
    let apart = subst (λ (rs : List RuleValue). Distinct (map rule_name_of rs)) stays nothing.apart in
    let names = subst (λ (v : View). Distinct (map rule_name_of (rules s.tables v (gx q.session)))) (shown_fields s.number h q q.kind c.requires.opens) apart in
    on_ok_weaker c.refresh.result
    (provisioned_leaves s c.note_told.ensures q c.requires.alive names c.refresh.new.self)
    (returns-in-Some-clause-ok g c)

pub tell-requires-clause-set : goal.tell-requires-clause-set
tell-requires-clause-set g c =
    let s = c.args.self.now in
    let q = ccr_view c.args.ccr.now in
    let o = operation_made s.number c.args.counter q q.kind in
    subst (λ (x : SiteValue). kept_of (with_operation x.state.holding (operation_made x.number c.args.counter q q.kind)) ≡ x.state.holding) (sym c.in_ok-stood.ensures.ok)
    (once_more s.state.holding o o refl refl (λ (f : Fact) i. i))

pub put_back-requires-clause-known : goal.put_back-requires-clause-known
put_back-requires-clause-known g c = λ none.
    let s = c.args.self.now in
    let q = ccr_view c.args.ccr.now in
    let o = operation_made s.number c.args.counter q q.kind in
    let after = c.in-Err.ensures.err ∙ c.in_ok-stood.ensures.ok in
    known_after s.state.holding o _ (host_is_made q q.kind (record { number = q.number; counter = c.args.counter; site = s.number }) c.requires.opens)
    (sym (ap (λ (x : SiteValue). facts_on x.state.holding.facts (gx q.session)) after) ∙ none)

pub put_back-requires-clause-back : goal.put_back-requires-clause-back
put_back-requires-clause-back g c =
    let s = c.args.self.now in
    let h = s.state.holding in
    let q = ccr_view c.args.ccr.now in
    let o = operation_made s.number c.args.counter q q.kind in
    let after = c.in-Err.ensures.err ∙ c.in_ok-stood.ensures.ok in
    let clock = c.clock-clock.ensures.clock ∙ ap (λ (x : SiteValue). x.state.holding.clock) c.self.view_is in
    let is =
    ap (λ (x : SiteValue). with_record x (gx q.session) (record_facts c.in_ok-stood.stood) c.clock-clock.result) after
    ∙ ap (λ (fs : List Fact). with_record (with_one s o) (gx q.session) fs c.clock-clock.result) c.in_ok-stood.ensures.stood
    ∙ ap (λ (n : ℕ). with_record (with_one s o) (gx q.session) (facts_on h.facts (gx q.session)) n) clock in
    subst (λ (x : SiteValue). are_up_to x.state.holding.clock x.state.holding.facts ≡ true) (sym is) (put_back_up_to h o c.note_kept.ensures c.note_form.ensures)

pub returns-in-Ok-clause-reply : goal.returns-in-Ok-clause-reply
returns-in-Ok-clause-reply g c =
    let s = c.args.self.now in
    let h = s.state.holding in
    let q = ccr_view c.args.ccr.now in
    let t = s.tables in
    c.in-Ok.ensures.reply
    ∙ ap (λ (x : SiteValue). told_reply x.tables (view x.state.holding.facts) (gx q.session)) c.in_ok-stood.ensures.ok
    ∙ ap (λ (n : ℕ). told_reply t (view (kept_of (with_operation h (operation_made s.number n q q.kind))).facts) (gx q.session)) c.requires.next
    ∙ sym (ap (λ (o : Outcome). o.reply) (provisioned_is t s.number h q q.kind c.requires.opens))

pub returns-in-Ok-clause-ok : goal.returns-in-Ok-clause-ok
returns-in-Ok-clause-ok g c =
    let s = c.args.self.now in
    let h = s.state.holding in
    let q = ccr_view c.args.ccr.now in
    let t = s.tables in
    let made : ℕ → Operation = λ n. operation_made s.number n q q.kind in
    let delta : SiteValue → DeltaValue = λ x. delta_of delta_limit x.tables (view x.state.holding.facts) (gx q.session) in
    let one : ℕ → SiteValue = λ n. with_one s (made n) in
    let told : ℕ → Operation = λ n. operation_told s.number n q q.kind (delta (one n)) in
    let twice = once_more h (made c.args.counter) (told c.args.counter) refl refl (λ (f : Fact) i. In-left f (made c.args.counter).facts _ i) in
    c.in-Ok.ensures.ok
    ∙ ap (λ (x : SiteValue). with_made x (Some (operation_told x.number c.args.counter q q.kind (delta x)))) c.in_ok-stood.ensures.ok
    ∙ (λ i. record s { state = record { holding = twice i; log = s.state.log ++ told c.args.counter ∷ [] } })
    ∙ ap (λ (n : ℕ). with_made s (Some (told n))) c.requires.next
    ∙ sym (ap (λ (o : Outcome). with_made s o.added) (provisioned_is t s.number h q q.kind c.requires.opens))

pub returns-in-Ok-clause-left : goal.returns-in-Ok-clause-left
returns-in-Ok-clause-left g c =
    let s = c.args.self.now in
    let h = s.state.holding in
    let q = ccr_view c.args.ccr.now in
    let apart : SiteValue → Type 0 = λ x. Distinct (map rule_name_of (rules x.tables (view x.state.holding.facts) (gx q.session))) in
    let one : ℕ → SiteValue = λ n. with_one s (operation_made s.number n q q.kind) in
    let names = subst apart (ap one c.requires.next) (subst apart c.in_ok-stood.ensures.ok c.in-Ok.ensures.names) in
    provisioned_leaves s c.note_told.ensures q c.requires.alive
    (subst (λ (v : View). Distinct (map rule_name_of (rules s.tables v (gx q.session)))) (shown_fields s.number h q q.kind c.requires.opens) names)
    _ (returns-in-Ok-clause-ok g c)

pub returns-in-Err-clause-err : goal.returns-in-Err-clause-err
returns-in-Err-clause-err g c =
    let s = c.args.self.now in
    let h = s.state.holding in
    let q = ccr_view c.args.ccr.now in
    let after = c.in-Err.ensures.err ∙ c.in_ok-stood.ensures.ok in
    let clock = c.clock-clock.ensures.clock ∙ ap (λ (x : SiteValue). x.state.holding.clock) c.self.view_is in
    let back = restored h (operation_made s.number c.args.counter q q.kind) c.note_kept.ensures in
    c.put_back.ensures
    ∙ ap (λ (x : SiteValue). with_record x (gx q.session) (record_facts c.in_ok-stood.stood) c.clock-clock.result) after
    ∙ ap (λ (fs : List Fact). with_record (with_one s (operation_made s.number c.args.counter q q.kind)) (gx q.session) fs c.clock-clock.result) c.in_ok-stood.ensures.stood
    ∙ ap (λ (n : ℕ). with_record (with_one s (operation_made s.number c.args.counter q q.kind)) (gx q.session) (facts_on h.facts (gx q.session)) n) clock
    ∙ (λ i. record s { state = record { holding = back i; log = s.state.log } })
