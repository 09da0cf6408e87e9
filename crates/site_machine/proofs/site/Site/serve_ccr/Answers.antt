use Rattle.std.proofs.Common.{rules, ◌≡◌, ℕ, Some, None, cond, Option, Bool, true, refl, ap, sym, ◌∙◌, subst, IfOk, OnOk}
use Rattle.std.proofs.lemmas.Result.{IfOk-weaker}
use Rattle.pcrf_values.specs.declared.numbers.RequestKind.{RequestKind}
use Rattle.pcrf_values.specs.declared.numbers.RequestKind.TheVariants.{Termination}
use Rattle.pcrf_values.specs.Results.{unable_to_comply}
use Rattle.pcrf_values.specs.declared.refusal.Refusal.{Refusal}
use Rattle.pcrf_values.specs.FlowWords.{or_else}
use Rattle.pcrf_model.specs.Replies.{ReplyValue, Outcome}
use Rattle.site_machine.specs.Sites.{SiteValue}
use Rattle.gx_profile.specs.Requests.{ccr_view}
use Rattle.site_machine.specs.Facts.{opens, operation_made}
use Rattle.site_machine.specs.Replies.{gx_reply_value}
use Rattle.site_machine.specs.Sites.{with_made}
use Rattle.site_machine.proofs.Replies.{by_clock, served_refused, served_accepted, opening_is}
use Rattle.site_machine.proofs.Left.{accepted_open, granted_lacks, ended_lacks}
use Rattle.site_machine.proofs.site.Site.serve_ccr.Goals as goal

pub returns-in-Some-clause-reply : goal.returns-in-Some-clause-reply
returns-in-Some-clause-reply g c =
    let s = c.args.self.now in
    let q = ccr_view c.args.ccr.now in
    let refused = c.standing_refusal.ensures ∙ ap (λ (x : Option Refusal). or_else x (by_clock s.state.holding)) c.in-Some.is in
    let served = sym (ap (λ (o : Outcome). o.reply) (served_refused s q c.in-Some.refusal refused)) in
    IfOk-weaker c.shown_to_gateway.result _ _ (λ reply is. ap gx_reply_value is ∙ served) c.shown_to_gateway.ensures.reply

pub returns-in-Some-clause-ok : goal.returns-in-Some-clause-ok
returns-in-Some-clause-ok g c =
    let s = c.args.self.now in
    let q = ccr_view c.args.ccr.now in
    let refused = c.standing_refusal.ensures ∙ ap (λ (x : Option Refusal). or_else x (by_clock s.state.holding)) c.in-Some.is in
    let served = sym (ap (λ (o : Outcome). with_made s o.added) (served_refused s q c.in-Some.refusal refused)) in
    IfOk-weaker c.shown_to_gateway.result _ _ (λ reply _. served) c.shown_to_gateway.ensures.reply

pub returns-in_default-next_counter-clause-reply : goal.returns-in_default-next_counter-clause-reply
returns-in_default-next_counter-clause-reply g c =
    let s = c.args.self.now in
    let q = ccr_view c.args.ccr.now in
    let full = ap (λ (b : Bool). cond b (Some unable_to_comply) None) (c.next_counter.ensures.full c.in_default-next_counter.is) in
    let refused = c.standing_refusal.ensures ∙ ap (λ (x : Option Refusal). or_else x (by_clock s.state.holding)) c.in_default.is ∙ full ∙ ap Some (sym c.base.ensures) in
    let served = sym (ap (λ (o : Outcome). o.reply) (served_refused s q c.base.result refused)) in
    IfOk-weaker c.shown_to_gateway-in_default-next_counter.result _ _ (λ reply is. ap gx_reply_value is ∙ served) c.shown_to_gateway-in_default-next_counter.ensures.reply

pub returns-in_default-next_counter-clause-ok : goal.returns-in_default-next_counter-clause-ok
returns-in_default-next_counter-clause-ok g c =
    let s = c.args.self.now in
    let q = ccr_view c.args.ccr.now in
    let full = ap (λ (b : Bool). cond b (Some unable_to_comply) None) (c.next_counter.ensures.full c.in_default-next_counter.is) in
    let refused = c.standing_refusal.ensures ∙ ap (λ (x : Option Refusal). or_else x (by_clock s.state.holding)) c.in_default.is ∙ full in
    let served = sym (ap (λ (o : Outcome). with_made s o.added) (served_refused s q unable_to_comply refused)) in
    IfOk-weaker c.shown_to_gateway-in_default-next_counter.result _ _ (λ reply _. served) c.shown_to_gateway-in_default-next_counter.ensures.reply

pub returns-in-Termination-clause-reply : goal.returns-in-Termination-clause-reply
returns-in-Termination-clause-reply g c =
    let s = c.args.self.now in
    let q = ccr_view c.args.ccr.now in
    let room = ap (λ (b : Bool). cond b (Some unable_to_comply) None) c.in-Some-next_counter.ensures.open in
    let none = c.standing_refusal.ensures ∙ ap (λ (x : Option Refusal). or_else x (by_clock s.state.holding)) c.in_default.is ∙ room in
    let served = ap (λ (o : Outcome). o.reply) (served_accepted s q Termination c.in-Termination.is none) in
    subst (λ (r : ReplyValue). IfOk c.close.result (λ reply. gx_reply_value reply ≡ r)) (sym served) c.close.ensures.reply

pub returns-in-Termination-clause-ok : goal.returns-in-Termination-clause-ok
returns-in-Termination-clause-ok g c =
    let s = c.args.self.now in
    let q = ccr_view c.args.ccr.now in
    let room = ap (λ (b : Bool). cond b (Some unable_to_comply) None) c.in-Some-next_counter.ensures.open in
    let none = c.standing_refusal.ensures ∙ ap (λ (x : Option Refusal). or_else x (by_clock s.state.holding)) c.in_default.is ∙ room in
    let served = ap (λ (o : Outcome). with_made s o.added) (served_accepted s q Termination c.in-Termination.is none) in
    let made = ap (λ (k : RequestKind). with_made s (Some (operation_made s.number c.in-Some-next_counter.counter q k))) c.in-Termination.is in
    let next = ap (λ (n : ℕ). with_made s (Some (operation_made s.number n q Termination))) c.in-Some-next_counter.ensures.some in
    subst (λ (x : SiteValue). OnOk c.close.result (c.close.new.self ≡ x)) (made ∙ next ∙ sym served) c.close.ensures.ok

pub returns-in-Termination-clause-left : goal.returns-in-Termination-clause-left
returns-in-Termination-clause-left g c = IfOk-weaker c.close.result _ _ (λ reply _. ended_lacks c.args.self.now c.close.new.self (ccr_view c.args.ccr.now) reply c.in-Termination.is) c.close.ensures.reply

pub provision-requires-clause-alive : goal.provision-requires-clause-alive
provision-requires-clause-alive g c =
    let s = c.args.self.now in
    let q = ccr_view c.args.ccr.now in
    let room = ap (λ (b : Bool). cond b (Some unable_to_comply) None) c.in-Some-next_counter.ensures.open in
    let none = c.standing_refusal.ensures ∙ ap (λ (x : Option Refusal). or_else x (by_clock s.state.holding)) c.in_default.is ∙ room in
    let opening : opens q.kind ≡ true = search rules in
    accepted_open s.tables s.state.holding q opening none

pub returns-in-Initial : goal.returns-in-Initial
returns-in-Initial g c =
    let s = c.args.self.now in
    let q = ccr_view c.args.ccr.now in
    let room = ap (λ (b : Bool). cond b (Some unable_to_comply) None) c.in-Some-next_counter.ensures.open in
    let none = c.standing_refusal.ensures ∙ ap (λ (x : Option Refusal). or_else x (by_clock s.state.holding)) c.in_default.is ∙ room in
    let opening : opens q.kind ≡ true = search rules in
    let served = served_accepted s q q.kind refl none ∙ opening_is s.tables s.number s.state.holding q q.kind opening in
    record {
      reply = subst (λ (o : Outcome). IfOk c.provision.result (λ reply. gx_reply_value reply ≡ o.reply)) (sym served) c.provision.ensures.reply;
      ok = subst (λ (o : Outcome). OnOk c.provision.result (c.provision.new.self ≡ with_made s o.added)) (sym served) c.provision.ensures.ok;
      left = IfOk-weaker c.provision.result _ _ (λ reply leaves. granted_lacks s c.provision.new.self q reply leaves) c.provision.ensures.left;
      saw = c.provision.ensures.saw;
      err = c.provision.ensures.err;
    }
