use Rattle.std.proofs.Common.{◌≡◌, ℕ, ◌+◌, List, Some, Option, is_none, map, IfSome, ap, sym, ◌∙◌, subst, arith}
use Rattle.pcrf_values.specs.Ascending.{ascending}
use Rattle.pcrf_values.specs.declared.refusal.Refusal.{Refusal}
use Rattle.pcrf_values.specs.Facts.{Fact, fact_cmp}
use Rattle.pcrf_values.specs.FlowWords.{or_else}
use Rattle.pcrf_model.specs.Replies.{Outcome}
use Rattle.af_records.specs.RecordFacts.{fact_of}
use Rattle.rx_profile.specs.Requests.{aar_view}
use Rattle.site_machine.specs.Call.{call_facts}
use Rattle.site_machine.specs.Calls.{late_refusal}
use Rattle.site_machine.specs.Facts.{operation_on_call}
use Rattle.site_machine.specs.Sites.{with_made}
use Rattle.pcrf_model.specs.Forms.{is_operation}
use Rattle.site_machine.proofs.Formed.{stamped, call_formed}
use Rattle.site_machine.proofs.CallLaws.{late_unbound, late_full, late_none, aar_refused, aar_accepted}
use Rattle.site_machine.proofs.site.Site.serve_aar.Goals as goal

pub returns-in-Some-clause-reply : goal.returns-in-Some-clause-reply
returns-in-Some-clause-reply c =
    let s = c.args.self.now in
    let q = aar_view c.args.aar.now in
    let refused = c.early_refusal.ensures ∙ ap (λ (x : Option Refusal). or_else x (late_refusal s.number s.state.holding q)) c.in-Some.is in
    sym (ap (λ (o : Outcome). o.reply) (aar_refused s q c.in-Some.refusal refused))

pub returns-in-Some-clause-ok : goal.returns-in-Some-clause-ok
returns-in-Some-clause-ok c =
    let s = c.args.self.now in
    let q = aar_view c.args.aar.now in
    let refused = c.early_refusal.ensures ∙ ap (λ (x : Option Refusal). or_else x (late_refusal s.number s.state.holding q)) c.in-Some.is in
    sym (ap (λ (o : Outcome). with_made s o.added) (aar_refused s q c.in-Some.refusal refused))

pub returns-in_default-2-clause-reply : goal.returns-in_default-2-clause-reply
returns-in_default-2-clause-reply c =
    let s = c.args.self.now in
    let q = aar_view c.args.aar.now in
    let late = c.early_refusal.ensures ∙ ap (λ (x : Option Refusal). or_else x (late_refusal s.number s.state.holding q)) c.in_default.is in
    let unbound = sym c.in_ok-facts.ensures.bound ∙ ap is_none c.in_default-2.is in
    let refused = late ∙ late_unbound s.number s.state.holding q unbound in
    sym (ap (λ (o : Outcome). o.reply) (aar_refused s q c.experimental.result (refused ∙ ap Some (sym c.experimental.ensures))))

pub returns-in_default-2-clause-ok : goal.returns-in_default-2-clause-ok
returns-in_default-2-clause-ok c =
    let s = c.args.self.now in
    let q = aar_view c.args.aar.now in
    let late = c.early_refusal.ensures ∙ ap (λ (x : Option Refusal). or_else x (late_refusal s.number s.state.holding q)) c.in_default.is in
    let unbound = sym c.in_ok-facts.ensures.bound ∙ ap is_none c.in_default-2.is in
    let refused = late ∙ late_unbound s.number s.state.holding q unbound in
    sym (ap (λ (o : Outcome). with_made s o.added) (aar_refused s q c.experimental.result (refused ∙ ap Some (sym c.experimental.ensures))))

pub returns-in_default-next_counter-clause-reply : goal.returns-in_default-next_counter-clause-reply
returns-in_default-next_counter-clause-reply c =
    let s = c.args.self.now in
    let q = aar_view c.args.aar.now in
    let late = c.early_refusal.ensures ∙ ap (λ (x : Option Refusal). or_else x (late_refusal s.number s.state.holding q)) c.in_default.is in
    let bound = sym c.in_ok-facts.ensures.bound ∙ ap is_none c.in-Some-2.is in
    let refused = late ∙ late_full s.number s.state.holding q bound (c.next_counter.ensures.full c.in_default-next_counter.is) in
    sym (ap (λ (o : Outcome). o.reply) (aar_refused s q c.base.result (refused ∙ ap Some (sym c.base.ensures))))

pub returns-in_default-next_counter-clause-ok : goal.returns-in_default-next_counter-clause-ok
returns-in_default-next_counter-clause-ok c =
    let s = c.args.self.now in
    let q = aar_view c.args.aar.now in
    let late = c.early_refusal.ensures ∙ ap (λ (x : Option Refusal). or_else x (late_refusal s.number s.state.holding q)) c.in_default.is in
    let bound = sym c.in_ok-facts.ensures.bound ∙ ap is_none c.in-Some-2.is in
    let refused = late ∙ late_full s.number s.state.holding q bound (c.next_counter.ensures.full c.in_default-next_counter.is) in
    sym (ap (λ (o : Outcome). with_made s o.added) (aar_refused s q c.base.result (refused ∙ ap Some (sym c.base.ensures))))

pub returns-clause-reply : goal.returns-clause-reply
returns-clause-reply c =
    let s = c.args.self.now in
    let q = aar_view c.args.aar.now in
    let late = c.early_refusal.ensures ∙ ap (λ (x : Option Refusal). or_else x (late_refusal s.number s.state.holding q)) c.in_default.is in
    let bound = sym c.in_ok-facts.ensures.bound ∙ ap is_none c.in-Some-2.is in
    let granted = late ∙ late_none s.number s.state.holding q bound c.in-Some-next_counter.ensures.open in
    sym (ap (λ (o : Outcome). o.reply) (aar_accepted s q granted))

pub returns-clause-ok : goal.returns-clause-ok
returns-clause-ok c =
    let s = c.args.self.now in
    let q = aar_view c.args.aar.now in
    let late = c.early_refusal.ensures ∙ ap (λ (x : Option Refusal). or_else x (late_refusal s.number s.state.holding q)) c.in_default.is in
    let bound = sym c.in_ok-facts.ensures.bound ∙ ap is_none c.in-Some-2.is in
    let granted = late ∙ late_none s.number s.state.holding q bound c.in-Some-next_counter.ensures.open in
    let facts = subst (λ o. IfSome o (λ made. map fact_of made.0.items ≡ ascending fact_cmp (call_facts s.number (s.state.holding.clock + 1) q))) c.in-Some-2.is c.in_ok-facts.ensures.facts in
    c.in_ok-add_on_call.ensures.ok
    ∙ ap (λ (n : ℕ). with_made s (Some (operation_on_call s.number n q.session (map fact_of c.in-Some-2.facts.items)))) c.in-Some-next_counter.ensures.some
    ∙ ap (λ (fs : List Fact). with_made s (Some (operation_on_call s.number (s.state.holding.clock + 1) q.session fs))) facts
    ∙ sym (ap (λ (o : Outcome). with_made s o.added) (aar_accepted s q granted))

pub add_on_call-requires-clause-formed : goal.add_on_call-requires-clause-formed
add_on_call-requires-clause-formed c =
    let s = c.args.self.now in
    let q = aar_view c.args.aar.now in
    let n = c.in-Some-next_counter.counter in
    let next = c.in-Some-next_counter.ensures.some in
    let made = subst (λ o. IfSome o (λ made. map fact_of made.0.items ≡ ascending fact_cmp (call_facts s.number (s.state.holding.clock + 1) q))) c.in-Some-2.is c.in_ok-facts.ensures.facts in
    let facts = made ∙ ap (λ (m : ℕ). ascending fact_cmp (call_facts s.number m q)) (sym next) in
    (λ i. is_operation (operation_on_call s.number n q.session (facts i)))
    ∙ call_formed n s.number q (stamped n s.number (omega (arith, next)) c.in-Some-next_counter.ensures.within c.note_number.ensures) c.note_aar.ensures
