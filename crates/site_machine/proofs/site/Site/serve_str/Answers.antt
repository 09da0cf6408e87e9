use Rattle.std.proofs.Common.{ℕ, ◌+◌, List, Some, map, ap, sym, ◌∙◌}
use Rattle.pcrf_values.specs.Facts.{Fact}
use Rattle.pcrf_values.specs.Held.{kept_list, join_of}
use Rattle.pcrf_values.specs.Live.{af_is_live}
use Rattle.pcrf_model.specs.Sessions.{af}
use Rattle.pcrf_model.specs.Holdings.{facts_on}
use Rattle.pcrf_model.specs.Replies.{Refused, Outcome}
use Rattle.af_records.specs.RecordFacts.{fact_of}
use Rattle.rx_profile.specs.Terminations.{str_view}
use Rattle.site_machine.specs.Facts.{operation_on_call}
use Rattle.site_machine.specs.Sites.{SiteValue, with_made}
use Rattle.site_machine.proofs.CallLaws.{str_unknown, str_full, str_accepted}
use Rattle.site_machine.proofs.Telling.{end_joins}
use Rattle.site_machine.proofs.site.Site.serve_str.Goals as goal

pub returns-then-not-is_live-clause-reply : goal.returns-then-not-is_live-clause-reply
returns-then-not-is_live-clause-reply c =
    let s = c.args.self.now in
    let q = str_view c.args.call.now in
    let unknown = sym (c.is_live.ensures ∙ ap af_is_live (c.af.ensures ∙ ap (λ (x : SiteValue). facts_on x.state.holding.facts (af q.session)) c.self.view_is)) ∙ c.if-not-is_live.true in
    ap Refused c.base.ensures ∙ sym (ap (λ (o : Outcome). o.reply) (str_unknown s q unknown))

pub returns-then-not-is_live-clause-ok : goal.returns-then-not-is_live-clause-ok
returns-then-not-is_live-clause-ok c =
    let s = c.args.self.now in
    let q = str_view c.args.call.now in
    let unknown = sym (c.is_live.ensures ∙ ap af_is_live (c.af.ensures ∙ ap (λ (x : SiteValue). facts_on x.state.holding.facts (af q.session)) c.self.view_is)) ∙ c.if-not-is_live.true in
    sym (ap (λ (o : Outcome). with_made s o.added) (str_unknown s q unknown))

pub returns-in_default-clause-reply : goal.returns-in_default-clause-reply
returns-in_default-clause-reply c =
    let s = c.args.self.now in
    let q = str_view c.args.call.now in
    let known = sym (c.is_live.ensures ∙ ap af_is_live (c.af.ensures ∙ ap (λ (x : SiteValue). facts_on x.state.holding.facts (af q.session)) c.self.view_is)) ∙ c.if-not-is_live.false in
    ap Refused c.base-in_default.ensures ∙ sym (ap (λ (o : Outcome). o.reply) (str_full s q known (c.next_counter.ensures.full c.in_default.is)))

pub returns-in_default-clause-ok : goal.returns-in_default-clause-ok
returns-in_default-clause-ok c =
    let s = c.args.self.now in
    let q = str_view c.args.call.now in
    let known = sym (c.is_live.ensures ∙ ap af_is_live (c.af.ensures ∙ ap (λ (x : SiteValue). facts_on x.state.holding.facts (af q.session)) c.self.view_is)) ∙ c.if-not-is_live.false in
    sym (ap (λ (o : Outcome). with_made s o.added) (str_full s q known (c.next_counter.ensures.full c.in_default.is)))

pub returns-clause-reply : goal.returns-clause-reply
returns-clause-reply c =
    let s = c.args.self.now in
    let q = str_view c.args.call.now in
    let known = sym (c.is_live.ensures ∙ ap af_is_live (c.af.ensures ∙ ap (λ (x : SiteValue). facts_on x.state.holding.facts (af q.session)) c.self.view_is)) ∙ c.if-not-is_live.false in
    sym (ap (λ (o : Outcome). o.reply) (str_accepted s q known c.in-Some.ensures.open))

pub returns-clause-ok : goal.returns-clause-ok
returns-clause-ok c =
    let s = c.args.self.now in
    let q = str_view c.args.call.now in
    let known = sym (c.is_live.ensures ∙ ap af_is_live (c.af.ensures ∙ ap (λ (x : SiteValue). facts_on x.state.holding.facts (af q.session)) c.self.view_is)) ∙ c.if-not-is_live.false in
    c.in_ok-add_on_call.ensures.ok
    ∙ ap (λ (n : ℕ). with_made s (Some (operation_on_call s.number n q.session (map fact_of c.in_ok-facts.facts.items)))) c.in-Some.ensures.some
    ∙ ap (λ (fs : List Fact). with_made s (Some (operation_on_call s.number (s.state.holding.clock + 1) q.session fs))) c.in_ok-facts.ensures
    ∙ sym (ap (λ (o : Outcome). with_made s o.added) (str_accepted s q known c.in-Some.ensures.open))

pub add_on_call-requires-clause-joins : goal.add_on_call-requires-clause-joins
add_on_call-requires-clause-joins c =
    let own = facts_on c.args.self.now.state.holding.facts (af c.args.call.now.session) in
    c.in_ok-ended.ensures ∙ end_joins own ∙ ap (λ (fs : List Fact). join_of own (kept_list fs)) (sym c.in_ok-facts.ensures)
