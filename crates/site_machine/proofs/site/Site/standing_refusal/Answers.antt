use Rattle.std.proofs.Common.{Option, Some, ap, sym, ◌∙◌}
use Rattle.pcrf_values.specs.declared.refusal.Refusal.{Refusal}
use Rattle.pcrf_model.specs.Sessions.{gx}
use Rattle.pcrf_model.specs.Holdings.{facts_on}
use Rattle.pcrf_model.specs.Tables.{Tables}
use Rattle.pcrf_values.specs.FlowWords.{or_else}
use Rattle.site_machine.specs.Sites.{SiteValue}
use Rattle.pcrf_values.specs.Held.{is_ended}
use Rattle.pcrf_values.specs.Live.{gx_is_live}
use Rattle.gx_profile.specs.Requests.{ccr_view}
use Rattle.site_machine.proofs.Replies.{by_clock, by_row, initial_ended, initial_lacking, initial_whole, update_unknown, update_known, termination_unknown, termination_known}
use Rattle.site_machine.proofs.site.Site.standing_refusal.Goals as goal

pub returns-in-Initial : goal.returns-in-Initial
returns-in-Initial c =
    let ended = sym (c.has_ended.ensures ∙ ap is_ended (c.gx-known.ensures ∙ ap (λ (s : SiteValue). facts_on s.state.holding.facts (gx c.args.ccr.now.session)) c.self.view_is)) ∙ c.if-has_ended.true in
    initial_ended c.args.self.now.tables c.args.self.now.state.holding (ccr_view c.args.ccr.now) c.in-Initial.is ended ∙ ap Some (sym c.base.ensures)

pub returns-in-Initial-2 : goal.returns-in-Initial-2
returns-in-Initial-2 c =
    let ended = sym (c.has_ended.ensures ∙ ap is_ended (c.gx-known.ensures ∙ ap (λ (s : SiteValue). facts_on s.state.holding.facts (gx c.args.ccr.now.session)) c.self.view_is)) ∙ c.if-has_ended.false in
    initial_lacking c.args.self.now.tables c.args.self.now.state.holding (ccr_view c.args.ccr.now) c.in-Initial-2.is ended (sym c.lacks.ensures ∙ c.if-lacks.true) ∙ ap Some (sym c.experimental.ensures)

pub returns-in-Initial-3 : goal.returns-in-Initial-3
returns-in-Initial-3 c =
    let h = c.args.self.now.state.holding in
    let ended = sym (c.has_ended.ensures ∙ ap is_ended (c.gx-known.ensures ∙ ap (λ (s : SiteValue). facts_on s.state.holding.facts (gx c.args.ccr.now.session)) c.self.view_is)) ∙ c.if-has_ended.false in
    initial_whole c.args.self.now.tables h (ccr_view c.args.ccr.now) c.in-Initial-3.is ended (sym c.lacks.ensures ∙ c.if-lacks.false)
    ∙ ap (λ (x : SiteValue). or_else (by_row x.tables c.args.ccr.now.apn) (by_clock h)) (sym c.self.view_is)
    ∙ ap (λ (t : Tables). or_else (by_row t c.args.ccr.now.apn) (by_clock h)) (sym c.tables.ensures)
    ∙ ap (λ (x : Option Refusal). or_else x (by_clock h)) (sym c.row_refusal.ensures)

pub returns-in-Update : goal.returns-in-Update
returns-in-Update c =
    let unknown = sym (c.is_live.ensures ∙ ap gx_is_live (c.gx-known.ensures ∙ ap (λ (s : SiteValue). facts_on s.state.holding.facts (gx c.args.ccr.now.session)) c.self.view_is)) ∙ c.if-not-is_live.true in
    update_unknown c.args.self.now.tables c.args.self.now.state.holding (ccr_view c.args.ccr.now) c.in-Update.is unknown ∙ ap Some (sym c.base-in-Update.ensures)

pub returns-in-Update-2 : goal.returns-in-Update-2
returns-in-Update-2 c =
    let h = c.args.self.now.state.holding in
    let known = sym (c.is_live.ensures ∙ ap gx_is_live (c.gx-known.ensures ∙ ap (λ (s : SiteValue). facts_on s.state.holding.facts (gx c.args.ccr.now.session)) c.self.view_is)) ∙ c.if-not-is_live.false in
    update_known c.args.self.now.tables h (ccr_view c.args.ccr.now) c.in-Update-2.is known
    ∙ ap (λ (x : SiteValue). or_else (by_row x.tables c.args.ccr.now.apn) (by_clock h)) (sym c.self.view_is)
    ∙ ap (λ (t : Tables). or_else (by_row t c.args.ccr.now.apn) (by_clock h)) (sym c.tables-in-Update-2.ensures)
    ∙ ap (λ (x : Option Refusal). or_else x (by_clock h)) (sym c.row_refusal-in-Update-2.ensures)

pub returns-in-Termination : goal.returns-in-Termination
returns-in-Termination c =
    let unknown = sym (c.is_live-in-Termination-1.ensures ∙ ap gx_is_live (c.gx-known.ensures ∙ ap (λ (s : SiteValue). facts_on s.state.holding.facts (gx c.args.ccr.now.session)) c.self.view_is)) ∙ c.if-not-is_live-2.true in
    termination_unknown c.args.self.now.tables c.args.self.now.state.holding (ccr_view c.args.ccr.now) c.in-Termination.is unknown ∙ ap Some (sym c.base-in-Termination.ensures)

pub returns-in-Termination-2 : goal.returns-in-Termination-2
returns-in-Termination-2 c =
    let known = sym (c.is_live-in-Termination-1.ensures ∙ ap gx_is_live (c.gx-known.ensures ∙ ap (λ (s : SiteValue). facts_on s.state.holding.facts (gx c.args.ccr.now.session)) c.self.view_is)) ∙ c.if-not-is_live-2.false in
    termination_known c.args.self.now.tables c.args.self.now.state.holding (ccr_view c.args.ccr.now) c.in-Termination-2.is known
