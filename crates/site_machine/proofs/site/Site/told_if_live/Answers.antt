use Rattle.std.proofs.Common.{rules, ◌≡◌, Bool, true, false, cond, List, [], IfOk, ap, sym, ◌∙◌, subst}
use Rattle.pcrf_values.specs.Live.{gx_is_live}
use Rattle.pcrf_values.specs.ToldWords.{ToldRule}
use Rattle.pcrf_model.specs.Sessions.{gx}
use Rattle.pcrf_model.specs.Holdings.{facts_on}
use Rattle.pcrf_model.specs.Live.{is_live}
use Rattle.pcrf_model.specs.Views.{view}
use Rattle.pcrf_model.specs.Differences.{told_rules_of}
use Rattle.site_machine.specs.Sites.{SiteValue}
use Rattle.site_machine.proofs.Retellings.{live_is}
use Rattle.site_machine.proofs.site.Site.told_if_live.Goals as goal

pub returns-then-is_live : goal.returns-then-is_live
returns-then-is_live c =
    let h = c.args.self.now.state.holding in
    let id = c.args.session.now in
    let lives : is_live (view h.facts) (gx id) ≡ true =
    live_is h id ∙ sym (c.is_live.ensures ∙ ap gx_is_live (c.gx.ensures ∙ ap (λ (x : SiteValue). facts_on x.state.holding.facts (gx id)) c.self.view_is)) ∙ c.if-is_live.true in
    let all : IfOk c.told_rules_of.result (λ told. told ≡ told_rules_of (view h.facts) (gx id)) = search rules in
    subst (λ (b : Bool). IfOk c.told_rules_of.result (λ told. told ≡ cond b (told_rules_of (view h.facts) (gx id)) [])) (sym lives) all

pub returns : goal.returns
returns c =
    let h = c.args.self.now.state.holding in
    let id = c.args.session.now in
    let dead : is_live (view h.facts) (gx id) ≡ false =
    live_is h id ∙ sym (c.is_live.ensures ∙ ap gx_is_live (c.gx.ensures ∙ ap (λ (x : SiteValue). facts_on x.state.holding.facts (gx id)) c.self.view_is)) ∙ c.if-is_live.false in
    c.of.ensures ∙ search rules ∙ ap (λ (b : Bool). cond b (told_rules_of (view h.facts) (gx id)) []) (sym dead)
