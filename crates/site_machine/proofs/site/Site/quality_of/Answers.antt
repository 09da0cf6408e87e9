use Rattle.std.proofs.Common.{ap, sym, ◌∙◌}
use Rattle.pcrf_model.specs.Holdings.{facts_on}
use Rattle.pcrf_model.specs.Sessions.{gx}
use Rattle.pcrf_model.specs.Tables.{Tables}
use Rattle.site_machine.specs.Replies.{quality_shown}
use Rattle.site_machine.specs.Sites.{SiteValue}
use Rattle.site_machine.proofs.Replies.{quality_is}
use Rattle.site_machine.proofs.site.Site.quality_of.Goals as goal

pub returns-in-Some : goal.returns-in-Some
returns-in-Some c =
    let s = gx c.args.session.now in
    c.quality_by.ensures
    ∙ ap (λ (t : Tables). quality_shown t c.in-Some.known.now) c.tables.ensures
    ∙ ap (quality_shown c.self.inside.held.tables) c.in-Some.ensures
    ∙ ap (λ (x : SiteValue). quality_shown x.tables (facts_on x.state.holding.facts s)) c.self.view_is
    ∙ sym (quality_is c.args.self.now.tables c.args.self.now.state.holding.facts s)

pub returns-in-None : goal.returns-in-None
returns-in-None c =
    let s = gx c.args.session.now in
    ap (quality_shown c.self.inside.held.tables) c.in-None.ensures
    ∙ ap (λ (x : SiteValue). quality_shown x.tables (facts_on x.state.holding.facts s)) c.self.view_is
    ∙ sym (quality_is c.args.self.now.tables c.args.self.now.state.holding.facts s)
