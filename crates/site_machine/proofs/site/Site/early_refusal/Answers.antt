use Rattle.std.proofs.Common.{not, ◌&&◌, List, Some, ap, sym, ◌∙◌}
use Rattle.std.specs.List.{list_any}
use Rattle.pcrf_values.specs.Facts.{Fact}
use Rattle.pcrf_values.specs.Held.{is_ended}
use Rattle.pcrf_values.specs.Live.{af_is_live}
use Rattle.pcrf_model.specs.Sessions.{af}
use Rattle.pcrf_model.specs.Holdings.{facts_on}
use Rattle.pcrf_model.specs.Refusals.{has_no_class}
use Rattle.pcrf_model.specs.Requests.{gives_no_address}
use Rattle.pcrf_model.specs.Tables.{Tables}
use Rattle.rx_profile.specs.Requests.{aar_view}
use Rattle.site_machine.specs.Sites.{SiteValue}
use Rattle.site_machine.proofs.CallLaws.{call_ended, call_unknown, call_unclassed, call_open}
use Rattle.site_machine.proofs.site.Site.early_refusal.Goals as goal

pub returns-then-has_ended : goal.returns-then-has_ended
returns-then-has_ended c =
    let s = c.args.self.now in
    let q = aar_view c.args.aar.now in
    let own = c.af-known.ensures ∙ ap (λ (x : SiteValue). facts_on x.state.holding.facts (af q.session)) c.self.view_is in
    let ended = sym (c.has_ended.ensures ∙ ap is_ended own) ∙ c.if-has_ended.true in
    call_ended s.tables s.number s.state.holding q ended ∙ ap Some (sym c.base.ensures)

pub returns-then-lacks_address : goal.returns-then-lacks_address
returns-then-lacks_address c =
    let s = c.args.self.now in
    let q = aar_view c.args.aar.now in
    let own = c.af-known.ensures ∙ ap (λ (x : SiteValue). facts_on x.state.holding.facts (af q.session)) c.self.view_is in
    let ended = sym (c.has_ended.ensures ∙ ap is_ended own) ∙ c.if-has_ended.false in
    let unknown = sym (c.lacks_address.ensures ∙ ap (λ (fs : List Fact). not (af_is_live fs) && gives_no_address q.user) own) ∙ c.if-lacks_address.true in
    call_unknown s.tables s.number s.state.holding q ended unknown ∙ ap Some (sym c.base-then-lacks_address.ensures)

pub returns-then-lack_class : goal.returns-then-lack_class
returns-then-lack_class c =
    let s = c.args.self.now in
    let q = aar_view c.args.aar.now in
    let own = c.af-known.ensures ∙ ap (λ (x : SiteValue). facts_on x.state.holding.facts (af q.session)) c.self.view_is in
    let ended = sym (c.has_ended.ensures ∙ ap is_ended own) ∙ c.if-has_ended.false in
    let known = sym (c.lacks_address.ensures ∙ ap (λ (fs : List Fact). not (af_is_live fs) && gives_no_address q.user) own) ∙ c.if-lacks_address.false in
    let components = ap (list_any (has_no_class s.tables)) c.as_slice.ensures.components in
    let unclassed = sym (c.lack_class.ensures ∙ ap (λ (t : Tables). list_any (has_no_class t) c.as_slice.result.now) c.tables.ensures ∙ ap (λ (x : SiteValue). list_any (has_no_class x.tables) c.as_slice.result.now) c.self.view_is ∙ components) ∙ c.if-lack_class.true in
    call_unclassed s.tables s.number s.state.holding q ended known unclassed ∙ ap Some (sym c.experimental.ensures)

pub returns : goal.returns
returns c =
    let s = c.args.self.now in
    let q = aar_view c.args.aar.now in
    let own = c.af-known.ensures ∙ ap (λ (x : SiteValue). facts_on x.state.holding.facts (af q.session)) c.self.view_is in
    let ended = sym (c.has_ended.ensures ∙ ap is_ended own) ∙ c.if-has_ended.false in
    let known = sym (c.lacks_address.ensures ∙ ap (λ (fs : List Fact). not (af_is_live fs) && gives_no_address q.user) own) ∙ c.if-lacks_address.false in
    let components = ap (list_any (has_no_class s.tables)) c.as_slice.ensures.components in
    let classed = sym (c.lack_class.ensures ∙ ap (λ (t : Tables). list_any (has_no_class t) c.as_slice.result.now) c.tables.ensures ∙ ap (λ (x : SiteValue). list_any (has_no_class x.tables) c.as_slice.result.now) c.self.view_is ∙ components) ∙ c.if-lack_class.false in
    call_open s.tables s.number s.state.holding q ended known classed
