use Rattle.std.proofs.Common.{◌≡◌, ◌++◌, is_none, ap, sym, ◌∙◌, subst}
use Rattle.pcrf_model.specs.Bindings.{bind}
use Rattle.pcrf_model.specs.Sessions.{af}
use Rattle.pcrf_model.specs.Holdings.{under}
use Rattle.pcrf_model.specs.Views.{view}
use Rattle.indexed_state.specs.Asking.{with_record}
use Rattle.indexed_state.proofs.Records.{record_decides}
use Rattle.site_machine.specs.Sites.{SiteValue}
use Rattle.site_machine.proofs.CallLaws.{asks_with, none_copied}
use Rattle.site_machine.proofs.site.Site.binds_to_none.Goals as goal

pub returns : goal.returns
returns c = λ facts is.
    let s = c.args.self.now in
    let a = c.args.session.now in
    let all = s.state.holding.facts ++ under (af a) facts in
    let asking = c.args.known.now in
    let decides = record_decides s.state.holding asking all a (asks_with s.state.holding.facts a facts asking is) in
    let bound = subst (λ (x : SiteValue). bind (view (with_record x.state.holding (af a) asking).facts) (af a) ≡ bind (view all) (af a)) (sym c.self.view_is) decides in
    none_copied c.bind_by.result c.is_none.result c.is_none.ensures ∙ ap is_none (c.bind_by.ensures a ∙ bound)
