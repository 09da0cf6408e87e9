use Rattle.std.proofs.Common.{rules, ◌≡◌, ◌≢◌, List, ℕ, None, subst}
use Rattle.std.specs.Prelude.{codes}
use Rattle.site_status.specs.Pages.{AsksForNone, AsksForNoName, AsksForNoPart, path_of_target}
use Rattle.site_status.proofs.Asked.{no_page}
use Rattle.site_status.proofs.pages.page_of.Goals as goal

pub returns-clause-none : goal.returns-clause-none
returns-clause-none c = λ none. (
    let path = c.path_of-path.result.now in
    let health : path ≢ codes "/healthz" = search rules in
    let metrics : path ≢ codes "/metrics" = search rules in
    let parts : AsksForNoPart path = c.part_of_overview.ensures.none c.in_default.is in
    let names : AsksForNoName path = c.named_page.ensures.none none in
    subst AsksForNone c.path_of-path.ensures (no_page path health metrics parts names))
