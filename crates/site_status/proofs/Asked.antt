-- A path that asks for none of the pages, one by one, asks for no page.
use Rattle.std.proofs.Common.{◌≡◌, ◌≢◌, List, ℕ}
use Rattle.std.specs.Prelude.{codes}
use Rattle.site_status.specs.Pages.{AsksForNone, AsksForNoName, AsksForNoPart}
use Rattle.site_status.specs.declared.pages.Page.TheVariants.{Health, Metrics, Overview, Style, Script, History, Session, Subscriber, Address, Gateway}

pub no_page : (path : List ℕ) → path ≢ codes "/healthz" → path ≢ codes "/metrics" → AsksForNoPart path → AsksForNoName path → AsksForNone path
no_page path health metrics parts names Health = health
no_page path health metrics parts names Metrics = metrics
no_page path health metrics parts names Overview = parts.overview
no_page path health metrics parts names Style = parts.style
no_page path health metrics parts names Script = parts.script
no_page path health metrics parts names History = parts.history
no_page path health metrics parts names (Session name) = names.session name.now
no_page path health metrics parts names (Subscriber name) = names.subscriber name.now
no_page path health metrics parts names (Address name) = names.address name.now
no_page path health metrics parts names (Gateway name) = names.gateway name.now
