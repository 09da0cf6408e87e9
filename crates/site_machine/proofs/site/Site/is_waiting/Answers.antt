use Rattle.std.proofs.Common.{Some, subst}
use Rattle.site_machine.specs.Sites.{OwesNothing, SiteValue}
use Rattle.site_machine.proofs.Pushes.{nothing_is, nothing_lacks, nothing_out}
use Rattle.site_machine.proofs.site.Site.is_waiting.Goals as goal

pub returns-clause-push : goal.returns-clause-push
returns-clause-push c = λ e. (
    let s : SiteValue = c.args.self.now in
    let none : OwesNothing s c.args.host.now = subst (λ (v : SiteValue). OwesNothing v c.args.host.now) c.self.view_is (c.is_waiting.ensures e) in
    nothing_is s (Some c.args.host.now) (nothing_out s (Some c.args.host.now) none))

pub returns-clause-room : goal.returns-clause-room
returns-clause-room c = λ e. (
    let s : SiteValue = c.args.self.now in
    let none : OwesNothing s c.args.host.now = subst (λ (v : SiteValue). OwesNothing v c.args.host.now) c.self.view_is (c.is_waiting.ensures e) in
    nothing_lacks s (Some c.args.host.now) (nothing_out s (Some c.args.host.now) none))
