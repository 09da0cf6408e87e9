use Rattle.std.proofs.Common.{rules, ◌≡◌}
use Rattle.pcrf_model.specs.Holdings.{kept_of}
use Rattle.site_book.specs.Books.{IsHistoryOf}
use Rattle.site_book.proofs.Gains.{holds_all}
use Rattle.site_book.proofs.pages.Pages.seats.Goals as goal

pub returns-clause-holds : goal.returns-clause-holds
returns-clause-holds g c =
    let history : IsHistoryOf c.args.self.now = search rules in
    let kept : kept_of c.args.self.now.opening.holding ≡ c.args.self.now.opening.holding = search rules in
    holds_all c.args.self.now kept history
