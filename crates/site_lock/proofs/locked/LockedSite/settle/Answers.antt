use Rattle.site_book.specs.Settling.{FirstFault, Settles, receipts_below}
use Rattle.std.proofs.Common.{◌≡◌}
use Rattle.site_lock.proofs.BookBack.{on_ok, on_err}
use Rattle.site_lock.proofs.locked.LockedSite.settle.Goals as goal

pub returns-clause-settles : goal.returns-clause-settles
returns-clause-settles g c = on_ok (λ s. s.book) (λ s b. Settles b c.args.seats.items) _ c.settle.result c.settle.ensures.settles c.settle.ensures.book

pub returns-clause-receipts : goal.returns-clause-receipts
returns-clause-receipts g c = on_ok (λ s. s.book) (λ s b. s.receipts ≡ receipts_below b.seats c.args.seats.items) _ c.settle.result c.settle.ensures.receipts c.settle.ensures.book

pub returns-clause-fault : goal.returns-clause-fault
returns-clause-fault g c = on_err (λ u. u.book) (λ u b. FirstFault b c.args.seats.items u.fault) _ c.settle.result c.settle.ensures.fault c.settle.ensures.back
