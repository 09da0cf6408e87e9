use Rattle.std.proofs.Common.{◌≡◌, ℕ, ◌<◌, arith}
use Rattle.std.specs.HashMap.{get}
use Rattle.watched_links.specs.Keys.{same_key}
use Rattle.watched_links.proofs.Newest.{put_known}
use Rattle.watched_links.proofs.shelf.Shelf.put.Goals as goal

pub invariant_of-self-2-clause-found : goal.invariant_of-self-2-clause-found
invariant_of-self-2-clause-found c =
    let first = c.args.self.now.first in
    let some : 0 < first = grind (arith, c.if-self-eq0.false) in
    put_known first (get same_key c.args.self.now.newest) c.in_ok-key.key c.args.message c.args.self.now.kept.items c.push_front.new.self.items
    (get same_key c.insert.new.self) some c.in_ok-key.ensures c.args.self.now.found c.in_default.ensures.updates.0 c.in_ok-push_front.ensures.items
