use Rattle.std.proofs.Common.{◌≤◌, length, arith}
use Rattle.peer_lines.proofs.Places.{said_shows, unsaid_stays}
use Rattle.peer_lines.proofs.hosts.ReachedHosts.unlink.Goals as goal

pub returns : goal.returns
returns c = said_shows _ _ _ c.self.view_is _ _ _ _ c.in-Some.ensures.value c.forget.ensures

pub returns-in_default : goal.returns-in_default
returns-in_default c =
    let past : length c.self.inside.places.items ≤ c.args.site = grind (arith, c.in_default.ensures.variant, c.self.inside.places.ok) in
    unsaid_stays _ _ _ c.self.view_is _ _ past
