use Rattle.std.proofs.Common.{◌≡◌, ◌-◌}
use Rattle.peer_lines.specs.Notices.{each_at, many_at}
use Rattle.peer_lines.proofs.Notices.{among}
use Rattle.peer_lines.proofs.notice.each_at.Given as goal

-- what is left, behind the hosts that were read
abbrev pub invariant-loop : goal.invariant-loop
invariant-loop l = among l.hosts.keys (many_at (l.count - l.counter) l.rest) ≡ each_at l.count l.bytes
