use Rattle.std.proofs.Common.{◌≡◌, ◌*◌, ◌≤◌, ◌++◌, [], length}
use Rattle.peer_lines.specs.Notices.{most_host_bytes}
use Rattle.peer_lines.proofs.Notices.{written_from}
use Rattle.peer_lines.proofs.notice.put_all.Given as goal

-- what is written, and what is to be written of those that are left
abbrev pub invariant-loop-host : goal.invariant-loop-host
invariant-loop-host l = record {
  written : l.bytes.items ++ written_from l.told.count l.told.hosts.items l.host-iterator ≡ l.fn.bytes.items ++ written_from 0 [] l.hosts.keys;
  fits : length l.told.hosts.items ≤ most_host_bytes;
  counted : l.told.count * 2 ≤ length l.told.hosts.items;
}
