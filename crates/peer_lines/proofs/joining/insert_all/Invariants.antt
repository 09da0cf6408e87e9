use Rattle.std.proofs.Common.{◌≡◌}
use Rattle.peer_lines.specs.Notices.{with_all_of}
use Rattle.peer_lines.proofs.joining.insert_all.Given as goal

-- those that are left are still to be added
abbrev pub invariant-loop-host : goal.invariant-loop-host
invariant-loop-host l = with_all_of l.kept.keys l.host-iterator ≡ with_all_of l.fn.kept.keys l.fn.hosts.keys
