use Rattle.std.proofs.Common.{◌≡◌}
use Rattle.peer_lines.specs.Notices.{are_new}
use Rattle.peer_lines.proofs.joining.are_new.Given as goal

-- what is left decides
abbrev pub invariant-loop-host : goal.invariant-loop-host
invariant-loop-host l = are_new l.kept.keys l.host-iterator ≡ are_new l.kept.keys l.hosts.keys
