use Rattle.std.proofs.Common.{◌≡◌, replicate, map}
use Rattle.peer_lines.specs.Said.{NoLink, said_value}
use Rattle.peer_lines.proofs.hosts.ReachedHosts.start.Given as goal

abbrev pub invariant-loop : goal.invariant-loop
invariant-loop l = map said_value l.places.items ≡ replicate l.counter (NoLink l.now)
