use Rattle.std.proofs.Common.{◌≡◌, ◌++◌, length, take, drop}
use Rattle.pcrf_values.specs.Prefixes.{address_octets, first_bits}
use Rattle.pcrf_values.proofs.ipv6_prefix.first_octets.Given as goal

-- what is done and what is to be done give the first bits of all
abbrev pub invariant-each : goal.invariant-each
invariant-each l = record {
  count : length l.octets ≡ address_octets;
  cut : take l.place l.octets ++ first_bits l.left (drop l.place l.octets) ≡ first_bits l.fn.bits l.fn.octets;
}
