-- Under which network a session is listed by its IPv6 prefix.
use Rattle.std.specs.Prelude.{ℕ, Bool, true, not, nat_le, if◌then◌else◌, ◌≡◌, ◌⊎◌}
use Rattle.std.proofs.Common.{replicate}
use Rattle.pcrf_values.specs.Prefixes.{Ipv6Prefix, address_octets, covers, first_bits}
use Rattle.bind_index.specs.declared.networks.TheConstants as limit

-- how many bits of a prefix say its network: an interface's identifier takes the others (RFC 4291, 2.5.1)
abbrev pub network_bits : ℕ
network_bits = limit.NETWORK_BITS

-- the prefix has fewer, so it may cover prefixes of several networks
abbrev pub spans_networks : Ipv6Prefix → Bool
spans_networks p = not (nat_le network_bits p.0)

-- the prefix that covers all
abbrev pub all_networks : Ipv6Prefix
all_networks = (0, replicate address_octets 0)

-- the network of a prefix: its first 64 bits, and that of all where it has fewer
abbrev pub network_of : Ipv6Prefix → Ipv6Prefix
network_of p = if spans_networks p then all_networks else (network_bits, first_bits network_bits p.1)

-- where one prefix covers another, it spans networks, or both are of one network
abbrev pub CoversInItsNetwork : Type 0
CoversInItsNetwork = (p q : Ipv6Prefix) → covers p q ≡ true → (network_of p ≡ all_networks) ⊎ (network_of p ≡ network_of q)
