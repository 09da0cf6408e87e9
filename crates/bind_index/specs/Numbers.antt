-- Addresses as the numbers that their octets spell.
use Rattle.std.specs.Prelude.{ℕ}
use Rattle.std.specs.Cmp.{IsTotalOrder}
use Rattle.std.specs.Cmp.Lexicographic.{on_texts}
use Rattle.std.specs.Int.{w32, to_be_bytes}
use Rattle.std.specs.Net.Addr.{ipv4_octets}
use Rattle.std.specs.declared.net.ipv4_addr.Ipv4Addr.{Ipv4Addr}
use Rattle.bind_index.specs.Index.{address_cmp}

-- the address that a number spells, the greatest octet first
abbrev pub address_of : ℕ → Ipv4Addr
address_of n = record { octets = to_be_bytes w32 n }

-- addresses are in a total order by their octets
pub address_total : IsTotalOrder address_cmp
address_total = on_texts ipv4_octets
