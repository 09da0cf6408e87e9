-- Two addresses that compare as equal are the same address.
use Rattle.std.specs.Prelude.{◌≡◌}
use Rattle.std.specs.Ordering.{nat_cmp}
use Rattle.std.specs.Cmp.Lexicographic.{slice_cmp}
use Rattle.std.specs.Net.Addr.{ipv4_octets}
use Rattle.std.specs.declared.net.ipv4_addr.Ipv4Addr.{Ipv4Addr}
use Rattle.pcrf_values.specs.Exact.{IsExact}
use Rattle.pcrf_values.specs.laws.Exact.{nat_same, list_same}

-- addresses with the same octets are the same
pub address_same : IsExact {K = Ipv4Addr} (λ x y. slice_cmp nat_cmp (ipv4_octets x) (ipv4_octets y))
address_same x y e =
    let octets : ipv4_octets x ≡ ipv4_octets y = list_same nat_same (ipv4_octets x) (ipv4_octets y) e in
    λ i. record { octets = octets i }
