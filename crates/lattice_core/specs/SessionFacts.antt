-- The facts of the fields of a session.
use Rattle.std.specs.Prelude.{ℕ}
use Rattle.std.specs.Net.Addr.{ipv4_octets}
use Rattle.std.specs.declared.net.ipv4_addr.Ipv4Addr.{Ipv4Addr}
use Rattle.pcrf_values.specs.declared.tag.Tag.{Tag}
use Rattle.pcrf_values.specs.Places as places
use Rattle.pcrf_values.specs.Values.{Value, Number, Text}
use Rattle.pcrf_values.specs.Values as values
use Rattle.pcrf_values.specs.Facts.{Fact, Field}
use Rattle.lattice_core.specs.declared.fact.SessionValue.{SessionValue}
use Rattle.lattice_core.specs.declared.fact.SessionValue.TheVariants.{Address, Apn, Subscribers, Host, Realm, Last, Prefix}

-- an address as its octets
abbrev pub address_value : Ipv4Addr → Value
address_value a = values.Address (ipv4_octets a)

-- the fact of a field of the session
abbrev pub session_fact : Tag → SessionValue ℕ → Fact
session_fact t (Address a) = Field places.address t (address_value a)
session_fact t (Apn x) = Field places.apn t (Text x)
session_fact t (Subscribers x) = Field places.subscribers t (values.Subscribers x)
session_fact t (Host x) = Field places.host t (Text x)
session_fact t (Realm x) = Field places.realm t (Text x)
session_fact t (Last x) = Field places.last t (Number x)
session_fact t (Prefix x) = Field places.prefix t (values.Prefix x)
