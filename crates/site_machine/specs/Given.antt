-- What a request of either interface says of its session, as values of the session's fields.
use Rattle.std.specs.Prelude.{ℕ, List, ◌∷◌, ◌++◌, Option, option_map, option_to_list}
use Rattle.std.specs.declared.net.ipv4_addr.Ipv4Addr.{Ipv4Addr}
use Rattle.pcrf_values.specs.Prefixes.{Ipv6Prefix}
use Rattle.pcrf_values.specs.Values.{Subscriber}
use Rattle.lattice_core.specs.declared.fact.SessionValue.{SessionValue}
use Rattle.lattice_core.specs.declared.fact.SessionValue.TheVariants.{Address, Apn, Subscribers, Host, Realm, Last, Prefix}

-- the address, access point, subscribers and, last, the prefix, as far as they are given; host, realm and type
abbrev pub values_given : {L : Type 0} → Option Ipv4Addr → Option Ipv6Prefix → Option (List ℕ) → Option (List Subscriber) → List ℕ → List ℕ → L → List (SessionValue L)
values_given address prefix apn subscribers host realm last =
    option_to_list (option_map Address address)
    ++ option_to_list (option_map Apn apn)
    ++ option_to_list (option_map Subscribers subscribers)
    ++ (Host host ∷ Realm realm ∷ Last last ∷ option_to_list (option_map Prefix prefix))
