-- The requests that a site serves, as read: plain values without memory.
use Rattle.std.specs.Prelude.{ℕ, Bool, ◌&&◌, is_none, List, Option}
use Rattle.pcrf_values.specs.declared.numbers.RequestKind.{RequestKind}
use Rattle.pcrf_values.specs.Prefixes.{Ipv6Prefix}
use Rattle.pcrf_values.specs.Values.{Subscriber}

-- What a request of either interface says of its user, each as far as it says it: Framed-IP-Address
-- as four octets, Framed-IPv6-Prefix, Called-Station-Id in small letters, and the Subscription-Ids,
-- ascending, without repeats.
pub record UserValue : Type 0 where
  pub address : Option (List ℕ)
  pub prefix : Option Ipv6Prefix
  pub apn : Option (List ℕ)
  pub subscribers : Option (List Subscriber)

-- it says nowhere the user is reached: it gives neither an address nor a prefix
abbrev pub gives_no_address : UserValue → Bool
gives_no_address u = is_none u.address && is_none u.prefix

-- A credit control request (TS 29.212, 5.6.2): Session-Id, Origin-Host, Origin-Realm,
-- CC-Request-Type, CC-Request-Number, and what it says of its user.
pub record CcrValue : Type 0 where
  pub session : List ℕ
  pub host : List ℕ
  pub realm : List ℕ
  pub kind : RequestKind
  pub number : ℕ
  pub user : UserValue

-- A flow (Media-Sub-Component, TS 29.214, 5.3.18): Flow-Number, Flow-Descriptions as bytes (one or two, in the order of the request), Flow-Usage and Flow-Status
-- as AVP values, Max-Requested-Bandwidth-UL and -DL in bit/s.
pub record FlowValue : Type 0 where
  pub number : ℕ
  pub filters : Option (List (List ℕ))
  pub usage : Option ℕ
  pub status : Option ℕ
  pub rate_up : Option ℕ
  pub rate_down : Option ℕ

-- A media component (Media-Component-Description, TS 29.214, 5.3.16): Media-Component-Number, Media-Type and Flow-Status as AVP values,
-- the rates in bit/s, and its flows in the order of the request.
pub record ComponentValue : Type 0 where
  pub number : ℕ
  pub media : Option ℕ
  pub status : Option ℕ
  pub rate_up : Option ℕ
  pub rate_down : Option ℕ
  pub flows : List FlowValue

-- An AA request of Rx (TS 29.214, 5.6.1): as above, with its components in the order of the request.
pub record AarValue : Type 0 where
  pub session : List ℕ
  pub host : List ℕ
  pub realm : List ℕ
  pub user : UserValue
  pub components : List ComponentValue

-- A session termination request of Rx (TS 29.214, 5.6.5).
pub record StrValue : Type 0 where
  pub session : List ℕ
  pub host : List ℕ
  pub realm : List ℕ

-- A request of the base protocol (RFC 6733, 5.3 to 5.5): Origin-Host and Origin-Realm, and of a capabilities exchange the applications
-- that it advertises (Auth-Application-Id, alone and then within Vendor-Specific-Application-Id), each in the order in which they stand.
pub data BaseKind : Type 0 where
  CapabilitiesExchange : List ℕ → BaseKind
  DeviceWatchdog DisconnectPeer : BaseKind

-- a request of the base protocol with its origin
pub record BaseValue : Type 0 where
  pub kind : BaseKind
  pub host : List ℕ
  pub realm : List ℕ

-- any request
pub data RequestValue : Type 0 where
  Ccr : CcrValue → RequestValue
  Aar : AarValue → RequestValue
  Str : StrValue → RequestValue
  Base : BaseValue → RequestValue
