-- The operator tables, the requests and the rules of the worked examples.
use Rattle.std.specs.Prelude.{ℕ, zero, suc, List, [], ◌∷◌, Option, Some, None, codes}
use Rattle.pcrf_values.specs.RuleValues.{RuleValue, DeltaValue}
use Rattle.pcrf_values.specs.declared.default_quality.DefaultQuality.{DefaultQuality}
use Rattle.pcrf_values.specs.declared.rule.Preemption.TheVariants.{Enabled, Disabled}
use Rattle.pcrf_values.specs.declared.numbers.RequestKind.{RequestKind}
use Rattle.pcrf_values.specs.declared.numbers.RequestKind.TheVariants.{Initial, Update, Termination}
use Rattle.pcrf_model.specs.Sessions.{Session, gx, af}
use Rattle.pcrf_values.specs.Values.{Subscriber}
use Rattle.pcrf_model.specs.Tables.{Class, Tables}
use Rattle.pcrf_model.specs.Requests.{UserValue, FlowValue, ComponentValue, CapabilitiesExchange, RequestValue, Ccr, Aar, Str, Base}

-- ---- an operator with telephony

-- the class of signalling
abbrev pub signalling_class : Class
signalling_class = record { qci = 5; priority = 9; capability = 1; vulnerability = 0; max_ul = 32000; max_dl = 32000; precedence = 50 }

-- the class of audio
abbrev pub audio_class : Class
audio_class = record { qci = 1; priority = 2; capability = 0; vulnerability = 1; max_ul = 64000; max_dl = 64000; precedence = 100 }

-- the class of the operator's own rule
abbrev pub sip_class : Class
sip_class = record { qci = 5; priority = 9; capability = 1; vulnerability = 0; max_ul = 32000; max_dl = 32000; precedence = 40 }

-- the default quality of service of the telephony access point
abbrev pub ims_quality : DefaultQuality
ims_quality = record {
  class = 5;
  priority = record { level = 9; capability = Disabled; vulnerability = Enabled };
  aggregate_uplink = 1000000;
  aggregate_downlink = 2000000;
}

-- a filter downlink
abbrev pub any_to_any : List ℕ
any_to_any = codes "permit out ip from any to any"

-- two access points, one with a rule and a default, one with a name alone
abbrev pub operator : Tables
operator = record {
  edition = 7;
  rtcp_bps = 5000;
  signalling = signalling_class;
  media = (0, audio_class) ∷ [];
  apns =
      (codes "ims", record { default = Some ims_quality; rules = record { name = codes "sip"; class = sip_class; status = 2; filters = any_to_any ∷ [] } ∷ [] })
      ∷ (codes "net", record { default = None; rules = [] }) ∷ [];
}

-- ---- subscribers, addresses and sessions

-- a subscriber by IMSI
abbrev pub imsi : Subscriber
imsi = (1, codes "001010000000001")

-- the same subscriber by telephone number
abbrev pub e164 : Subscriber
e164 = (0, codes "15550001")

-- the same number, said to be of another type
abbrev pub number_as_imsi : Subscriber
number_as_imsi = (1, codes "15550001")

-- 10.0.0.n
abbrev pub host_address : ℕ → List ℕ
host_address n = 10 ∷ 0 ∷ 0 ∷ n ∷ []

-- 10.9.9.9, which no session has
abbrev pub nobodys_address : List ℕ
nobodys_address = 10 ∷ 9 ∷ 9 ∷ 9 ∷ []

-- a session of the gateway
abbrev pub first_session : Session
first_session = gx (codes "gw;1;1")

-- another, with a greater Session-Id
abbrev pub second_session : Session
second_session = gx (codes "gw;1;2")

-- a session of the application function
abbrev pub call_session : Session
call_session = af (codes "af;1")

-- ---- what requests say of users

-- an address, an access point and subscribers, each if it is given, and no prefix
abbrev pub user_with : Option (List ℕ) → Option (List ℕ) → Option (List Subscriber) → UserValue
user_with a n ids = record { address = a; prefix = None; apn = n; subscribers = ids }

-- ---- requests of the gateway

-- a request on a session, by its type and number, and what it says of the user
abbrev pub request : Session → RequestKind → ℕ → UserValue → RequestValue
request s k n u = Ccr (record {
  session = s.id;
  host = codes "gw";
  realm = codes "r";
  kind = k;
  number = n;
  user = u;
})

-- an initial request with all that it needs, under number 0
abbrev pub initial : Session → List ℕ → RequestValue
initial s a =
    request s Initial 0 (user_with (Some a) (Some (codes "ims")) (Some (e164 ∷ imsi ∷ [])))

-- an initial request by its address, access point and subscribers, each if it gives them
abbrev pub initial_with : Option (List ℕ) → Option (List ℕ) → Option (List Subscriber) → RequestValue
initial_with a n ids = request first_session Initial 0 (user_with a n ids)

-- an initial request of one subscriber for that access point
abbrev pub initial_to : List ℕ → RequestValue
initial_to n = initial_with (Some (host_address 1)) (Some n) (Some (imsi ∷ []))

-- one without an access point, without an address, and without a subscriber
abbrev pub without_access_point : RequestValue
without_access_point = initial_with (Some (host_address 1)) None (Some (e164 ∷ imsi ∷ []))

abbrev pub without_address : RequestValue
without_address = initial_with None (Some (codes "none")) (Some (e164 ∷ imsi ∷ []))

abbrev pub without_subscriber : RequestValue
without_subscriber = initial_with (Some (host_address 1)) (Some (codes "ims")) None

-- an update of the first session, with an address or without
abbrev pub update : ℕ → Option (List ℕ) → RequestValue
update n a = request first_session Update n (user_with a None None)

-- the end of a session
abbrev pub termination : Session → ℕ → RequestValue
termination s n = request s Termination n (user_with None None None)

-- ---- requests of the application function

-- an AA request, by what it says of the user, with components
abbrev pub call_of : UserValue → List ComponentValue → RequestValue
call_of u cs = Aar (record {
  session = call_session.id;
  host = codes "af";
  realm = codes "r";
  user = u;
  components = cs;
})

-- with an address or without
abbrev pub call : Option (List ℕ) → List ComponentValue → RequestValue
call a cs = call_of (user_with a None None) cs

-- a component of another media type, with that Flow-Status
abbrev pub other_media : ℕ → ComponentValue
other_media s = record { number = 1; media = Some 9; status = Some s; rate_up = None; rate_down = None; flows = [] }

-- a capabilities exchange of these applications
abbrev pub capabilities : List ℕ → RequestValue
capabilities applications = Base (record { kind = CapabilitiesExchange applications; host = codes "gw"; realm = codes "r" })

-- a call from 10.0.0.1 that asks for an access point and subscribers
abbrev pub call_asking : Option (List ℕ) → Option (List Subscriber) → RequestValue
call_asking n ids = call_of (user_with (Some (host_address 1)) n ids) []

-- the end of the call
abbrev pub hang_up : RequestValue
hang_up = Str (record { session = call_session.id; host = codes "af"; realm = codes "r" })

-- a filter uplink
abbrev pub uplink : List ℕ
uplink = codes "permit in ip from any to any"

-- an audio component: a flow both ways, and its RTCP flow with a status of its own
abbrev pub audio : ComponentValue
audio = record {
  number = 1;
  media = Some 0;
  status = None;
  rate_up = Some 41000;
  rate_down = Some 80000;
  flows =
      record { number = 1; filters = Some (uplink ∷ any_to_any ∷ []); usage = None; status = None; rate_up = None; rate_down = None }
      ∷ record { number = 2; filters = Some (uplink ∷ []); usage = Some 1; status = Some 2; rate_up = None; rate_down = None } ∷ [];
}

-- a component without a Media-Type: a flow of no class, and a signalling flow with a rate of its own
abbrev pub no_media : ComponentValue
no_media = record {
  number = 3;
  media = None;
  status = Some 1;
  rate_up = None;
  rate_down = Some 90000;
  flows =
      record { number = 1; filters = Some (uplink ∷ []); usage = None; status = None; rate_up = None; rate_down = None }
      ∷ record { number = 2; filters = Some (uplink ∷ []); usage = Some 2; status = None; rate_up = Some 1000; rate_down = None } ∷ [];
}

-- the component again, with its Flow-Status and nothing else
abbrev pub status_only : ℕ → ComponentValue
status_only s = record { number = 1; media = None; status = Some s; rate_up = None; rate_down = None; flows = [] }

-- flows 1 to n, each with one filter, the last first
abbrev pub numbered_flows : ℕ → List FlowValue
numbered_flows zero = []
numbered_flows (suc n) = record { number = suc n; filters = Some (uplink ∷ []); usage = None; status = None; rate_up = None; rate_down = None } ∷ numbered_flows n

-- an audio component of n flows
abbrev pub many_flows : ℕ → ComponentValue
many_flows n = record { number = 2; media = Some 0; status = None; rate_up = None; rate_down = None; flows = numbered_flows n }

-- ---- the rules that come of them

-- the operator's rule
abbrev pub sip_rule : RuleValue
sip_rule = record { name = codes "op/sip"; status = 2; filters = any_to_any ∷ []; qci = 5; priority = 9; capability = 1; vulnerability = 0; max_ul = 32000; max_dl = 32000; precedence = 40 }

-- the rule of that signalling flow
abbrev pub signalling_rule : RuleValue
signalling_rule = record { name = codes "af/af;1/3/2"; status = 1; filters = uplink ∷ []; qci = 5; priority = 9; capability = 1; vulnerability = 0; max_ul = 1000; max_dl = 32000; precedence = 50 }

-- the rule of the audio flow, under that status
abbrev pub audio_rule : ℕ → RuleValue
audio_rule s = record { name = codes "af/af;1/1/1"; status = s; filters = uplink ∷ any_to_any ∷ []; qci = 1; priority = 2; capability = 0; vulnerability = 1; max_ul = 41000; max_dl = 64000; precedence = 100 }

-- the rule of its RTCP flow
abbrev pub rtcp_rule : RuleValue
rtcp_rule = record { name = codes "af/af;1/1/2"; status = 2; filters = uplink ∷ []; qci = 1; priority = 2; capability = 0; vulnerability = 1; max_ul = 5000; max_dl = 5000; precedence = 100 }

-- these names removed, these rules installed
abbrev pub delta : List (List ℕ) → List RuleValue → DeltaValue
delta names rs = record { removed = names; installed = rs }
