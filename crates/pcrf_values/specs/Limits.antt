-- The limits of this project's profile, as numbers of their own: the law `limits_are_the_profiles` says that the code's are these.
use Rattle.std.specs.Prelude.{ℕ}

-- bytes of a Session-Id (RFC 6733, 8.8)
abbrev pub session_id_limit : ℕ
session_id_limit = 512

-- bytes of an Origin-Host or an Origin-Realm (RFC 6733, 4.3.1: a name of the DNS, RFC 1035, 2.3.4)
abbrev pub identity_limit : ℕ
identity_limit = 255

-- bytes of an access point name (Called-Station-Id, TS 29.212, 5.3; TS 23.003, 9.1)
abbrev pub apn_limit : ℕ
apn_limit = 255

-- bytes of a Subscription-Id-Data (RFC 8506, 8.48)
abbrev pub subscription_data_limit : ℕ
subscription_data_limit = 255

-- how many Subscription-Ids a request may have
abbrev pub subscribers_limit : ℕ
subscribers_limit = 16

-- how many media components an AA request may have
abbrev pub components_limit : ℕ
components_limit = 64

-- how many flows a component of a request may have
abbrev pub flows_limit : ℕ
flows_limit = 64

-- how many filters a flow may have: one for each direction (TS 29.214, 5.3.8)
abbrev pub filters_limit : ℕ
filters_limit = 2

-- bytes of a filter
abbrev pub filter_limit : ℕ
filter_limit = 255

-- bytes of a Charging-Rule-Name
abbrev pub rule_name_limit : ℕ
rule_name_limit = 600

-- bytes of the name that an operator gives a rule
abbrev pub operator_rule_name_limit : ℕ
operator_rule_name_limit = 64

-- how many sites there may be, with the numbers below
abbrev pub site_limit : ℕ
site_limit = 16

-- the last counter of an operation, and the last position in a log: 2 ^ 63 - 1
abbrev pub last_counter : ℕ
last_counter = 9223372036854775807

-- the last epoch of a site
abbrev pub last_epoch : ℕ
last_epoch = 65535

-- how many entries of a difference a message carries
abbrev pub delta_limit : ℕ
delta_limit = 40

-- how many operations are answered at once
abbrev pub range_limit : ℕ
range_limit = 100
