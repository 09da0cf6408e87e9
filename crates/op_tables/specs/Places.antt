-- The keys of the operator tables, place by place, in the order in which they are judged (this project's profile).
use Rattle.std.specs.Prelude.{ℕ}
use Rattle.pcrf_values.specs.Limits.{apn_limit, filters_limit, operator_rule_name_limit}
use Rattle.op_tables.specs.declared.place.TableKey.{TableKey}
use Rattle.op_tables.specs.declared.place.TableKey.TheVariants as key

infixr 5 ◌▸◌
mutual
  -- what stands at a key
  pub data Shape : Type 0 where
    -- a number from the first to the second
    Number : ℕ → ℕ → Shape
    -- a text of 1 to so many bytes, in which capitals are small letters
    Name : ℕ → Shape
    -- a text of 1 to so many bytes, each a visible one
    Word : ℕ → Shape
    -- 1 to so many filters
    Filters : ℕ → Shape
    Table : Keys → Shape
    -- at most so many tables, which differ pairwise in what stands at a key that each has, and have these keys behind it
    Rows : ℕ → TableKey → Shape → Keys → Shape

  -- a key that has to stand, and one that may be absent
  pub data Key : Type 0 where
    required : TableKey → Shape → Key
    optional : TableKey → Shape → Key

  -- keys in the order in which they are judged
  pub data Keys : Type 0 where
    no_more : Keys
    ◌▸◌ : Key → Keys → Keys

-- ---- limits, this project's own, as numbers: the law `limits_are_the_profiles` says that the code's are these

-- how many kinds of media the tables may have
abbrev pub media_limit : ℕ
media_limit = 64

-- how many access points
abbrev pub apns_limit : ℕ
apns_limit = 1000

-- how many rules an access point may have
abbrev pub rules_limit : ℕ
rules_limit = 64

-- ---- places

-- 32 bits without a sign: rates in bit/s, precedences, editions, Media-Types
abbrev pub number_32 : Shape
number_32 = Number 0 4294967295

-- the keys of a class of service, with others behind them
abbrev pub class_then : Keys → Keys
class_then keys =
    required key.Qci (Number 1 9)
    ▸ required key.Priority (Number 1 15)
    ▸ required key.Capability (Number 0 1)
    ▸ required key.Vulnerability (Number 0 1)
    ▸ required key.MaxUl number_32
    ▸ required key.MaxDl number_32
    ▸ required key.Precedence number_32
    ▸ keys

abbrev pub class_keys : Keys
class_keys = class_then no_more

-- the default bearer has no guaranteed bit rate, so its class is one from 5 (TS 23.203, 6.1.7)
abbrev pub quality_keys : Keys
quality_keys =
    required key.Qci (Number 5 9)
    ▸ required key.Priority (Number 1 15)
    ▸ required key.Capability (Number 0 1)
    ▸ required key.Vulnerability (Number 0 1)
    ▸ required key.AmbrUl number_32
    ▸ required key.AmbrDl number_32
    ▸ no_more

-- what stands behind a rule's class
abbrev pub flow_keys : Keys
flow_keys =
    required key.Status (Number 0 3)
    ▸ required key.Filters (Filters filters_limit)
    ▸ no_more

abbrev pub rule_keys : Keys
rule_keys = class_then flow_keys

abbrev pub rule_name_shape : Shape
rule_name_shape = Word operator_rule_name_limit

abbrev pub default_key : Key
default_key = optional key.Default (Table quality_keys)

abbrev pub rules_key : Key
rules_key = optional key.Rule (Rows rules_limit key.Name rule_name_shape rule_keys)

abbrev pub apn_keys : Keys
apn_keys = default_key ▸ rules_key ▸ no_more

abbrev pub apn_name_shape : Shape
apn_name_shape = Name apn_limit

abbrev pub edition_key : Key
edition_key = required key.Edition number_32

abbrev pub rtcp_key : Key
rtcp_key = required key.RtcpBps number_32

abbrev pub signalling_key : Key
signalling_key = required key.Signalling (Table class_keys)

abbrev pub media_key : Key
media_key = optional key.Media (Rows media_limit key.MediaType number_32 class_keys)

abbrev pub apns_key : Key
apns_key = optional key.Apn (Rows apns_limit key.Name apn_name_shape apn_keys)

abbrev pub top_keys : Keys
top_keys = edition_key ▸ rtcp_key ▸ signalling_key ▸ media_key ▸ apns_key ▸ no_more
