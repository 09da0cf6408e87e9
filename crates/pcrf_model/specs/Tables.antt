-- The operator tables (this project's profile): which class of service each kind of media has, and what each access point has.
use Rattle.std.specs.Prelude.{ℕ, List, Option, ◌==◌, find}
use Rattle.std.proofs.Common.{option_map}
use Rattle.std.specs.Ordering.{is_eq}
use Rattle.pcrf_values.specs.Orders.{text_cmp}
use Rattle.pcrf_values.specs.declared.default_quality.DefaultQuality.{DefaultQuality}

-- A class of service: QCI and ARP (priority level, pre-emption capability and vulnerability as AVP values; TS 29.212, 5.3.17 and 5.3.45),
-- the caps on bit rates up and down in bit/s, and the precedence of its rules (TS 29.212, 5.3.11).
pub record Class : Type 0 where
  pub qci : ℕ
  pub priority : ℕ
  pub capability : ℕ
  pub vulnerability : ℕ
  pub max_ul : ℕ
  pub max_dl : ℕ
  pub precedence : ℕ

-- A rule that each session of an access point has: its name in the table, class, Flow-Status and filters.
pub record OperatorRule : Type 0 where
  pub name : List ℕ
  pub class : Class
  pub status : ℕ
  pub filters : List (List ℕ)

-- what an access point has: the default quality of service of its sessions (TS 29.212, 5.3.48, 5.3.39 and 5.3.40), and rules
pub record ApnRow : Type 0 where
  pub default : Option DefaultQuality
  pub rules : List OperatorRule

-- the access points, by name in small letters
abbrev pub Apns : Type 0
Apns = List (List ℕ × ApnRow)

-- The rate of an RTCP flow is in bit/s. The classes of Media-Types (TS 29.214, 5.3.19) and the access points stand in key order, each
-- key once; an access point's rules stand as its operator wrote them.
pub record Tables : Type 0 where
  pub edition : ℕ
  pub rtcp_bps : ℕ
  pub signalling : Class
  pub media : List (ℕ × Class)
  pub apns : Apns

-- the class of a Media-Type
abbrev pub media_class : Tables → ℕ → Option Class
media_class t m = option_map (λ (r : ℕ × Class). r.1) (find (λ (r : ℕ × Class). r.0 == m) t.media)

-- the row of that name
abbrev pub row_among : Apns → List ℕ → Option ApnRow
row_among rows name = option_map (λ (r : List ℕ × ApnRow). r.1) (find (λ (r : List ℕ × ApnRow). is_eq (text_cmp r.0 name)) rows)

-- the row of an access point
abbrev pub apn_row : Tables → List ℕ → Option ApnRow
apn_row t = row_among t.apns
