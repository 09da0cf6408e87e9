-- PCC rules and differences as plain values (TS 29.212, 5.3.2 to 5.3.5: Charging-Rule-Install, -Remove, -Definition).
use Rattle.std.specs.Prelude.{ℕ, List}
use Rattle.std.proofs.Common.{Ordering}
use Rattle.std.specs.Ordering.{ordering_then, nat_cmp}
use Rattle.std.specs.Cmp.Lexicographic.{slice_cmp}
use Rattle.pcrf_values.specs.Orders.{text_cmp}

-- A rule: its name, Flow-Status (TS 29.214), filters, QCI, priority level, pre-emption capability and vulnerability
-- as AVP values, maximum bit rates up and down in bit/s, and precedence.
pub record RuleValue : Type 0 where
  pub name : List ℕ
  pub status : ℕ
  pub filters : List (List ℕ)
  pub qci : ℕ
  pub priority : ℕ
  pub capability : ℕ
  pub vulnerability : ℕ
  pub max_ul : ℕ
  pub max_dl : ℕ
  pub precedence : ℕ

-- what is to be removed, by name, and what is to be installed
pub record DeltaValue : Type 0 where
  pub removed : List (List ℕ)
  pub installed : List RuleValue

-- field by field, in the order in which they stand
abbrev pub rule_cmp : RuleValue → RuleValue → Ordering
rule_cmp x y =
    ordering_then (text_cmp x.name y.name)
    (ordering_then (nat_cmp x.status y.status)
    (ordering_then (slice_cmp text_cmp x.filters y.filters)
    (ordering_then (nat_cmp x.qci y.qci)
    (ordering_then (nat_cmp x.priority y.priority)
    (ordering_then (nat_cmp x.capability y.capability)
    (ordering_then (nat_cmp x.vulnerability y.vulnerability)
    (ordering_then (nat_cmp x.max_ul y.max_ul)
    (ordering_then (nat_cmp x.max_dl y.max_dl)
    (nat_cmp x.precedence y.precedence)))))))))

-- what is removed, and then what is installed
abbrev pub delta_cmp : DeltaValue → DeltaValue → Ordering
delta_cmp x y = ordering_then (slice_cmp text_cmp x.removed y.removed) (slice_cmp rule_cmp x.installed y.installed)
