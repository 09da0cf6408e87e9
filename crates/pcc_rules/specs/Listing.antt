-- Rules with their precedence in front, by which they are put in order.
use Rattle.std.specs.Prelude.{◌≡◌, ℕ, map, Some}
use Rattle.std.proofs.Common.{Ordering}
use Rattle.std.specs.Ordering.{nat_cmp}
use Rattle.pcrf_values.specs.Orders.{pair_cmp}
use Rattle.pcrf_values.specs.Sets.{Distinct}
use Rattle.pcrf_values.specs.RuleValues.{RuleValue, rule_cmp}
use Rattle.pcrf_model.specs.Sessions.{Session}
use Rattle.pcrf_model.specs.Views.{View}
use Rattle.pcrf_model.specs.Tables.{OperatorRule, ApnRow, Tables}
use Rattle.pcrf_model.specs.Rules.{apn_of}

-- the precedence in front
abbrev pub keyed : RuleValue → ℕ × RuleValue
keyed r = (r.precedence, r)

-- the rule behind it
abbrev pub unkeyed : ℕ × RuleValue → RuleValue
unkeyed p = p.1

-- by what stands in front, and then by the rule
abbrev pub keyed_cmp : ℕ × RuleValue → ℕ × RuleValue → Ordering
keyed_cmp = pair_cmp nat_cmp rule_cmp

-- the rules of the access point of the session have different names
abbrev pub RowNamesApart : Tables → View → Session → Type 0
RowNamesApart t v s = (row : ApnRow) → apn_of t v s ≡ Some row → Distinct (map (λ (r : OperatorRule). r.name) row.rules)
