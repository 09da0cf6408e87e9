-- What a gateway was told, and how that differs from the rules that hold (TS 29.212, 4.5.2: Charging-Rule-Remove and -Install).
use Rattle.std.specs.Prelude.{◌≡◌, ℕ, ◌+◌, ◌-◌, ◌==◌, Bool, if◌then◌else◌, not, ◌&&◌, List, [], ◌∷◌, ◌++◌, map, take, drop, length, None}
use Rattle.std.proofs.Common.{Ordering}
use Rattle.std.specs.Ordering.{is_eq}
use Rattle.std.specs.List.{list_any, filter, filter_map}
use Rattle.pcrf_values.specs.Orders.{pair_cmp, text_cmp}
use Rattle.pcrf_values.specs.Ascending.{ascending}
use Rattle.pcrf_values.specs.RuleValues.{RuleValue, DeltaValue, rule_cmp}
use Rattle.pcrf_values.specs.Sets.{Distinct}
use Rattle.pcrf_model.specs.Sessions.{Session, session_cmp}
use Rattle.pcrf_values.specs.ToldWords.{ToldRule, told_rule_at}
use Rattle.pcrf_model.specs.Views.{View, Shown}

-- by name, and then by rule
abbrev pub told_cmp : ToldRule → ToldRule → Ordering
told_cmp = pair_cmp text_cmp rule_cmp

-- the names that show a rule, ascending, each with its rule
unfoldable pub told_rules_of : View → Session → List ToldRule
told_rules_of v s = filter_map (λ (x : Shown). if is_eq (session_cmp x.session s) then told_rule_at x.place x.tag x.value else None) v.all

-- the name of a told entry
abbrev pub told_name_of : ToldRule → List ℕ
told_name_of p = p.0

-- the name of a rule (Charging-Rule-Name, TS 29.212, 5.3.6)
abbrev pub rule_name_of : RuleValue → List ℕ
rule_name_of r = r.name

-- in order, and no name twice
pub record IsTold (t : List ToldRule) : Type 0 where
  pub in_order : ascending told_cmp t ≡ t
  pub one_each : Distinct (map told_name_of t)

-- the rule has that name
abbrev pub has_name : List ℕ → RuleValue → Bool
has_name n r = is_eq (text_cmp r.name n)

-- just this rule was told under its name
abbrev pub holds : List ToldRule → RuleValue → Bool
holds t r = list_any (λ (p : ToldRule). is_eq (text_cmp p.0 r.name) && is_eq (rule_cmp p.1 r)) t

-- the names told that the rules lack, ascending, to be removed; the rules that were not told just so, in their order, to be installed
abbrev pub difference : List ToldRule → List RuleValue → DeltaValue
difference t rs = record {
  removed = filter (λ n. not (list_any (has_name n) rs)) (map told_name_of t);
  installed = filter (λ r. not (holds t r)) rs;
}

-- the first n entries, the removed names before the installed rules
abbrev pub first : ℕ → DeltaValue → DeltaValue
first n d = record { removed = take n d.removed; installed = take (n - length d.removed) d.installed }

-- the entries past the first n
abbrev pub rest : ℕ → DeltaValue → DeltaValue
rest n d = record { removed = drop n d.removed; installed = drop (n - length d.removed) d.installed }

-- how many entries there are
abbrev pub entries_of : DeltaValue → ℕ
entries_of d = length d.removed + length d.installed

-- nothing is to be removed or installed
abbrev pub is_empty : DeltaValue → Bool
is_empty d = length d.removed + length d.installed == 0

-- ---- what the gateway has after it was told a difference

-- the told entry of a rule
abbrev pub as_told : RuleValue → ToldRule
as_told r = (r.name, r)

-- neither removed nor installed anew
abbrev pub stays : DeltaValue → ToldRule → Bool
stays d p = not (list_any (λ n. is_eq (text_cmp n p.0)) d.removed) && not (list_any (has_name p.0) d.installed)

-- the installed rules of which no later one takes the place: the last of each name
abbrev pub last_of_names : List RuleValue → List RuleValue
last_of_names [] = []
last_of_names (r ∷ rs) = if list_any (has_name r.name) rs then last_of_names rs else (r ∷ last_of_names rs)

-- without the removed names, and with each installed rule in the place of what its name had
abbrev pub apply : List ToldRule → DeltaValue → List ToldRule
apply t d = ascending told_cmp (filter (stays d) t ++ map as_told (last_of_names d.installed))
