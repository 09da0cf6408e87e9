-- What a gateway was told of rules.
use Rattle.std.specs.Prelude.{ℕ, List, Option, Some, None}
use Rattle.std.proofs.Common.{option_and_then}
use Rattle.std.specs.List.{filter_map}
use Rattle.pcrf_values.specs.RuleValues.{RuleValue}
use Rattle.pcrf_values.specs.declared.tag.Tag.{Tag}
use Rattle.pcrf_values.specs.Places.{Place, OfRuleName}
use Rattle.pcrf_values.specs.Values.{Value, Untold, Told}
use Rattle.pcrf_values.specs.Facts.{Fact, Field}
use Rattle.pcrf_values.specs.Held.{kept_list}

-- the rule that the value is, or nothing where no rule counts as told under the name, by a removal
-- or a retelling
abbrev pub as_told : Value → Option (Option RuleValue)
as_told Untold = Some None
as_told (Told r) = Some (Some r)
as_told x = None

-- a name under which a gateway was told a rule or nothing, with that and its tag
abbrev pub ToldEntry : Type 0
ToldEntry = List ℕ × (Tag × Option RuleValue)

-- under that name
abbrev pub named_entry : List ℕ → Tag → Option (Option RuleValue) → Option ToldEntry
named_entry name t None = None
named_entry name t (Some r) = Some (name, (t, r))

-- at the place of a name
abbrev pub told_at_place : Place → Tag → Value → Option ToldEntry
told_at_place (OfRuleName name) t v = named_entry name t (as_told v)
told_at_place p t v = None

-- what the fact tells of a rule
abbrev pub told_entry : Fact → Option ToldEntry
told_entry (Field p t v) = told_at_place p t v
told_entry f = None

-- each name that shows a rule or nothing, with that and its tag, ascending by name
abbrev pub told_entries : List Fact → List ToldEntry
told_entries facts = filter_map told_entry (kept_list facts)

-- a name, and the rule that was told under it
abbrev pub ToldRule : Type 0
ToldRule = List ℕ × RuleValue

-- the name with its rule, where there is one
abbrev pub told_rule : ToldEntry → Option ToldRule
told_rule (name, (t, None)) = None
told_rule (name, (t, Some r)) = Some (name, r)

-- the name and the rule that a place tells of by its tag and value, if it does
abbrev pub told_rule_at : Place → Tag → Value → Option ToldRule
told_rule_at p t v = option_and_then told_rule (told_at_place p t v)

-- the names that show a rule, each with its rule, ascending by name
abbrev pub told_rules : List Fact → List ToldRule
told_rules facts = filter_map told_rule (told_entries facts)
