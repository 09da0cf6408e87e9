-- The facts of a Gx session.
use Rattle.std.specs.Prelude.{ℕ, List, [], ◌∷◌, Option, Some, None}
use Rattle.pcrf_values.specs.RuleValues.{RuleValue}
use Rattle.pcrf_values.specs.Places.{OfRuleName}
use Rattle.pcrf_values.specs.Values.{Value, Untold}
use Rattle.pcrf_values.specs.Values as values
use Rattle.pcrf_values.specs.Facts as facts
use Rattle.lattice_core.specs.SessionFacts.{session_fact}
use Rattle.gx_records.specs.declared.fact.GxFact.{GxFact}
use Rattle.gx_records.specs.declared.fact.GxFact.TheVariants.{End, Field, Told}

-- the rule that the gateway was told, or that no rule counts as told under the name, by a removal or a
-- retelling
abbrev pub told_value : Option RuleValue → Value
told_value None = Untold
told_value (Some r) = values.Told r

-- a fact as what it says
abbrev pub fact_of : GxFact → facts.Fact
fact_of End = facts.End
fact_of (Field t x) = session_fact t x
fact_of (Told t name r) = facts.Field (OfRuleName name) t (told_value r)

-- the name and the rule, where there is one
abbrev pub rule_under : List ℕ → Option RuleValue → List (List ℕ × RuleValue)
rule_under name None = []
rule_under name (Some r) = (name, r) ∷ []

-- the rule that a fact tells, with its name
abbrev pub rules_told : GxFact → List (List ℕ × RuleValue)
rules_told End = []
rules_told (Field t x) = []
rules_told (Told t name r) = rule_under name r
