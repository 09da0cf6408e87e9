-- The facts that tell a gateway of rules (TS 29.212, 4.5.2).
use Rattle.std.specs.Prelude.{ℕ, List, ◌++◌, map, Option, Some, None}
use Rattle.pcrf_values.specs.Ascending.{ascending}
use Rattle.pcrf_values.specs.declared.tag.Tag.{Tag}
use Rattle.pcrf_values.specs.RuleValues.{RuleValue, DeltaValue}
use Rattle.pcrf_values.specs.Facts.{Fact, Field, fact_cmp}
use Rattle.pcrf_values.specs.Places.{OfRuleName}
use Rattle.gx_records.specs.GxFacts.{told_value}
use Rattle.pcrf_model.specs.Making.{told_facts}

-- a name, with the rule that is installed under it, or with nothing where it is removed
abbrev pub ToldName : Type 0
ToldName = List ℕ × Option RuleValue

-- a name that is removed
abbrev pub removed_entry : List ℕ → ToldName
removed_entry n = (n, None)

-- a rule that is installed
abbrev pub installed_entry : RuleValue → ToldName
installed_entry r = (r.name, Some r)

-- all of them
abbrev pub entries_told : DeltaValue → List ToldName
entries_told d = map removed_entry d.removed ++ map installed_entry d.installed

-- the fact that tells of one
abbrev pub told_fact : Tag → ToldName → Fact
told_fact t e = Field (OfRuleName e.0) t (told_value e.1)

-- the facts that tell a gateway of a difference, under a counter of a site
abbrev pub facts_told : ℕ → ℕ → DeltaValue → List Fact
facts_told site counter d = ascending fact_cmp (told_facts (record { number = 0; counter = counter; site = site }) d)
