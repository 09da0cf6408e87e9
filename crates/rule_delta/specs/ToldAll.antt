-- What facts tell, one by one: what of it is to be removed, and whether nothing of it is to be removed or installed.
use Rattle.std.specs.Prelude.{ℕ, Bool, not, List, map}
use Rattle.std.specs.List.{list_any, filter}
use Rattle.pcrf_values.specs.RuleValues.{RuleValue}
use Rattle.pcrf_values.specs.ToldWords.{ToldRule}
use Rattle.pcrf_model.specs.Differences.{has_name, holds, told_name_of}
use Rattle.gx_records.specs.GxFacts.{rules_told}
use Rattle.gx_records.specs.declared.fact.GxFact.{GxFact}

-- the fact tells a rule, and none of these has its name
abbrev pub has_no_rule : List RuleValue → GxFact → Bool
has_no_rule rules fact = list_any (λ (p : ToldRule). not (list_any (has_name p.0) rules)) (rules_told fact)

-- one of the facts tells just this rule
abbrev pub tell : List GxFact → RuleValue → Bool
tell facts rule = list_any (λ f. holds (rules_told f) rule) facts

-- the name under which the fact tells a rule, if none of these has it
abbrev pub names_left : List RuleValue → GxFact → List (List ℕ)
names_left rules fact = filter (λ n. not (list_any (has_name n) rules)) (map told_name_of (rules_told fact))
