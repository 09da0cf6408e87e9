use Rattle.std.proofs.Common.{◌≡◌, true, take}
use Rattle.std.specs.List.{list_all}
use Rattle.pcrf_values.specs.Limits.{rule_name_limit}
use Rattle.pcrf_values.specs.RuleValues.{RuleValue}
use Rattle.pcrf_model.specs.Forms.{is_rule, is_text}
use Rattle.site_machine.proofs.facts.gateway.note_rules.Given as goal

-- those so far have names that are texts, and are within their ranges
abbrev pub invariant-loop-rule : goal.invariant-loop-rule
invariant-loop-rule l = record {
  names : list_all (λ (r : RuleValue). is_text rule_name_limit r.name) (take l.rule-index l.rules) ≡ true;
  parts : list_all is_rule (take l.rule-index l.rules) ≡ true;
}
