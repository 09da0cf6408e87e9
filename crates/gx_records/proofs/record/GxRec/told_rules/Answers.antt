use Rattle.std.proofs.Common.{◌++◌, ap, ◌∙◌}
use Rattle.std.specs.List.{filter_map, flat_map}
use Rattle.pcrf_values.specs.ToldWords.{told_rule}
use Rattle.gx_records.specs.GxFacts.{rules_told}
use Rattle.gx_records.proofs.FieldLaws.{rules_listed}
use Rattle.gx_records.proofs.record.GxRec.told_rules.Goals as goal

pub returns : goal.returns
returns c =
    c.in_ok-add_rules.ensures
    ∙ ap (λ l. l ++ flat_map rules_told c.told_facts.result.now) c.new-pairs.ensures.items
    ∙ rules_listed c.told_facts.result.now
    ∙ ap (filter_map told_rule) c.told_facts.ensures
