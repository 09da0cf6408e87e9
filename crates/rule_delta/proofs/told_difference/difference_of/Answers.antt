use Rattle.std.proofs.Common.{◌∙◌}
use Rattle.rule_delta.proofs.AllTold.{difference_told}
use Rattle.rule_delta.proofs.told_difference.difference_of.Goals as goal

pub returns : goal.returns
returns c =
    (λ i. record { removed = c.of.ensures.removed i; installed = c.of.ensures.installed i })
    ∙ difference_told c.args.known.now c.told_facts-facts.result.now c.args.rules.now c.told_facts-facts.ensures
    c.in_ok-removed.removed.items c.in_ok-installed.installed.items c.in_ok-removed.ensures c.in_ok-installed.ensures
