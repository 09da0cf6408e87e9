use Rattle.std.proofs.Common.{◌≡◌, IfOk, List, ap, ◌∙◌, subst}
use Rattle.pcrf_values.specs.ToldWords.{ToldRule, told_rules}
use Rattle.pcrf_model.specs.Sessions.{gx}
use Rattle.rule_delta.proofs.ToldAlone.{told_alone}
use Rattle.rule_delta.proofs.telling.told_rules_of.Goals as goal

pub returns-in-Some : goal.returns-in-Some
returns-in-Some c =
    subst (λ (us : List ToldRule). IfOk c.told_rules.result (λ entries. entries ≡ us))
    (ap told_rules c.in-Some.ensures ∙ told_alone c.args.state.now.facts (gx c.args.session.now))
    c.told_rules.ensures

pub returns-in-None : goal.returns-in-None
returns-in-None c =
    c.of.ensures
    ∙ c.new.ensures.items
    ∙ ap told_rules c.in-None.ensures
    ∙ told_alone c.args.state.now.facts (gx c.args.session.now)
