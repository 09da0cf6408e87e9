use Rattle.std.proofs.Common.{◌≡◌, List, IfOk, ap, ◌∙◌, subst}
use Rattle.pcrf_values.specs.ToldWords.{ToldRule, told_rules}
use Rattle.pcrf_model.specs.Differences.{difference}
use Rattle.pcrf_model.specs.Sessions.{gx}
use Rattle.rule_delta.proofs.ToldAlone.{told_alone}
use Rattle.rule_delta.proofs.cached_telling.untold_of.Goals as goal

pub returns-in-Some : goal.returns-in-Some
returns-in-Some c =
    subst (λ (us : List ToldRule). IfOk c.difference_of.result (λ delta. delta ≡ difference us c.args.rules.now))
    (ap told_rules c.in-Some.ensures ∙ told_alone c.args.state.now.facts (gx c.args.session.now)) c.difference_of.ensures
