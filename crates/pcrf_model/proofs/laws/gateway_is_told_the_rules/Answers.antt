use Rattle.pcrf_model.specs.Views.{view}
use Rattle.pcrf_model.specs.Rules.{rules}
use Rattle.pcrf_model.specs.Differences.{told_rules_of}
use Rattle.pcrf_model.proofs.DifferenceLaws.{apply-difference}
use Rattle.pcrf_model.proofs.RestOfEntries.{difference-first}
use Rattle.pcrf_model.proofs.FormReading.{flows_fit}
use Rattle.pcrf_model.proofs.RuleNames.{rules-names_differ}
use Rattle.pcrf_model.proofs.ToldLaws.{told_is_told}
use Rattle.pcrf_model.proofs.laws.gateway_is_told_the_rules.Goals as goal

pub returns : goal.returns
returns c = record {
  told = told_is_told;
  session = λ t h s rows form.
      let told_now = told_rules_of (view h.facts) s in
      let rules_now = rules t (view h.facts) s in
      let is = told_is_told h.facts s in
      let names = rules-names_differ t h.facts s rows (flows_fit h form) in
      record {
        whole = apply-difference told_now rules_now is.one_each names;
        in_part = λ n. difference-first n told_now rules_now is names;
      };
}
