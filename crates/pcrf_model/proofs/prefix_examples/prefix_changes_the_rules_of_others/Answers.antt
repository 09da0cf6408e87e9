use Rattle.std.proofs.Common.{inl, inr, refl}
use Rattle.std.specs.Fmt.{digits}
use Rattle.pcrf_model.specs.Views.{view}
use Rattle.pcrf_model.specs.Bindings.{bind}
use Rattle.pcrf_model.specs.Rules.{rules}
use Rattle.pcrf_model.specs.Differences.{told_rules_of}
use Rattle.pcrf_model.specs.Refusals.{ccr_refusal, aar_refusal, str_refusal}
use Rattle.pcrf_model.specs.Serving.{provision_outcome, serve_ccr, serve_aar, serve_str}
use Rattle.pcrf_model.specs.Laws.{NeverMeet}
use Rattle.pcrf_model.specs.Networks.{call_by_prefix, wider_session}
use Rattle.pcrf_model.specs.Samples.{first_session, second_session}
use Rattle.pcrf_model.specs.Scenes.{seen}
use Rattle.pcrf_values.proofs.Plain.{none_some}
use Rattle.pcrf_model.proofs.prefix_examples.prefix_changes_the_rules_of_others.Goals as goal

pub returns : goal.returns
unfolding digits view bind rules told_rules_of ccr_refusal aar_refusal str_refusal provision_outcome serve_ccr serve_aar serve_str
returns c = record { apart = apart; before = refl; after = refl }
  where
    apart : NeverMeet (seen call_by_prefix) (seen wider_session) second_session first_session
    apart = record { apart = λ x d s. elim d [ inl e ↦ none_some x e | inr e ↦ none_some x e ] }
