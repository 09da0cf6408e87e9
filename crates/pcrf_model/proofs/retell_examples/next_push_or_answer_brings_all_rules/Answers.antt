use Rattle.std.proofs.Common.{refl}
use Rattle.std.specs.Fmt.{digits}
use Rattle.pcrf_model.specs.Views.{view}
use Rattle.pcrf_model.specs.Bindings.{bind}
use Rattle.pcrf_model.specs.Rules.{rules}
use Rattle.pcrf_model.specs.Differences.{told_rules_of}
use Rattle.pcrf_model.specs.Refusals.{ccr_refusal, aar_refusal, str_refusal}
use Rattle.pcrf_model.specs.Serving.{provision_outcome, serve_ccr, serve_aar, serve_str}
use Rattle.pcrf_model.specs.Pushing.{due_session, push, lacks_counter}
use Rattle.pcrf_model.specs.Retelling.{retell, lacks_counter_to_retell}
use Rattle.pcrf_model.proofs.retell_examples.next_push_or_answer_brings_all_rules.Goals as goal

pub returns : goal.returns
unfolding digits view bind rules told_rules_of ccr_refusal aar_refusal str_refusal provision_outcome serve_ccr serve_aar serve_str due_session push lacks_counter retell lacks_counter_to_retell
returns c = record { before = refl; push = refl; then = refl; answer = refl; repeated = refl }
