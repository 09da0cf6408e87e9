use Rattle.std.proofs.Common.{refl}
use Rattle.std.specs.Fmt.{digits}
use Rattle.pcrf_model.specs.Views.{view}
use Rattle.pcrf_model.specs.Bindings.{bind}
use Rattle.pcrf_model.specs.Rules.{rules}
use Rattle.pcrf_model.specs.Differences.{told_rules_of}
use Rattle.pcrf_model.specs.Refusals.{ccr_refusal, aar_refusal, str_refusal}
use Rattle.pcrf_model.specs.Serving.{provision_outcome, serve_ccr, serve_aar, serve_str}
use Rattle.pcrf_model.specs.Pushing.{due_session, push, lacks_counter}
use Rattle.pcrf_model.specs.Aborting.{abandoned_session, abort, lacks_counter_to_abort}
use Rattle.pcrf_model.specs.SiteOverviews.{site_overview}
use Rattle.pcrf_model.proofs.abort_examples.home_alone_aborts_a_call.Goals as goal

pub returns : goal.returns
unfolding digits view bind rules told_rules_of ccr_refusal aar_refusal str_refusal provision_outcome serve_ccr serve_aar serve_str due_session push lacks_counter abandoned_session abort lacks_counter_to_abort site_overview
returns c = record { other = refl; before = refl; after = refl; shown = refl }
