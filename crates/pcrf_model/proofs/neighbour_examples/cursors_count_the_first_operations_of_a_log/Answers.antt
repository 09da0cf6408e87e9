use Rattle.std.proofs.Common.{zero, suc, inl, inr, refl, arith}
use Rattle.std.specs.Fmt.{digits}
use Rattle.pcrf_values.proofs.Plain.{none_some}
use Rattle.pcrf_model.specs.Views.{view}
use Rattle.pcrf_model.specs.Bindings.{bind}
use Rattle.pcrf_model.specs.Rules.{rules}
use Rattle.pcrf_model.specs.Differences.{told_rules_of}
use Rattle.pcrf_model.specs.Refusals.{ccr_refusal, aar_refusal, str_refusal}
use Rattle.pcrf_model.specs.Serving.{provision_outcome, serve_ccr, serve_aar, serve_str}
use Rattle.pcrf_model.specs.CursorLaws.{FirstTaken, Reaches}
use Rattle.pcrf_model.specs.Neighbours.{counted}
use Rattle.pcrf_model.specs.Scenes.{one}
use Rattle.pcrf_model.proofs.neighbour_examples.cursors_count_the_first_operations_of_a_log.Goals as goal

-- a later epoch is not an earlier one
no_earlier : Reaches (counted 2 0) (counted 1 3) → ⊥
no_earlier (inl l) = omega (arith, l)
no_earlier (inr r) = let e = r.0 in omega (arith, e)

-- nor is a lesser cursor a greater one
no_shorter : Reaches (counted 1 3) (counted 1 2) → ⊥
no_shorter (inl l) = omega (arith, l)
no_shorter (inr r) = let e = r.1 in omega (arith, e)

pub returns : goal.returns
unfolding digits view bind rules told_rules_of ccr_refusal aar_refusal str_refusal provision_outcome serve_ccr serve_aar serve_str
returns c = record { later = inl (omega arith); further = inr (refl, omega arith); earlier = no_earlier; shorter = no_shorter; first = first; no_second = second }
  where
    first : FirstTaken 1 one.log one.log
    first zero l = (_, refl, inl refl)
    first (suc k) l = absurd (omega (arith, l))

    second : FirstTaken 2 one.log one.log → ⊥
    second w = let there = w 1 (omega arith) in none_some there.0 there.1
