use Rattle.std.proofs.Common.{◌≡◌, Bool, false, Some, inl, inr, refl, sym, ap, ◌∙◌}
use Rattle.std.specs.Fmt.{digits}
use Rattle.std.specs.Ordering.{is_eq}
use Rattle.pcrf_values.specs.Orders.{text_cmp}
use Rattle.pcrf_values.proofs.Plain.{clash, none_some, some_same}
use Rattle.pcrf_values.specs.Values.{Value, Address}
use Rattle.pcrf_model.specs.Views.{view}
use Rattle.pcrf_model.specs.Bindings.{bind}
use Rattle.pcrf_model.specs.Rules.{rules}
use Rattle.pcrf_model.specs.Differences.{told_rules_of}
use Rattle.pcrf_model.specs.Refusals.{ccr_refusal, aar_refusal, str_refusal}
use Rattle.pcrf_model.specs.Serving.{provision_outcome, serve_ccr, serve_aar, serve_str}
use Rattle.pcrf_model.specs.Laws.{HasAddress, NeverMeet}
use Rattle.pcrf_model.specs.Neighbours.{two_apart, far_call}
use Rattle.pcrf_model.specs.Samples.{call_session, first_session, host_address}
use Rattle.pcrf_model.specs.Scenes.{seen}
use Rattle.pcrf_model.proofs.neighbour_examples.call_changes_the_rules_of_its_neighbour_alone.Goals as goal

-- it is the address of the first session
abbrev is_first : Value → Bool
is_first (Address a) = is_eq (text_cmp a (host_address 1))
is_first v = false

-- no value is the address of both
not_both : (x : Value) → Some (Address (host_address 2)) ≡ Some x → Some (Address (host_address 1)) ≡ Some x → ⊥
not_both x e f = clash (is_first (Address (host_address 1))) refl (ap is_first (some_same (Address (host_address 1)) x f ∙ sym (some_same (Address (host_address 2)) x e)))

pub returns : goal.returns
unfolding digits view bind rules told_rules_of ccr_refusal aar_refusal str_refusal provision_outcome serve_ccr serve_aar serve_str
returns c = record { apart = apart; meets = inr refl; met = inl refl; before = refl; kept = refl; other = refl; more = refl }
  where
    first_is : (x : Value) → HasAddress (seen two_apart) (seen far_call) first_session x → Some (Address (host_address 1)) ≡ Some x
    first_is x (inl f) = f
    first_is x (inr f) = f

    apart : NeverMeet (seen two_apart) (seen far_call) call_session first_session
    apart = record { apart = λ x d s. elim d [ inl e ↦ none_some x e | inr e ↦ not_both x e (first_is x s) ] }
