use Rattle.std.proofs.Common.{◌≡◌, Bool, false, Some, refl, ap}
use Rattle.std.specs.Fmt.{digits}
use Rattle.std.specs.Ordering.{is_eq}
use Rattle.pcrf_values.specs.Orders.{text_cmp}
use Rattle.pcrf_values.proofs.Plain.{clash, some_same}
use Rattle.pcrf_values.specs.Values.{Value, Address}
use Rattle.pcrf_model.specs.Views.{view}
use Rattle.pcrf_model.specs.Bindings.{Party, bind}
use Rattle.pcrf_model.specs.Rules.{rules}
use Rattle.pcrf_model.specs.Differences.{told_rules_of}
use Rattle.pcrf_model.specs.Refusals.{ccr_refusal, aar_refusal, str_refusal}
use Rattle.pcrf_model.specs.Serving.{provision_outcome, serve_ccr, serve_aar, serve_str}
use Rattle.pcrf_model.specs.Laws.{BindsAlike}
use Rattle.pcrf_model.specs.Samples.{first_session, host_address}
use Rattle.pcrf_model.specs.Neighbours.{refreshed}
use Rattle.pcrf_model.specs.Scenes.{one, seen}
use Rattle.pcrf_model.proofs.neighbour_examples.session_binds_alike_where_its_address_stays.Goals as goal

-- it is the address that the session had
abbrev is_first : Value → Bool
is_first (Address a) = is_eq (text_cmp a (host_address 1))
is_first v = false

-- which the one of the update isn't
other : Some (Address (host_address 1)) ≡ Some (Address (host_address 2)) → ⊥
other e = clash (is_first (Address (host_address 1))) refl (ap is_first (some_same (Address (host_address 1)) (Address (host_address 2)) e))

pub returns : goal.returns
unfolding digits view bind rules told_rules_of ccr_refusal aar_refusal str_refusal provision_outcome serve_ccr serve_aar serve_str
returns c = record { again = again; moved = λ alike. other (ap (λ (p : Party). p.address) alike.reads) }
  where
    again : BindsAlike (seen one) (seen refreshed) first_session
    again = record { of_gateway = refl; reads = refl; stands = refl }
