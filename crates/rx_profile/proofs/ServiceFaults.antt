-- The first refusal of a request's components, by its parts.
use Rattle.std.proofs.Common.{◌≡◌, List, false, None, refl}
use Rattle.pcrf_model.specs.Requests.{ComponentValue}
use Rattle.dia_base.specs.declared.read_fault.ReadFault.{ReadFault}
use Rattle.dia_base.specs.declared.read_fault.ReadFault.TheVariants.{Refused, NoMemory}
use Rattle.dia_base.specs.Rows.{refusal_among, IsFaultOf}
use Rattle.rx_profile.specs.Services.{repeats, component_numbers, flow_numbers_refusal, filters_refusal, services_refusal}

-- the flows of some component have equal numbers
pub numbers_broken : (components : List ComponentValue) (fault : ReadFault) → repeats (component_numbers components) ≡ false → IsFaultOf (refusal_among flow_numbers_refusal components) fault → IsFaultOf (services_refusal components) fault
numbers_broken components NoMemory apart broken = tt
numbers_broken components (Refused refusal) apart broken = rw (apart, broken) refl

-- all numbers differ, and some filter is refused
pub filters_broken : (components : List ComponentValue) (fault : ReadFault) → repeats (component_numbers components) ≡ false → refusal_among flow_numbers_refusal components ≡ None → IsFaultOf (refusal_among filters_refusal components) fault → IsFaultOf (services_refusal components) fault
filters_broken components NoMemory apart granted broken = tt
filters_broken components (Refused refusal) apart granted broken = rw (apart, granted, broken) refl
