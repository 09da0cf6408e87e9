use Rattle.std.proofs.Common.{[], Some, None, refl, sym, ap, ◌∙◌}
use Rattle.std.specs.Option.{option_copied}
use Rattle.pcrf_model.specs.Sessions.{af}
use Rattle.site_join.specs.States.{record_facts}
use Rattle.indexed_state.specs.Indexed.{address_value}
use Rattle.indexed_state.proofs.Reading.{address_shown}
use Rattle.indexed_state.proofs.reached.call_address_in.Goals as goal

pub returns-in_default : goal.returns-in_default
returns-in_default c = λ facts id is. address_shown facts (af id) [] None (sym (ap (λ o. record_facts (option_copied o)) c.in_default.is) ∙ is) refl

pub returns-in_default-address : goal.returns-in_default-address
returns-in_default-address c = λ facts id is. address_shown facts (af id) c.in-Some.known.now None (sym (ap (λ o. record_facts (option_copied o)) c.in-Some.is) ∙ is) c.in_default-address.ensures

pub returns : goal.returns
returns c = λ facts id is. address_shown facts (af id) c.in-Some.known.now
    (Some (_, address_value c.in-Some-address.address.now)) (sym (ap (λ o. record_facts (option_copied o)) c.in-Some.is) ∙ is) c.in-Some-address.ensures
