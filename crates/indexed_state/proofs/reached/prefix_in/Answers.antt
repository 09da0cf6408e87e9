use Rattle.std.proofs.Common.{[], Some, None, refl, sym, ap, ◌∙◌}
use Rattle.std.specs.Option.{option_copied}
use Rattle.pcrf_model.specs.Sessions.{gx}
use Rattle.site_join.specs.States.{record_facts}
use Rattle.pcrf_values.specs.Values.{Prefix}
use Rattle.indexed_state.proofs.Reading.{prefix_shown}
use Rattle.indexed_state.proofs.reached.prefix_in.Goals as goal

pub returns-in_default : goal.returns-in_default
returns-in_default c = λ facts id is. prefix_shown facts (gx id) [] None (sym (ap (λ o. record_facts (option_copied o)) c.in_default.is) ∙ is) refl

pub returns-in_default-prefix : goal.returns-in_default-prefix
returns-in_default-prefix c = λ facts id is. prefix_shown facts (gx id) c.in-Some.known.now None (sym (ap (λ o. record_facts (option_copied o)) c.in-Some.is) ∙ is) c.in_default-prefix.ensures

pub returns : goal.returns
returns c = λ facts id is. prefix_shown facts (gx id) c.in-Some.known.now
    (Some (_, Prefix c.in-Some-prefix.prefix.now)) (sym (ap (λ o. record_facts (option_copied o)) c.in-Some.is) ∙ is) c.in-Some-prefix.ensures
