use Rattle.std.proofs.Common.{List, ap, sym, ◌∙◌}
use Rattle.pcrf_values.specs.declared.numbers.RequestKind.{RequestKind}
use Rattle.pcrf_values.specs.Facts.{Fact}
use Rattle.pcrf_values.specs.Held.{kept_list, join_of}
use Rattle.pcrf_model.specs.Holdings.{facts_on}
use Rattle.pcrf_model.specs.Operations.{Operation}
use Rattle.pcrf_model.specs.Sessions.{gx}
use Rattle.gx_profile.specs.Requests.{ccr_view}
use Rattle.site_machine.specs.Facts.{fields_of}
use Rattle.site_machine.proofs.Telling.{end_joins}
use Rattle.site_machine.proofs.site.Site.close.Goals as goal

pub add_to_gateway-requires-clause-joins : goal.add_to_gateway-requires-clause-joins
add_to_gateway-requires-clause-joins g c =
    let s = c.args.self.now in
    let q = ccr_view c.args.ccr.now in
    let own = facts_on s.state.holding.facts (gx q.session) in
    let facts = ap (λ (o : Operation). o.facts) c.in_ok-operation.ensures ∙ ap (λ (k : RequestKind). fields_of s.number c.args.counter q k) c.requires.kind in
    c.in_ok-ended.ensures ∙ end_joins own ∙ ap (λ (fs : List Fact). join_of own (kept_list fs)) (sym facts)
