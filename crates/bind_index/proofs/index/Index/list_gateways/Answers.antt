use Rattle.std.proofs.Common.{subst}
use Rattle.site_join.specs.States.{Records}
use Rattle.bind_index.specs.Index.{ListsGateway}
use Rattle.bind_index.proofs.Covering.{grows_through}
use Rattle.bind_index.proofs.Records.{EachLeft, each_next, gateway_grows}
use Rattle.bind_index.proofs.index.Index.list_gateways.Goals as goal

pub returns-in_err-cover_gateway-clause-grows : goal.returns-in_err-cover_gateway-clause-grows
returns-in_err-cover_gateway-clause-grows c = grows_through _ _ _ c.loop-id.invariant.grows c.cover_gateway.ensures.grows

pub loop-id-preserved : goal.loop-id-preserved
loop-id-preserved c = record {
  grows = grows_through _ _ _ c.loop-id.invariant.grows c.cover_gateway.ensures.grows;
  listed = each_next ListsGateway gateway_grows c.loop-id.self c.cover_gateway.new.self (c.in-Some.id.now, c.in-Some.known.now) c.next.new.self c.args.sessions
      (subst (λ (es : Records). EachLeft ListsGateway c.loop-id.self es c.args.sessions) c.in-Some.ensures.steps c.loop-id.invariant.listed)
      c.cover_gateway.ensures.grows c.in_ok-cover_gateway.ensures.lists;
}
