use Rattle.std.proofs.lemmas.Result.{on_ok_weaker}
use Rattle.bind_index.specs.Index.{ListsGateway}
use Rattle.bind_index.proofs.Covering.{grows_through}
use Rattle.bind_index.proofs.Records.{each_grow, gateway_grows, covers_records}
use Rattle.bind_index.proofs.index.Index.cover_state.Goals as goal

pub returns-clause-grows : goal.returns-clause-grows
returns-clause-grows c = grows_through _ _ _ c.list_gateways.ensures.grows c.list_calls.ensures.grows

pub returns-clause-covers : goal.returns-clause-covers
returns-clause-covers c =
    on_ok_weaker c.list_calls.result
    (λ listed. covers_records c.args.state.now.facts c.all_gx.result c.all_af.result
    (record { ascending = c.all_gx.ensures.ascending; reads = c.all_gx.ensures.facts })
    (record { ascending = c.all_af.ensures.ascending; reads = c.all_af.ensures.facts })
    c.list_calls.new.self
    (each_grow ListsGateway gateway_grows _ _ _ c.list_calls.ensures.grows c.in_ok-list_gateways.ensures.lists)
    listed)
    c.list_calls.ensures.lists
