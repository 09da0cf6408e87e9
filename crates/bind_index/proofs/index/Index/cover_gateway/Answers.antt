use Rattle.std.proofs.lemmas.Result.{on_ok_weaker}
use Rattle.pcrf_model.specs.Sessions.{gx}
use Rattle.bind_index.proofs.Covering.{grows_through}
use Rattle.bind_index.proofs.Records.{address_grows, prefix_grows}
use Rattle.bind_index.proofs.index.Index.cover_gateway.Goals as goal

pub returns-in_err-list_gateway_prefix-clause-grows : goal.returns-in_err-list_gateway_prefix-clause-grows
returns-in_err-list_gateway_prefix-clause-grows c = grows_through _ _ _ c.list_gateway_address.ensures.grows c.list_gateway_prefix.ensures.grows

pub returns-clause-grows : goal.returns-clause-grows
returns-clause-grows c =
    grows_through _ _ _ c.list_gateway_address.ensures.grows (grows_through _ _ _ c.list_gateway_prefix.ensures.grows c.list_gateway_subscribers.ensures.grows)

pub returns-clause-lists : goal.returns-clause-lists
returns-clause-lists c =
    let s = gx c.args.id.now in
    let facts = c.args.known.now in
    let last = c.list_gateway_subscribers.ensures.grows in
    on_ok_weaker c.list_gateway_subscribers.result
    (λ listed. record {
      address = address_grows _ c.list_gateway_subscribers.new.self s facts (grows_through _ _ _ c.list_gateway_prefix.ensures.grows last) c.in_ok-list_gateway_address.ensures.lists;
      prefix = prefix_grows _ c.list_gateway_subscribers.new.self s facts last c.in_ok-list_gateway_prefix.ensures.lists;
      subscribers = listed;
    })
    c.list_gateway_subscribers.ensures.lists
