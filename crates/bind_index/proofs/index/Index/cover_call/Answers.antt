use Rattle.std.proofs.lemmas.Result.{on_ok_weaker}
use Rattle.pcrf_model.specs.Sessions.{af}
use Rattle.bind_index.proofs.Covering.{grows_through}
use Rattle.bind_index.proofs.Records.{address_grows}
use Rattle.bind_index.proofs.index.Index.cover_call.Goals as goal

pub returns-clause-grows : goal.returns-clause-grows
returns-clause-grows c = grows_through _ _ _ c.list_call_address.ensures.grows c.list_call_prefix.ensures.grows

pub returns-clause-lists : goal.returns-clause-lists
returns-clause-lists c =
    on_ok_weaker c.list_call_prefix.result
    (λ listed. record {
      address = address_grows _ c.list_call_prefix.new.self (af c.args.id.now) c.args.known.now c.list_call_prefix.ensures.grows c.in_ok-list_call_address.ensures.lists;
      prefix = listed;
    })
    c.list_call_prefix.ensures.lists
