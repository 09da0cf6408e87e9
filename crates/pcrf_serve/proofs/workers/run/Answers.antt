use Rattle.std.proofs.Common.{arith}
use Rattle.pcrf_serve.specs.Workers.{BegunFrom}
use Rattle.pcrf_serve.proofs.Joining.{joined, zip_length}
use Rattle.pcrf_serve.proofs.workers.run.Goals as goal

pub join_all-requires-clause-room : goal.join_all-requires-clause-room
join_all-requires-clause-room g c =
    let e = zip_length (λ connection begun. BegunFrom g.S.SharedSite.seen (g.S.SharedSite.seen connection.0) begun) c.args.connections.items c.begin_all-begun.result.items c.begin_all-begun.ensures in
    let a = c.args.connections.ok in let b = c.begin_all-begun.result.ok in let r = c.requires in omega arith

pub returns : goal.returns
returns g c = joined g.S.SharedSite.seen _ _ _ c.begin_all-begun.ensures c.join_all.ensures
