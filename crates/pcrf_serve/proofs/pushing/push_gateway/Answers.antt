use Rattle.pcrf_values.proofs.Plain.{clash}
use Rattle.pcrf_serve.proofs.Settled.{both_on, of_each}
use Rattle.pcrf_serve.proofs.pushing.push_gateway.Goals as goal

pub returns-then-not-is_all-clause-told : goal.returns-then-not-is_all-clause-told
returns-then-not-is_all-clause-told g c = λ e. clash c.is_all.result (c.is_all.ensures.1 e) c.if-not-is_all.true

pub returns-then-not-is_all-clause-aborted : goal.returns-then-not-is_all-clause-aborted
returns-then-not-is_all-clause-aborted g c = λ e. clash c.is_all.result (c.is_all.ensures.1 e) c.if-not-is_all.true

pub returns-clause-adds : goal.returns-clause-adds
returns-clause-adds g c =
    both_on c.args.host.now (g.S.SharedSite.seen c.args.seat.now) (g.S.SharedSite.seen c.push_demand.new.seat) (g.S.SharedSite.seen c.push_demand-2.new.seat)
    c.push_demand.ensures.adds c.push_demand-2.ensures.adds

pub returns-clause-told : goal.returns-clause-told
returns-clause-told g c =
    let more = c.push_demand-2.ensures.adds in
    of_each _ c.push_demand-2.result (λ pushed _. (
      g.S.SharedSite.seen c.push_demand.new.seat,
      (more.0, more.1),
      c.in_ok-told.ensures.settled (c.is_all.ensures.0 c.if-not-is_all.false),
    ))
