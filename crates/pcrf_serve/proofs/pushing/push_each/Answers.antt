use Rattle.std.proofs.Common.{ap}
use Rattle.site_lock.specs.Values.{event_value}
use Rattle.pcrf_serve.proofs.Settled.{pushed_on}
use Rattle.pcrf_serve.proofs.pushing.push_each.Goals as goal

-- Each turn adds the receipt of one demand to those of the turns before; that one is wanted is found without one.

pub returns-in_err-sent-clause-adds : goal.returns-in_err-sent-clause-adds
returns-in_err-sent-clause-adds g c =
    pushed_on c.args.demand c.args.host.now (event_value c.args.event.now) _ _ _ _ c.requires c.loop.invariant (ap g.S.SharedSite.seen c.is_wanted.ensures.same) c.push_once.ensures.adds

pub loop-preserved : goal.loop-preserved
loop-preserved g c =
    pushed_on c.args.demand c.args.host.now (event_value c.args.event.now) _ _ _ _ c.requires c.loop.invariant (ap g.S.SharedSite.seen c.is_wanted.ensures.same) c.push_once.ensures.adds

pub returns-in-Some-false-clause-adds : goal.returns-in-Some-false-clause-adds
returns-in-Some-false-clause-adds g c =
    pushed_on c.args.demand c.args.host.now (event_value c.args.event.now) _ _ _ _ c.requires c.loop.invariant (ap g.S.SharedSite.seen c.is_wanted.ensures.same) c.push_once.ensures.adds

pub returns-in-None-2-clause-adds : goal.returns-in-None-2-clause-adds
returns-in-None-2-clause-adds g c =
    pushed_on c.args.demand c.args.host.now (event_value c.args.event.now) _ _ _ _ c.requires c.loop.invariant (ap g.S.SharedSite.seen c.is_wanted.ensures.same) c.push_once.ensures.adds

pub returns-in-Err-HistoryFull-clause-adds : goal.returns-in-Err-HistoryFull-clause-adds
returns-in-Err-HistoryFull-clause-adds g c =
    pushed_on c.args.demand c.args.host.now (event_value c.args.event.now) _ _ _ _ c.requires c.loop.invariant (ap g.S.SharedSite.seen c.is_wanted.ensures.same) c.push_once.ensures.adds

pub returns-in-Err-ClockFull-clause-adds : goal.returns-in-Err-ClockFull-clause-adds
returns-in-Err-ClockFull-clause-adds g c =
    pushed_on c.args.demand c.args.host.now (event_value c.args.event.now) _ _ _ _ c.requires c.loop.invariant (ap g.S.SharedSite.seen c.is_wanted.ensures.same) c.push_once.ensures.adds

pub returns-in-Err-NoMemory-clause-adds : goal.returns-in-Err-NoMemory-clause-adds
returns-in-Err-NoMemory-clause-adds g c =
    pushed_on c.args.demand c.args.host.now (event_value c.args.event.now) _ _ _ _ c.requires c.loop.invariant (ap g.S.SharedSite.seen c.is_wanted.ensures.same) c.push_once.ensures.adds
