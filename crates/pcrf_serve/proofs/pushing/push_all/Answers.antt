use Rattle.std.proofs.Common.{ℕ, List}
use Rattle.site_lock.specs.Books.{SeatValue}
use Rattle.pcrf_serve.specs.Earlier.{Adds}
use Rattle.pcrf_serve.specs.Events.{IsPushTo, IsPushToHost}
use Rattle.pcrf_serve.proofs.Chains.{gains_then, gains_weaker}
use Rattle.pcrf_serve.proofs.pushing.push_all.Goals as goal

-- pushes to hosts, and then pushes to one
pushed_then : (s t u : SeatValue) (host : List ℕ) → Adds IsPushToHost s t → Adds (IsPushTo host) t u → Adds IsPushToHost s u
pushed_then s t u host a b =
    gains_then (λ r. IsPushToHost r.event) s t u a (gains_weaker (λ r. IsPushTo host r.event) (λ r. IsPushToHost r.event) t u (λ r is. (host, is)) b)

pub returns-in_err-goes_on : goal.returns-in_err-goes_on
returns-in_err-goes_on g c =
    pushed_then (g.S.SharedSite.seen c.args.seat.now) (g.S.SharedSite.seen c.loop-host.seat) (g.S.SharedSite.seen c.push_host.new.seat) c.in-Some.host.now c.loop-host.invariant c.push_host.ensures

pub returns-then-not-goes_on : goal.returns-then-not-goes_on
returns-then-not-goes_on g c =
    pushed_then (g.S.SharedSite.seen c.args.seat.now) (g.S.SharedSite.seen c.loop-host.seat) (g.S.SharedSite.seen c.push_host.new.seat) c.in-Some.host.now c.loop-host.invariant c.push_host.ensures

pub loop-host-preserved : goal.loop-host-preserved
loop-host-preserved g c =
    pushed_then (g.S.SharedSite.seen c.args.seat.now) (g.S.SharedSite.seen c.loop-host.seat) (g.S.SharedSite.seen c.push_host.new.seat) c.in-Some.host.now c.loop-host.invariant c.push_host.ensures
