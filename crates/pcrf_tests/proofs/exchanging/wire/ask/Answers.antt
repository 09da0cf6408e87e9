use Rattle.std.proofs.Common.{◌≡◌, ℕ, List, Some, Result, Ok, Err, IfOk, OnErr, ap}
use Rattle.pcrf_model.specs.Replies.{ReplyValue}
use Rattle.pcrf_model.specs.Steps.{Push}
use Rattle.site_lock.specs.Books.{SeatValue}
use Rattle.site_lock.specs.Calls.{GainsReceipt}
use Rattle.site_lock.specs.Values.{reply_value}
use Rattle.pcrf_serve.specs.declared.demand.Demand.TheVariants.{Rules}
use Rattle.pcrf_serve.specs.Earlier.{Adds}
use Rattle.pcrf_serve.specs.Events.{IsPushToHost}
use Rattle.pcrf_serve.proofs.Chains.{gains_called, gains_equal}
use Rattle.pcrf_tests.proofs.exchanging.wire.ask.Goals as goal

-- a push to a host that was asked for, or nothing where the site refused it
asked : {R E Seat : Type 0} (r : Result R E) (value : R → ReplyValue) (seen : Seat → SeatValue) (old new : Seat) (host : List ℕ)
    → IfOk r (λ x. GainsReceipt (seen old) (Push (Some host)) (value x) (seen new)) → OnErr r (new ≡ old) → Adds IsPushToHost (seen old) (seen new)
asked (Ok x) value seen old new host gained same =
    gains_called (λ r. IsPushToHost r.event) (seen old) (seen new) (Push (Some host)) (value x) gained (λ r event reply. (host, (Rules, event)))
asked (Err e) value seen old new host gained same = gains_equal (λ r. IsPushToHost r.event) (seen old) (seen new) (ap seen same)

pub returns : goal.returns
returns g c =
    asked c.call-reply.result reply_value g.S.SharedSite.seen c.args.seat.now c.call-reply.new.seat c.in-Ok.gateway.host c.call-reply.ensures.receipt c.call-reply.ensures.err
