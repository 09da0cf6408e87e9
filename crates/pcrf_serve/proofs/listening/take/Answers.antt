use Rattle.std.proofs.Common.{Result, Ok, Err, OnErr, refl}
use Rattle.site_lock.specs.Values.{event_value}
use Rattle.pcrf_serve.specs.Headings.{letter_with}
use Rattle.pcrf_serve.proofs.Following.{exchanged_brought, exchanged_part, part_gains}
use Rattle.pcrf_serve.proofs.listening.take.Goals as goal

-- what holds whatever the result is
on_err : {T E P : Type 0} (result : Result T E) → P → OnErr result P
on_err (Ok x) p = tt
on_err (Err e) p = p

pub returns-in_err-ack-clause-part : goal.returns-in_err-ack-clause-part
returns-in_err-ack-clause-part g c =
    on_err c.from_residual.result (part_gains (g.A.SharedSite.seen c.args.seat.now) (g.A.SharedSite.seen c.take_brought.new.seat) (event_value c.in-Some-open.event)
    c.in-Some-open.ensures.opened.brought c.in_err-ack.ensures.part)

pub returns-in_err-ack-clause-exchanged : goal.returns-in_err-ack-clause-exchanged
returns-in_err-ack-clause-exchanged g c =
    exchanged_part (g.A.SharedSite.seen c.args.seat.now) (g.A.SharedSite.seen c.take_brought.new.seat) c.args.cursors.now c.take_brought.new.cursors (event_value c.in-Some-open.event)
    c.in-Some-open.ensures.opened.brought c.in_err-ack.ensures.part c.in_err-ack.ensures.not_counted

pub returns-clause-exchanged : goal.returns-clause-exchanged
returns-clause-exchanged g c =
    let event = event_value c.in-Some-open.event in
    exchanged_brought (g.A.SharedSite.seen c.args.seat.now) (g.A.SharedSite.seen c.take_brought.new.seat) c.args.cursors.now c.take_brought.new.cursors
    (letter_with c.in-Some-open.heading event) c.in-Some-open.heading.at event
    c.in-Some-open.ensures.opened.brought refl c.in_ok-ack.ensures.whole c.in_ok-ack.ensures.counted
