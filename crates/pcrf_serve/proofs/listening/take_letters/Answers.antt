use Rattle.pcrf_serve.proofs.Following.{exchanged_then}
use Rattle.pcrf_serve.proofs.listening.take_letters.Goals as goal

pub returns-in_err-take_letter : goal.returns-in_err-take_letter
returns-in_err-take_letter g c =
    exchanged_then (g.A.SharedSite.seen c.args.seat.now) (g.A.SharedSite.seen c.loop-message.seat) (g.A.SharedSite.seen c.take_letter.new.seat)
    c.args.cursors.now.makers c.loop-message.cursors.makers c.take_letter.new.cursors.makers
    c.loop-message.invariant c.take_letter.ensures

pub loop-message-preserved : goal.loop-message-preserved
loop-message-preserved g c =
    exchanged_then (g.A.SharedSite.seen c.args.seat.now) (g.A.SharedSite.seen c.loop-message.seat) (g.A.SharedSite.seen c.take_letter.new.seat)
    c.args.cursors.now.makers c.loop-message.cursors.makers c.take_letter.new.cursors.makers
    c.loop-message.invariant c.take_letter.ensures
