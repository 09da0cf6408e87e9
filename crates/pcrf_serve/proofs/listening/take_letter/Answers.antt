use Rattle.pcrf_serve.proofs.Following.{exchanged_pushed}
use Rattle.pcrf_serve.proofs.listening.take_letter.Goals as goal

pub returns-in_err-push_all : goal.returns-in_err-push_all
returns-in_err-push_all g c =
    exchanged_pushed (g.A.SharedSite.seen c.args.seat.now) (g.A.SharedSite.seen c.take.new.seat) (g.A.SharedSite.seen c.push_all.new.seat)
    c.args.cursors.now.makers c.take.new.cursors.makers c.take.ensures.exchanged c.push_all.ensures

pub returns-in_err-acknowledge : goal.returns-in_err-acknowledge
returns-in_err-acknowledge g c =
    exchanged_pushed (g.A.SharedSite.seen c.args.seat.now) (g.A.SharedSite.seen c.take.new.seat) (g.A.SharedSite.seen c.push_all.new.seat)
    c.args.cursors.now.makers c.take.new.cursors.makers c.take.ensures.exchanged c.push_all.ensures

pub returns : goal.returns
returns g c =
    exchanged_pushed (g.A.SharedSite.seen c.args.seat.now) (g.A.SharedSite.seen c.take.new.seat) (g.A.SharedSite.seen c.push_all.new.seat)
    c.args.cursors.now.makers c.take.new.cursors.makers c.take.ensures.exchanged c.push_all.ensures
