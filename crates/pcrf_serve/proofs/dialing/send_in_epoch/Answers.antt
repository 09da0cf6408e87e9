use Rattle.std.proofs.Common.{◌∙◌}
use Rattle.pcrf_serve.proofs.Chains.{gains_then}
use Rattle.pcrf_serve.specs.Exchanging.{IsIdle}
use Rattle.pcrf_serve.proofs.Epochs.{counted_either}
use Rattle.pcrf_serve.proofs.dialing.send_in_epoch.Goals as goal

pub returns-in_err-ack : goal.returns-in_err-ack
returns-in_err-ack g c =
    let same = counted_either c.loop-message.cursors c.send_letter.new.cursors c.send_letter.result c.send_letter.ensures.counted c.send_letter.ensures.not_counted in
    record {
      makers = same.0 ∙ c.loop-message.invariant.makers;
      idle =
          gains_then IsIdle (g.A.SharedSite.seen c.args.seat.now) (g.A.SharedSite.seen c.loop-message.seat) (g.A.SharedSite.seen c.send_letter.new.seat)
          c.loop-message.invariant.idle c.send_letter.ensures.idle;
    }

pub returns-in-BegunAnew : goal.returns-in-BegunAnew
returns-in-BegunAnew g c =
    let same = counted_either c.loop-message.cursors c.send_letter.new.cursors c.send_letter.result c.send_letter.ensures.counted c.send_letter.ensures.not_counted in
    record {
      makers = same.0 ∙ c.loop-message.invariant.makers;
      idle =
          gains_then IsIdle (g.A.SharedSite.seen c.args.seat.now) (g.A.SharedSite.seen c.loop-message.seat) (g.A.SharedSite.seen c.send_letter.new.seat)
          c.loop-message.invariant.idle c.send_letter.ensures.idle;
    }

pub returns-in_err-leave : goal.returns-in_err-leave
returns-in_err-leave g c =
    let same = counted_either c.loop-message.cursors c.send_letter.new.cursors c.send_letter.result c.send_letter.ensures.counted c.send_letter.ensures.not_counted in
    record {
      makers = same.0 ∙ c.loop-message.invariant.makers;
      idle =
          gains_then IsIdle (g.A.SharedSite.seen c.args.seat.now) (g.A.SharedSite.seen c.loop-message.seat) (g.A.SharedSite.seen c.send_letter.new.seat)
          c.loop-message.invariant.idle c.send_letter.ensures.idle;
    }

pub loop-message-preserved : goal.loop-message-preserved
loop-message-preserved g c =
    let same = counted_either c.loop-message.cursors c.send_letter.new.cursors c.send_letter.result c.send_letter.ensures.counted c.send_letter.ensures.not_counted in
    record {
      idle =
          gains_then IsIdle (g.A.SharedSite.seen c.args.seat.now) (g.A.SharedSite.seen c.loop-message.seat) (g.A.SharedSite.seen c.send_letter.new.seat)
          c.loop-message.invariant.idle c.send_letter.ensures.idle;
      makers = same.0 ∙ c.loop-message.invariant.makers;
      epoch = same.1 ∙ c.loop-message.invariant.epoch;
    }
