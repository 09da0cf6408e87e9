use Rattle.site_lock.specs.Values.{event_value}
use Rattle.pcrf_serve.proofs.Asking.{asked_gains}
use Rattle.pcrf_serve.proofs.dialing.next_letter.Goals as goal

pub returns-in-Err-clause-idle : goal.returns-in-Err-clause-idle
returns-in-Err-clause-idle g c =
    asked_gains c.args.cursors.now c.args.first (g.A.SharedSite.seen c.args.seat.now) (g.A.SharedSite.seen c.ask-asked.new.seat) (event_value c.next_question-question.result.event)
    c.next_question-question.ensures.event c.ask-asked.ensures.asked

pub returns-in-BegunAnew-clause-idle : goal.returns-in-BegunAnew-clause-idle
returns-in-BegunAnew-clause-idle g c =
    asked_gains c.args.cursors.now c.args.first (g.A.SharedSite.seen c.args.seat.now) (g.A.SharedSite.seen c.ask-asked.new.seat) (event_value c.next_question-question.result.event)
    c.next_question-question.ensures.event c.ask-asked.ensures.asked

pub returns-in-Some-clause-idle : goal.returns-in-Some-clause-idle
returns-in-Some-clause-idle g c =
    asked_gains c.args.cursors.now c.args.first (g.A.SharedSite.seen c.args.seat.now) (g.A.SharedSite.seen c.ask-asked.new.seat) (event_value c.next_question-question.result.event)
    c.next_question-question.ensures.event c.ask-asked.ensures.asked

pub returns-in-None-clause-idle : goal.returns-in-None-clause-idle
returns-in-None-clause-idle g c =
    asked_gains c.args.cursors.now c.args.first (g.A.SharedSite.seen c.args.seat.now) (g.A.SharedSite.seen c.ask-asked.new.seat) (event_value c.next_question-question.result.event)
    c.next_question-question.ensures.event c.ask-asked.ensures.asked
