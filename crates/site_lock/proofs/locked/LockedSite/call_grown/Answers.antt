use Rattle.site_machine.specs.Values.{event_value}
use Rattle.site_machine.specs.declared.fault.StepFault.TheVariants.{HistoryFull}
use Rattle.site_lock.proofs.Telling.{told_grown}
use Rattle.site_lock.proofs.locked.LockedSite.call_grown.Goals as goal
use Rattle.std.proofs.Common.{rules}

pub returns-clause-past : goal.returns-clause-past
returns-clause-past g c =
    told_grown c.args.past c.deref_mut.result.now (event_value c.args.event.now) c.step-answer.result HistoryFull
    (search rules) c.step-answer.ensures.full c.step-answer.ensures.reply
