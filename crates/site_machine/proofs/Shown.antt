-- What a reply shows that was handed to a witness.
use Rattle.std.proofs.Common.{Option, None}
use Rattle.pcrf_model.specs.declared.push.PushOut.{PushOut}
use Rattle.rx_profile.specs.declared.abort.AbortOut.{AbortOut}
use Rattle.site_machine.specs.declared.event.Reply.{Reply}
use Rattle.site_machine.specs.declared.event.Reply.TheVariants.{Pushed, Aborted}

-- the push of a reply to a push
abbrev pub push_in : Reply → Option PushOut
push_in (Pushed push) = push
push_in reply = None

-- the abort of a reply to an abort
abbrev pub abort_in : Reply → Option AbortOut
abort_in (Aborted abort) = abort
abort_in reply = None
