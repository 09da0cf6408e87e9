-- What happens in a world and what it answers, as the definitions have them.
use Rattle.std.specs.Prelude.{Result, Ok, Err, List, map}
use Rattle.std.proofs.Common.{option_map}
use Rattle.pcrf_values.specs.Limits.{delta_limit}
use Rattle.pcrf_model.specs.Tables.{Tables}
use Rattle.pcrf_model.specs.Worlds as model
use Rattle.pcrf_model.specs.Worlds.{WorldView, Setting, by_cursors, WorldAnswer}
use Rattle.pcrf_model.specs.ReplyViews.{push_view}
use Rattle.rx_profile.specs.Aborts.{abort_view}
use Rattle.site_machine.specs.Values.{request_value, reply_value}
use Rattle.pcrf_world.specs.declared.world.WorldEvent.{WorldEvent}
use Rattle.pcrf_world.specs.declared.world.WorldEvent.TheVariants as event
use Rattle.pcrf_world.specs.declared.world.WorldOutcome.{WorldOutcome}
use Rattle.pcrf_world.specs.declared.world.WorldOutcome.TheVariants as outcome
use Rattle.pcrf_world.specs.declared.world.WorldFault.{WorldFault}
use Rattle.pcrf_world.specs.declared.world.WorldFault.TheVariants as fault

-- a world: the operator tables of all its sites, and what is seen of it
pub record WorldValue : Type 0 where
  pub tables : Tables
  pub seen : WorldView

-- by these tables, with as many entries of a difference told as a message carries, and with letters that go by cursors
abbrev pub setting : Tables → Setting
setting t = by_cursors t delta_limit

-- an event
abbrev pub event_value : WorldEvent → model.WorldEvent
event_value (event.Serve i q) = model.ServeAt i (request_value q)
event_value (event.Push i name) = model.PushAt i name
event_value (event.Abort i name) = model.AbortAt i name
event_value (event.Retell i session) = model.RetellAt i session
event_value (event.Letter i j) = model.Letter i j
event_value (event.Merge j k) = model.Merge j k
event_value (event.Ack j i) = model.Ack j i
event_value (event.Restart i) = model.Restart i

-- what an event gave
abbrev pub outcome_value : WorldOutcome → model.WorldOutcome
outcome_value (outcome.Replied r) = model.Replied (reply_value r)
outcome_value (outcome.Pushed push) = model.PushedOut (option_map push_view push)
outcome_value (outcome.Aborted abort) = model.AbortedOut (option_map abort_view abort)
outcome_value (outcome.Retold done) = model.RetoldOut done
outcome_value (outcome.Lettered k) = model.Lettered k
outcome_value outcome.Merged = model.Merged
outcome_value (outcome.Restarted e) = model.Restarted e

-- why it gave nothing
abbrev pub fault_value : WorldFault → model.WorldFault
fault_value fault.NoSuchSite = model.NoSuchSite
fault_value fault.NoSuchLetter = model.NoSuchLetter
fault_value fault.EpochFull = model.EpochFull
fault_value fault.ClockFull = model.ClockFull
fault_value (fault.NoMemory n) = model.NoMemory n

-- an answer
abbrev pub answer_value : Result WorldOutcome WorldFault → WorldAnswer
answer_value (Ok x) = Ok (outcome_value x)
answer_value (Err e) = Err (fault_value e)

-- each of them
abbrev pub events_value : List WorldEvent → List model.WorldEvent
events_value = map event_value

-- each of them
abbrev pub answers_value : List (Result WorldOutcome WorldFault) → List WorldAnswer
answers_value = map answer_value
