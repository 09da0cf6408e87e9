-- Requests, events and replies as the definitions have them.
use Rattle.std.specs.Prelude.{ℕ, Bool, false}
use Rattle.std.proofs.Common.{option_map}
use Rattle.pcrf_model.specs.Tables.{Tables}
use Rattle.pcrf_model.specs.Holdings.{Holding}
use Rattle.pcrf_model.specs.Requests.{RequestValue}
use Rattle.pcrf_model.specs.Requests as requests
use Rattle.pcrf_model.specs.Replies.{ReplyValue}
use Rattle.pcrf_model.specs.Replies as replies
use Rattle.pcrf_model.specs.Pushing.{lacks_counter}
use Rattle.pcrf_model.specs.Aborting.{lacks_counter_to_abort}
use Rattle.pcrf_model.specs.Retelling.{lacks_counter_to_retell}
use Rattle.pcrf_model.specs.Steps.{SiteEvent}
use Rattle.pcrf_model.specs.Steps as events
use Rattle.pcrf_model.specs.ReplyViews.{push_view}
use Rattle.gx_profile.specs.Requests.{ccr_view}
use Rattle.rx_profile.specs.Aborts.{abort_view}
use Rattle.rx_profile.specs.Requests.{aar_view}
use Rattle.rx_profile.specs.Terminations.{str_view}
use Rattle.dia_base.specs.NeighbourRequests.{base_view}
use Rattle.site_machine.specs.Replies.{gx_reply_value}
use Rattle.site_machine.specs.declared.request.Request.{Request}
use Rattle.site_machine.specs.declared.request.Request.TheVariants as request
use Rattle.site_machine.specs.declared.event.Event.{Event}
use Rattle.site_machine.specs.declared.event.Event.TheVariants as event
use Rattle.site_machine.specs.declared.event.Reply.{Reply}
use Rattle.site_machine.specs.declared.event.Reply.TheVariants as reply

-- a request
abbrev pub request_value : Request → RequestValue
request_value (request.Ccr q) = requests.Ccr (ccr_view q)
request_value (request.Aar q) = requests.Aar (aar_view q)
request_value (request.Str q) = requests.Str (str_view q)
request_value (request.Base q) = requests.Base (base_view q)

-- an event
abbrev pub event_value : Event → SiteEvent
event_value (event.Serve q) = events.Serve (request_value q)
event_value (event.Push name) = events.Push name
event_value (event.Abort name) = events.Abort name
event_value (event.Retell session) = events.Retell session
event_value (event.Ops operations) = events.Ops operations.items
event_value (event.Whole state) = events.Whole state
event_value (event.AskOwn from) = events.AskOwn from
event_value event.AskWhole = events.AskWhole

-- a reply
abbrev pub reply_value : Reply → ReplyValue
reply_value (reply.Gx r) = gx_reply_value r
reply_value reply.Done = replies.Done
reply_value (reply.Refused r) = replies.Refused r
reply_value (reply.Base code) = replies.OnBase code
reply_value (reply.Pushed push) = replies.Pushed (option_map push_view push)
reply_value (reply.Aborted abort) = replies.Aborted (option_map abort_view abort)
reply_value (reply.Retold done) = replies.Retold done
reply_value (reply.Taken count) = replies.Taken count
reply_value (reply.Own operations length) = replies.Own operations.items length
reply_value (reply.Copy state length) = replies.Copy state length

-- the event pushes what is due, aborts a session that is abandoned, or retells what a gateway was told,
-- and no counter is left for it
abbrev pub event_lacks_counter : Tables → ℕ → Holding → SiteEvent → Bool
event_lacks_counter t i h (events.Push name) = lacks_counter t i h name
event_lacks_counter t i h (events.Abort name) = lacks_counter_to_abort i h name
event_lacks_counter t i h (events.Retell session) = lacks_counter_to_retell h session
event_lacks_counter t i h e = false
