-- Replies as the definitions have them.
use Rattle.std.specs.Prelude.{Bool, true, false, List, Option}
use Rattle.std.proofs.Common.{option_and_then}
use Rattle.pcrf_values.specs.Facts.{Fact}
use Rattle.pcrf_values.specs.FlowWords.{value_at}
use Rattle.pcrf_values.specs.Held.{entry_shown}
use Rattle.pcrf_values.specs.Places.{apn}
use Rattle.pcrf_values.specs.declared.default_quality.DefaultQuality.{DefaultQuality}
use Rattle.pcrf_values.specs.Limits.{delta_limit}
use Rattle.pcrf_model.specs.Sessions.{Session}
use Rattle.pcrf_model.specs.Views.{View, as_text}
use Rattle.pcrf_model.specs.Tables.{ApnRow, Tables, apn_row}
use Rattle.pcrf_model.specs.Rules.{quality_of}
use Rattle.pcrf_model.specs.Serving.{delta_of}
use Rattle.pcrf_model.specs.Replies.{ReplyValue, OnGx, Granted}
use Rattle.pcrf_model.specs.declared.answer.GxReply.{GxReply}
use Rattle.pcrf_model.specs.ReplyViews.{gx_reply_view}
use Rattle.site_machine.specs.declared.event.Reply.{Reply}
use Rattle.site_machine.specs.declared.event.Reply.TheVariants as reply

-- a reply to a gateway
abbrev pub gx_reply_value : GxReply → ReplyValue
gx_reply_value r = OnGx (gx_reply_view r)

-- the reply to an accepted initial request or update, by what is read with its fields
abbrev pub told_reply : Tables → View → Session → ReplyValue
told_reply t v s = OnGx (Granted (delta_of delta_limit t v s) (quality_of t v s))

-- the default quality of service of the access point that these facts of a session show
abbrev pub quality_shown : Tables → List Fact → Option DefaultQuality
quality_shown t facts = option_and_then (λ (r : ApnRow). r.default) (option_and_then (apn_row t) (option_and_then as_text (value_at (entry_shown facts) apn)))

-- a reply that takes no memory
abbrev pub is_plain : Reply → Bool
is_plain reply.Done = true
is_plain (reply.Refused r) = true
is_plain (reply.Base code) = true
is_plain (reply.Retold done) = true
is_plain (reply.Taken count) = true
is_plain r = false
