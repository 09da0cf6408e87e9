-- What a site tells a gateway, as the definitions have it.
use Rattle.std.specs.Prelude.{Option, Some, None}
use Rattle.pcrf_values.specs.RuleValues.{DeltaValue}
use Rattle.pcrf_values.specs.declared.default_quality.DefaultQuality.{DefaultQuality}
use Rattle.pcrf_values.specs.declared.refusal.Refusal.{Refusal}
use Rattle.pcrf_model.specs.Replies.{GxReplyValue, Granted, Rejected, PushValue}
use Rattle.pcrf_model.specs.Serving.{empty_delta}
use Rattle.pcrf_model.specs.declared.answer.GxReply.{GxReply}
use Rattle.pcrf_model.specs.declared.answer.GxReply.TheVariants as gx_reply
use Rattle.pcrf_model.specs.declared.push.PushOut.{PushOut}

-- ---- an answer to a credit control request

-- the answer, as the definitions have it
abbrev pub gx_reply_view : GxReply → GxReplyValue
gx_reply_view (gx_reply.Granted delta quality) = Granted delta quality
gx_reply_view (gx_reply.Refused refusal) = Rejected refusal

-- the refusal that the reply is, if it is one
abbrev pub reply_refusal : GxReplyValue → Option Refusal
reply_refusal (Granted delta quality) = None
reply_refusal (Rejected refusal) = Some refusal

-- the default quality of service that it tells, if it does
abbrev pub reply_quality : GxReplyValue → Option DefaultQuality
reply_quality (Granted delta quality) = quality
reply_quality (Rejected refusal) = None

-- what it removes and installs: a refusal nothing
abbrev pub reply_delta : GxReplyValue → DeltaValue
reply_delta (Granted delta quality) = delta
reply_delta (Rejected refusal) = empty_delta

-- ---- a push

-- a push, as the definitions have it
abbrev pub push_view : PushOut → PushValue
push_view p = record { session = p.session; host = p.host; realm = p.realm; delta = p.delta }
