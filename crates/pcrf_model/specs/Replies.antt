-- What a site replies to an event, and what the event adds to it.
use Rattle.std.specs.Prelude.{ℕ, Bool, List, Option}
use Rattle.pcrf_values.specs.declared.default_quality.DefaultQuality.{DefaultQuality}
use Rattle.pcrf_values.specs.declared.refusal.Refusal.{Refusal}
use Rattle.pcrf_values.specs.RuleValues.{DeltaValue}
use Rattle.pcrf_model.specs.Holdings.{Holding}
use Rattle.pcrf_model.specs.Operations.{Operation}

-- to a credit control request: granted, with a difference and the default quality of service (TS 29.212, 5.6.3), or rejected
pub data GxReplyValue : Type 0 where
  Granted : DeltaValue → Option DefaultQuality → GxReplyValue
  Rejected : Refusal → GxReplyValue

-- What is pushed by a re-authorisation request (TS 29.212, 5.6.4): the Session-Id, the host and the realm of the session, and entries of its difference.
pub record PushValue : Type 0 where
  pub session : List ℕ
  pub host : List ℕ
  pub realm : List ℕ
  pub delta : DeltaValue

-- What an abort session request asks of an application function (TS 29.214, 5.6.7): the Session-Id,
-- the host and the realm of the session.
pub record AbortValue : Type 0 where
  pub session : List ℕ
  pub host : List ℕ
  pub realm : List ℕ

-- To a request: on Gx; on Rx done or refused; of the base protocol a Result-Code. What was pushed, if
-- anything. That so many operations stand taken; a state that was taken is done. Own operations, or a
-- copy of all that is kept, each with the length of the log. Which session was aborted, if one was.
-- Whether what a gateway was told counts as not there now; not where nothing was to be done.
pub data ReplyValue : Type 0 where
  OnGx : GxReplyValue → ReplyValue
  Done : ReplyValue
  Refused : Refusal → ReplyValue
  OnBase : ℕ → ReplyValue
  Pushed : Option PushValue → ReplyValue
  Taken : ℕ → ReplyValue
  Own : List Operation → ℕ → ReplyValue
  Copy : Holding → ℕ → ReplyValue
  Aborted : Option AbortValue → ReplyValue
  Retold : Bool → ReplyValue

-- a reply, and the operation that is added, if one is
pub record Outcome : Type 0 where
  pub reply : ReplyValue
  pub added : Option Operation
