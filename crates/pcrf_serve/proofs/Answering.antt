-- A frame that is answered gives its seat one more receipt, or none.
use Rattle.std.proofs.Common.{ℕ, Bool, List, inl, inr, sym, subst, ap}
use Rattle.dia_codec.specs.declared.message.Header.{Header}
use Rattle.dia_base.specs.declared.identity.Identity.{Identity}
use Rattle.pcrf_model.specs.Replies.{ReplyValue}
use Rattle.pcrf_model.specs.Requests.{RequestValue}
use Rattle.pcrf_model.specs.Steps.{Serve}
use Rattle.site_lock.specs.Books.{ReceiptValue, SeatValue}
use Rattle.pcrf_serve.specs.Events.{IsPushToHost, IsServed}
use Rattle.site_core.specs.Asking.{AskedValue, ToServe, ToRefuse, Nothing}
use Rattle.site_core.specs.Realms.{meaning_at}
use Rattle.site_core.specs.Frames.{Answers, AnswersFrame, Unanswered}
use Rattle.site_core.specs.Frames as frames
use Rattle.pcrf_serve.specs.Earlier.{Gains}
use Rattle.pcrf_serve.proofs.Chains.{gains_equal, gains_called, gains_weaker}
use Rattle.pcrf_serve.specs.Serving.{GainsReply, IsOfConnection}

-- what a connection makes happen, as receipts have it
abbrev pub IsOfWorker : ReceiptValue → Type 0
IsOfWorker r = IsOfConnection r.event

-- a call that serves a request
pub reply_gained : (s t : SeatValue) (request : RequestValue) (reply : ReplyValue) → GainsReply s request reply t → Gains IsOfWorker s t
reply_gained s t request reply g = gains_called IsOfWorker s t (Serve request) reply g (λ r e _. inl (subst IsServed (sym e) tt))

-- pushes
pub pushes_gained : (s t : SeatValue) → Gains (λ r. IsPushToHost r.event) s t → Gains IsOfWorker s t
pushes_gained s t g = gains_weaker (λ r. IsPushToHost r.event) IsOfWorker s t (λ r is. inr is) g

-- a request that is served, or for which there is no room
pub served_gained : {A : Type 0} (seat : A → SeatValue) (names : A → Identity) (may : A → RequestValue → ReplyValue → A → Type 0) (full : A → Type 0)
    → ((old new : A) (request : RequestValue) (reply : ReplyValue) → may old request reply new → Gains IsOfWorker (seat old) (seat new))
    → (old : A) (header : Header) (request : RequestValue) (bytes : List ℕ) (last : Bool) (new : A)
    → frames.IsServed names may full old header request bytes last new → Gains IsOfWorker (seat old) (seat new)
served_gained seat names may full step old header request bytes last new (inl served) = step old new request served.0 served.1
served_gained seat names may full step old header request bytes last new (inr busy) = gains_equal IsOfWorker (seat old) (seat new) (ap seat busy.1)

-- whatever a frame asks for
pub answered_gained : {A : Type 0} (seat : A → SeatValue) (names : A → Identity) (may : A → RequestValue → ReplyValue → A → Type 0) (full : A → Type 0)
    → ((old new : A) (request : RequestValue) (reply : ReplyValue) → may old request reply new → Gains IsOfWorker (seat old) (seat new))
    → (old : A) (asked : AskedValue) (bytes : List ℕ) (last : Bool) (new : A)
    → Answers names may full old asked bytes last new → Gains IsOfWorker (seat old) (seat new)
answered_gained seat names may full step old (ToServe header request) bytes last new a = served_gained seat names may full step old header request bytes last new a
answered_gained seat names may full step old (ToRefuse header session refusal) bytes last new a = gains_equal IsOfWorker (seat old) (seat new) (ap seat a.0)
answered_gained seat names may full step old Nothing bytes last new a = gains_equal IsOfWorker (seat old) (seat new) (ap seat a.0)

-- a frame, in whatever form it is answered
pub frame_gained : {A : Type 0} (seat : A → SeatValue) (names : A → Identity) (may : A → RequestValue → ReplyValue → A → Type 0) (full : A → Type 0)
    → ((old new : A) (request : RequestValue) (reply : ReplyValue) → may old request reply new → Gains IsOfWorker (seat old) (seat new))
    → (old : A) (frame : List ℕ) (bytes : List ℕ) (last : Bool) (new : A)
    → AnswersFrame names may full old frame bytes last new → Gains IsOfWorker (seat old) (seat new)
frame_gained seat names may full step old frame bytes last new a = answered_gained seat names may full step old (meaning_at (names old) frame) a.0 last new a.1

-- a request that may have been served without an answer
pub perhaps_gained : {A : Type 0} (seat : A → SeatValue) (may : A → RequestValue → ReplyValue → A → Type 0)
    → ((old new : A) (request : RequestValue) (reply : ReplyValue) → may old request reply new → Gains IsOfWorker (seat old) (seat new))
    → (old : A) (header : Header) (request : RequestValue) (new : A)
    → Unanswered may old (ToServe header request) new → Gains IsOfWorker (seat old) (seat new)
perhaps_gained seat may step old header request new (inl same) = gains_equal IsOfWorker (seat old) (seat new) (ap seat same)
perhaps_gained seat may step old header request new (inr served) = step old new request served.0 served.1

-- whatever was asked for
pub unanswered_gained : {A : Type 0} (seat : A → SeatValue) (may : A → RequestValue → ReplyValue → A → Type 0)
    → ((old new : A) (request : RequestValue) (reply : ReplyValue) → may old request reply new → Gains IsOfWorker (seat old) (seat new))
    → (old : A) (asked : AskedValue) (new : A)
    → Unanswered may old asked new → Gains IsOfWorker (seat old) (seat new)
unanswered_gained seat may step old (ToServe header request) new a = perhaps_gained seat may step old header request new a
unanswered_gained seat may step old (ToRefuse header session refusal) new a = gains_equal IsOfWorker (seat old) (seat new) (ap seat a)
unanswered_gained seat may step old Nothing new a = gains_equal IsOfWorker (seat old) (seat new) (ap seat a)
