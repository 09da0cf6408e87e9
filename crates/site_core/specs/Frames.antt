-- What is answered to a frame, by whoever serves requests, and by a site, which then is another.
use Rattle.std.specs.Prelude.{◌≡◌, ℕ, Bool, true, false, ◌&&◌, ◌==◌, List, [], ◌⊎◌}
use Rattle.pcrf_values.specs.Results.{success}
use Rattle.pcrf_model.specs.Replies.{ReplyValue, OnBase}
use Rattle.pcrf_model.specs.Requests.{BaseKind, CapabilitiesExchange, DeviceWatchdog, DisconnectPeer, RequestValue, Base}
use Rattle.dia_codec.specs.declared.message.Header.{Header}
use Rattle.dia_base.specs.declared.identity.Identity.{Identity}
use Rattle.site_core.specs.Answering.{answer_to, busy_answer, refusal_bytes}
use Rattle.site_core.specs.Asking.{AskedValue, ToServe, ToRefuse, Nothing}
use Rattle.site_core.specs.Realms.{meaning_at}
use Rattle.site_core.specs.Completing.{completed, completion_of}
use Rattle.site_machine.specs.Sites.{SiteValue, serve_outcome, with_made}

-- ---- the end of the connection

-- this asks for it (RFC 6733, 5.4.1)
abbrev pub is_disconnect : BaseKind → Bool
is_disconnect (CapabilitiesExchange applications) = false
is_disconnect DeviceWatchdog = false
is_disconnect DisconnectPeer = true

-- a request asks for it
abbrev pub asks_to_disconnect : RequestValue → Bool
asks_to_disconnect (Base q) = is_disconnect q.kind
asks_to_disconnect q = false

-- a request of the base protocol succeeds (7.1.2)
abbrev pub succeeds : ReplyValue → Bool
succeeds (OnBase code) = code == success
succeeds reply = false

-- it is granted
abbrev pub disconnects : RequestValue → ReplyValue → Bool
disconnects request reply = asks_to_disconnect request && succeeds reply

-- ---- by whoever serves requests under these names: these may be its replies, and so it stands where it has no room for a request

-- A request gets a reply that it may get; or, where there is no room for it, it is refused as one that comes while its peer is busy, and changes nothing.
abbrev pub IsServed : {A : Type 0} → (A → Identity) → (A → RequestValue → ReplyValue → A → Type 0) → (A → Type 0) → A → Header → RequestValue → List ℕ → Bool → A → Type 0
IsServed names may full old header request bytes last new =
    ((reply : ReplyValue) × may old request reply new × (bytes ≡ answer_to (names new) header request reply) × (last ≡ disconnects request reply))
    ⊎ (full old × (new ≡ old) × (bytes ≡ busy_answer (names old) header request) × (last ≡ false))

-- What is asked is done, and answered by these bytes, none where nothing is asked; the stream ends with it or goes on. Nothing but a request that is
-- served changes anything.
abbrev pub Answers : {A : Type 0} → (A → Identity) → (A → RequestValue → ReplyValue → A → Type 0) → (A → Type 0) → A → AskedValue → List ℕ → Bool → A → Type 0
Answers names may full old (ToServe header request) bytes last new = IsServed names may full old header request bytes last new
Answers names may full old (ToRefuse header session refusal) bytes last new =
    (new ≡ old) × (bytes ≡ refusal_bytes (names old) header session refusal) × (last ≡ false)
Answers names may full old Nothing bytes last new = (new ≡ old) × (bytes ≡ []) × (last ≡ false)

-- What a frame asks for is done, and answered by these bytes, in the form of whoever answers.
abbrev pub AnswersFrame : {A : Type 0} → (A → Identity) → (A → RequestValue → ReplyValue → A → Type 0) → (A → Type 0) → A → List ℕ → List ℕ → Bool → A → Type 0
AnswersFrame names may full old frame bytes last new =
    (plain : List ℕ) × Answers names may full old (meaning_at (names old) frame) plain last new
    × (bytes ≡ completed (names new) (completion_of (meaning_at (names old) frame)) frame plain)

-- There is no answer: nothing was done, or a request was served.
abbrev pub Unanswered : {A : Type 0} → (A → RequestValue → ReplyValue → A → Type 0) → A → AskedValue → A → Type 0
Unanswered may old (ToServe header request) new = (new ≡ old) ⊎ ((reply : ReplyValue) × may old request reply new)
Unanswered may old asked new = new ≡ old

-- ---- by a site

-- it has room for each request
abbrev pub NeverFull : {A : Type 0} → A → Type 0
NeverFull s = ⊥

-- the one reply that it gives, and the site after it
abbrev pub SiteReplies : SiteValue → RequestValue → ReplyValue → SiteValue → Type 0
SiteReplies s request reply new = (reply ≡ (serve_outcome s request).reply) × (new ≡ with_made s (serve_outcome s request).added)

-- the bytes of the answer, none where nothing is asked
abbrev pub answer_by : SiteValue → AskedValue → List ℕ
answer_by s (ToServe header request) = answer_to s.identity header request (serve_outcome s request).reply
answer_by s (ToRefuse header session refusal) = refusal_bytes s.identity header session refusal
answer_by s Nothing = []

-- the stream ends with it
abbrev pub ends_by : SiteValue → AskedValue → Bool
ends_by s (ToServe header request) = disconnects request (serve_outcome s request).reply
ends_by s (ToRefuse header session refusal) = false
ends_by s Nothing = false

-- the site after it
abbrev pub after_by : SiteValue → AskedValue → SiteValue
after_by s (ToServe header request) = with_made s (serve_outcome s request).added
after_by s (ToRefuse header session refusal) = s
after_by s Nothing = s

-- ---- by a frame

-- the bytes of the answer
unfoldable pub answer_of : SiteValue → List ℕ → List ℕ
answer_of s frame = completed s.identity (completion_of (meaning_at s.identity frame)) frame (answer_by s (meaning_at s.identity frame))

-- the stream ends with it: it is a request for the end of the connection that succeeds
unfoldable pub ends : SiteValue → List ℕ → Bool
ends s frame = ends_by s (meaning_at s.identity frame)

-- the site after it
unfoldable pub after : SiteValue → List ℕ → SiteValue
after s frame = after_by s (meaning_at s.identity frame)
