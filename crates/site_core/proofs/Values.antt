-- What a site answers, of all that whoever serves requests may answer.
use Rattle.std.proofs.Common.{◌≡◌, ℕ, Bool, false, List, [], Option, Some, None, ◌⊎◌, inl, inr, refl, ap, ◌∙◌}
use Rattle.pcrf_model.specs.Operations.{Operation}
use Rattle.pcrf_model.specs.Replies.{ReplyValue}
use Rattle.pcrf_model.specs.Requests.{RequestValue}
use Rattle.dia_base.specs.declared.identity.Identity.{Identity}
use Rattle.dia_codec.specs.declared.message.Header.{Header}
use Rattle.site_machine.specs.Sites.{SiteValue, serve_outcome, with_made}
use Rattle.site_core.specs.Answering.{answer_to}
use Rattle.site_core.specs.Asking.{AskedValue, ToServe, ToRefuse, Nothing}
use Rattle.site_core.specs.Realms.{meaning_at}
use Rattle.site_core.specs.Completing.{completed, completion_of}
use Rattle.site_core.specs.Frames.{Answers, AnswersFrame, IsServed, NeverFull, Unanswered, SiteReplies, disconnects, answer_by, ends_by, after_by, answer_of, ends, after}

-- an operation changes no names
same_names : (s : SiteValue) (o : Option Operation) → (with_made s o).identity ≡ s.identity
same_names s None = refl
same_names s (Some o) = refl

-- a site's names
abbrev names : SiteValue → Identity
names s = s.identity

-- what a site answered, whether the stream ends with it, and the site after it
abbrev Answered : SiteValue → AskedValue → List ℕ → Bool → SiteValue → Type 0
Answered old asked bytes last new = (bytes ≡ answer_by old asked) × (last ≡ ends_by old asked) × (new ≡ after_by old asked)

-- it served a request
serves : (old : SiteValue) (h : Header) (q : RequestValue) (r : ReplyValue) (bytes : List ℕ) (last : Bool) (new : SiteValue) → SiteReplies old q r new → bytes ≡ answer_to new.identity h q r → last ≡ disconnects q r → Answered old (ToServe h q) bytes last new
serves old h q r bytes last new replied wrote ends =
    let same : new.identity ≡ old.identity = ap names replied.1 ∙ same_names old (serve_outcome old q).added in
    (wrote ∙ ap (λ (i : Identity). answer_to i h q r) same ∙ ap (answer_to old.identity h q) replied.0, ends ∙ ap (disconnects q) replied.0, replied.1)

answered_by : (old : SiteValue) (asked : AskedValue) (bytes : List ℕ) (last : Bool) (new : SiteValue) → Answers names SiteReplies NeverFull old asked bytes last new → Answered old asked bytes last new
answered_by old (ToServe h q) bytes last new (inl a) = serves old h q a.0 bytes last new a.1 a.2 a.3
answered_by old (ToServe h q) bytes last new (inr a) = absurd a.0
answered_by old (ToRefuse h session refusal) bytes last new a = (a.1, a.2, a.0)
answered_by old Nothing bytes last new a = (a.1, a.2, a.0)

-- nothing that is asked changes its names
names_after : (old : SiteValue) (asked : AskedValue) → names (after_by old asked) ≡ names old
names_after old (ToServe h q) = same_names old (serve_outcome old q).added
names_after old (ToRefuse h session refusal) = refl
names_after old Nothing = refl

-- a frame was answered
pub site_answers : (old : SiteValue) (frame : List ℕ) (bytes : List ℕ) (last : Bool) (new : SiteValue) → AnswersFrame names SiteReplies NeverFull old frame bytes last new → (bytes ≡ answer_of old frame) × (last ≡ ends old frame) × (new ≡ after old frame)
unfolding answer_of ends after
site_answers old frame bytes last new a =
    let asked : AskedValue = meaning_at (names old) frame in
    let plain = answered_by old asked a.0 last new a.1 in
    let same : names new ≡ names old = ap names plain.2 ∙ names_after old asked in
    (a.2 ∙ ap (λ (i : Identity). completed i (completion_of asked) frame a.0) same ∙ ap (completed old.identity (completion_of asked) frame) plain.0, plain.1, plain.2)

unanswered_by : (old : SiteValue) (asked : AskedValue) (new : SiteValue) → Unanswered SiteReplies old asked new → (new ≡ old) ⊎ (new ≡ after_by old asked)
unanswered_by old (ToServe h q) new (inl same) = inl same
unanswered_by old (ToServe h q) new (inr serve_outcome) = inr serve_outcome.1.1
unanswered_by old (ToRefuse h session refusal) new same = inl same
unanswered_by old Nothing new same = inl same

-- there was no answer to it
pub site_unanswered : (old : SiteValue) (frame : List ℕ) (new : SiteValue) → Unanswered SiteReplies old (meaning_at (names old) frame) new → (new ≡ old) ⊎ (new ≡ after old frame)
unfolding after
site_unanswered old frame new u = unanswered_by old (meaning_at (names old) frame) new u
