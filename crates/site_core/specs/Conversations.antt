-- The answers to a stream: each frame is served on what the frames before it left.
use Rattle.std.specs.Prelude.{◌≡◌, ℕ, ◌-◌, ◌≤◌, List, [], ◌∷◌, ◌++◌, length, take, if◌then◌else◌, ⊤, false, Option}
use Rattle.std.specs.Io.KnownBytes.{Appends}
use Rattle.dia_codec.specs.declared.stream.StreamEnd.{StreamEnd}
use Rattle.dia_codec.specs.declared.stream.StreamEnd.TheVariants as streams
use Rattle.site_machine.specs.Sites.{SiteValue}
use Rattle.site_core.specs.declared.ended.Ended.{Ended}
use Rattle.site_core.specs.declared.ended.Ended.TheVariants.{Closed, Cut, Disconnected, Frame, ReadFailed, WriteFailed, NoMemory}
use Rattle.site_core.specs.Cuts.{cut_of, first}
use Rattle.site_core.specs.Frames.{answer_of, ends, after}

-- ---- the whole conversation

-- what is written, how the stream ends, and the site after it
pub record Conversation : Type 0 where
  pub bytes : List ℕ
  pub ended : Ended
  pub site : SiteValue

-- how a stream ends whose frames were all served
abbrev pub ended_by : StreamEnd → Ended
ended_by streams.Whole = Closed
ended_by streams.Cut = Cut
ended_by (streams.Bad fault) = Frame fault

-- these bytes, and then a conversation
abbrev pub prepend : List ℕ → Conversation → Conversation
prepend bytes c = record { bytes = bytes ++ c.bytes; ended = c.ended; site = c.site }

-- frame after frame, up to one that ends the stream
abbrev pub conversation : SiteValue → List (List ℕ) → StreamEnd → Conversation
conversation site [] end = record { bytes = []; ended = ended_by end; site = site }
conversation site (frame ∷ frames) end =
    if ends site frame then record { bytes = answer_of site frame; ended = Disconnected; site = after site frame }
    else prepend (answer_of site frame) (conversation (after site frame) frames end)

-- that of a stream
unfoldable pub conversation_of : SiteValue → List ℕ → Conversation
conversation_of site stream = conversation site (cut_of stream).frames (cut_of stream).end

-- the stream's own end, and no failure
abbrev pub IsEnd : Ended → Type 0
IsEnd Closed = ⊤
IsEnd Cut = ⊤
IsEnd Disconnected = ⊤
IsEnd (Frame fault) = ⊤
IsEnd ReadFailed = ⊥
IsEnd WriteFailed = ⊥
IsEnd NoMemory = ⊥

-- ---- the first frames

-- the site after frames
abbrev pub after_all : SiteValue → List (List ℕ) → SiteValue
after_all site [] = site
after_all site (frame ∷ frames) = after_all (after site frame) frames

-- the bytes of their answers
abbrev pub answers : SiteValue → List (List ℕ) → List ℕ
answers site [] = []
answers site (frame ∷ frames) = answer_of site frame ++ answers (after site frame) frames

-- none of them ends the stream
abbrev pub GoesOn : SiteValue → List (List ℕ) → Type 0
GoesOn site [] = ⊤
GoesOn site (frame ∷ frames) = (ends site frame ≡ false) × GoesOn (after site frame) frames

-- A stream's first k frames were served, of which only the last may end it. A first part of their answers was written, which has all but
-- the last whole.
pub record ServesSome (old : SiteValue) (stream : List ℕ) (new : SiteValue) (from to : Option (List ℕ)) : Type 0 where
  pub k : ℕ
  pub count : ℕ
  pub there : k ≤ length (cut_of stream).frames
  pub on : GoesOn old (first (k - 1) stream)
  pub site : new ≡ after_all old (first k stream)
  pub part : Appends from to (take count (answers old (first k stream)))
  pub least : length (answers old (first (k - 1) stream)) ≤ count
