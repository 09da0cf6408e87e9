-- A conversation under way. A writer's bytes are known or not, as std tells them.
use Rattle.std.specs.Prelude.{◌≡◌, ℕ, true, false, List, [], ◌∷◌, Option, Some, None, Ok, Err, ⊤, ◌⊎◌}
use Rattle.std.specs.List.{AllByRecursion}
use Rattle.std.specs.Io.KnownBytes.{Appends}
use Rattle.dia_codec.specs.Counted.{AppendsPart}
use Rattle.dia_codec.specs.Spelling.{IsFrame}
use Rattle.dia_codec.specs.Stream.{front_of, stream_of}
use Rattle.site_machine.specs.Sites.{SiteValue}
use Rattle.site_core.specs.declared.ended.Ended.{Ended}
use Rattle.site_core.specs.declared.ended.Ended.TheVariants.{Closed, Cut, Disconnected, Frame, ReadFailed, WriteFailed, NoMemory}
use Rattle.site_core.specs.Frames.{answer_of, ends, after}
use Rattle.site_core.specs.Conversations.{after_all, answers, GoesOn}

-- first frames were served whole, none of them ended the stream, and the rest is left
pub record Went (old : SiteValue) (stream : List ℕ) (from : Option (List ℕ)) (rest : List ℕ) (new : SiteValue) (to : Option (List ℕ)) : Type 0 where
  pub frames : List (List ℕ)
  pub whole : stream ≡ stream_of frames rest
  pub each : AllByRecursion IsFrame frames
  pub on : GoesOn old frames
  pub site : new ≡ after_all old frames
  pub written : Appends from to (answers old frames)

-- one frame was served, or memory ran out before or after
abbrev pub Turned : SiteValue → List ℕ → Option (List ℕ) → Option Ended → SiteValue → Option (List ℕ) → Type 0
Turned old frame from None new to = (ends old frame ≡ false) × (new ≡ after old frame) × Appends from to (answer_of old frame)
Turned old frame from (Some Disconnected) new to = (ends old frame ≡ true) × (new ≡ after old frame) × Appends from to (answer_of old frame)
Turned old frame from (Some WriteFailed) new to = (new ≡ after old frame) × AppendsPart from to (answer_of old frame)
Turned old frame from (Some NoMemory) new to = (to ≡ from) × ((new ≡ old) ⊎ (new ≡ after old frame))
Turned old frame from (Some Closed) new to = ⊥
Turned old frame from (Some Cut) new to = ⊥
Turned old frame from (Some (Frame fault)) new to = ⊥
Turned old frame from (Some ReadFailed) new to = ⊥

-- the frame at the front was served
abbrev pub Serves : SiteValue → List ℕ → SiteValue → Type 0
Serves old rest new = (frame : List ℕ) × (more : List ℕ) × (front_of rest ≡ Ok (Some (frame, more))) × (new ≡ after old frame)

-- the last step, on what the frames before it left
abbrev pub Stops : SiteValue → List ℕ → Option (List ℕ) → Ended → SiteValue → Option (List ℕ) → Type 0
Stops old rest from Disconnected new to = (frame : List ℕ) × (more : List ℕ) × (front_of rest ≡ Ok (Some (frame, more))) × (ends old frame ≡ true) × (new ≡ after old frame) × Appends from to (answer_of old frame)
Stops old rest from WriteFailed new to = (frame : List ℕ) × (more : List ℕ) × (front_of rest ≡ Ok (Some (frame, more))) × (new ≡ after old frame) × AppendsPart from to (answer_of old frame)
Stops old rest from (Frame fault) new to = (front_of rest ≡ Err fault) × (new ≡ old) × (to ≡ from)
Stops old rest from Closed new to = (rest ≡ []) × (new ≡ old) × (to ≡ from)
Stops old rest from Cut new to = (byte : ℕ) × (more : List ℕ) × (rest ≡ byte ∷ more) × (front_of rest ≡ Ok None) × (new ≡ old) × (to ≡ from)
Stops old rest from ReadFailed new to = (new ≡ old) × (to ≡ from)
Stops old rest from NoMemory new to = (to ≡ from) × ((new ≡ old) ⊎ Serves old rest new)

-- frames were served, and then came the last step
pub record Conversed (old : SiteValue) (stream : List ℕ) (from : Option (List ℕ)) (end : Ended) (new : SiteValue) (to : Option (List ℕ)) : Type 0 where
  pub rest : List ℕ
  pub site : SiteValue
  pub mid : Option (List ℕ)
  pub went : Went old stream from rest site mid
  pub stops : Stops site rest mid end new to

-- the end comes by the bytes that were read, whatever follows them
abbrev pub IsMidway : Ended → Type 0
IsMidway Closed = ⊥
IsMidway Cut = ⊥
IsMidway ReadFailed = ⊥
IsMidway Disconnected = ⊤
IsMidway (Frame fault) = ⊤
IsMidway WriteFailed = ⊤
IsMidway NoMemory = ⊤
