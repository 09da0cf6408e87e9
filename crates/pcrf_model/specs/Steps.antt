-- The step of a site for every event, and the replay of a history.
use Rattle.std.specs.Prelude.{◌≡◌, ℕ, ◌≤◌, false, List, [], ◌∷◌, ◌++◌, take, drop, length, Option, Some, None}
use Rattle.pcrf_values.specs.Limits.{range_limit}
use Rattle.pcrf_model.specs.Holdings.{Holding, union, kept_of}
use Rattle.pcrf_model.specs.Operations.{Operation, holding_of}
use Rattle.pcrf_model.specs.Tables.{Tables}
use Rattle.pcrf_model.specs.Requests.{RequestValue}
use Rattle.pcrf_model.specs.Replies.{ReplyValue, Done, Taken, Own, Copy}
use Rattle.pcrf_model.specs.Serving.{serve, with_added}
use Rattle.pcrf_model.specs.Pushing.{push, lacks_counter}
use Rattle.pcrf_model.specs.Aborting.{abort, lacks_counter_to_abort}
use Rattle.pcrf_model.specs.Retelling.{retell, lacks_counter_to_retell}

-- A request to serve; something to push to a host, any where none is named; operations, or the whole
-- state of another site, to take in; the site's own operations from a position on, or its whole state,
-- asked for; a session to abort at a host, any where none is named; a gateway's session, of which
-- what the gateway was told is to count as not there.
pub data SiteEvent : Type 0 where
  Serve : RequestValue → SiteEvent
  Push : Option (List ℕ) → SiteEvent
  Ops : List Operation → SiteEvent
  Whole : Holding → SiteEvent
  AskOwn : ℕ → SiteEvent
  AskWhole : SiteEvent
  Abort : Option (List ℕ) → SiteEvent
  Retell : List ℕ → SiteEvent

-- what a site holds, and the operations that it made itself, in order
pub record SiteState : Type 0 where
  pub holding : Holding
  pub log : List Operation

-- without the overshadowed facts
abbrev pub kept_state : SiteState → SiteState
kept_state s = record s { holding = kept_of s.holding }

-- with an operation of its own, if there is one
abbrev pub with_own : SiteState → Option Operation → SiteState
with_own s None = s
with_own s (Some o) = record { holding = with_added s.holding (Some o); log = s.log ++ o ∷ [] }

-- its own operations from a position on, as many as are answered at once
abbrev pub own_from : List Operation → ℕ → List Operation
own_from log p = take range_limit (drop p log)

-- The replies that site i may give to the event, where a message tells at most so many entries of a difference. Of operations to take in it may take
-- the first alone.
abbrev pub MayReply : ℕ → Tables → ℕ → SiteState → SiteEvent → ReplyValue → Type 0
MayReply most t i s (Serve q) r = r ≡ (serve most t i s.holding q).reply
MayReply most t i s (Push name) r = (lacks_counter t i s.holding name ≡ false) × (r ≡ (push most t i s.holding name).reply)
MayReply most t i s (Ops os) r = (n : ℕ) × (n ≤ length os) × (r ≡ Taken n)
MayReply most t i s (Whole k) r = r ≡ Done
MayReply most t i s (AskOwn p) r = r ≡ Own (own_from s.log p) (length s.log)
MayReply most t i s AskWhole r = r ≡ Copy (kept_of s.holding) (length s.log)
MayReply most t i s (Abort name) r =
    (lacks_counter_to_abort i s.holding name ≡ false) × (r ≡ (abort i s.holding name).reply)
MayReply most t i s (Retell id) r =
    (lacks_counter_to_retell s.holding id ≡ false) × (r ≡ (retell i s.holding id).reply)

-- the site after the event to which it gave that reply
abbrev pub state_after : ℕ → Tables → ℕ → SiteState → SiteEvent → ReplyValue → SiteState
state_after most t i s (Serve q) r = with_own s (serve most t i s.holding q).added
state_after most t i s (Push name) r = with_own s (push most t i s.holding name).added
state_after most t i s (Ops os) (Taken n) = record s { holding = union s.holding (holding_of (take n os)) }
state_after most t i s (Whole k) r = record s { holding = union s.holding k }
state_after most t i s (Abort name) r = with_own s (abort i s.holding name).added
state_after most t i s (Retell id) r = with_own s (retell i s.holding id).added
state_after most t i s e r = s

-- the site after the event, with what is kept of what it then holds
abbrev pub kept_state_after : ℕ → Tables → ℕ → SiteState → SiteEvent → ReplyValue → SiteState
kept_state_after most t i s e r = kept_state (state_after most t i s e r)

-- the events with their replies, in order, lead from the first state to the second, each site keeping after each what isn't overshadowed
abbrev pub Replays : ℕ → Tables → ℕ → SiteState → List (SiteEvent × ReplyValue) → SiteState → Type 0
Replays most t i s [] z = s ≡ z
Replays most t i s (x ∷ xs) z = MayReply most t i s x.0 x.1 × Replays most t i (kept_state_after most t i s x.0 x.1) xs z
