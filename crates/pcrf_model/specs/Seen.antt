-- What is seen of a world after an event, by the answer and by what was seen of it before: a site holds what is kept of what it held and what the
-- event adds.
use Rattle.std.specs.Prelude.{◌≡◌, ℕ, ◌+◌, List, [], ◌∷◌, ◌++◌, slice_get, slice_set, Option, Some, None, Ok, Err}
use Rattle.std.proofs.Common.{option_to_list, option_map}
use Rattle.pcrf_model.specs.Holdings.{Holding, nothing_held, union, kept_of}
use Rattle.pcrf_model.specs.Operations.{Operation, with_operation, holding_of}
use Rattle.pcrf_model.specs.Requests.{RequestValue}
use Rattle.pcrf_model.specs.Replies.{Outcome}
use Rattle.pcrf_model.specs.Serving.{serve}
use Rattle.pcrf_model.specs.Pushing.{push}
use Rattle.pcrf_model.specs.Aborting.{abort}
use Rattle.pcrf_model.specs.Retelling.{retell}
use Rattle.pcrf_model.specs.Letters.{LetterBody, Range, Snapshot, Acknowledgement, LetterValue}
use Rattle.pcrf_model.specs.Cursors.{start_cursors, ack_of, ack_letter}
use Rattle.pcrf_model.specs.Worlds.{WorldEvent, ServeAt, PushAt, AbortAt, RetellAt, Letter, Merge, Ack, Restart, Replied, PushedOut, AbortedOut, RetoldOut, Lettered, Merged, Restarted, NoMemory, WorldAnswer, SiteView, WorldView, Writing, Setting, letter_body, first_taken, cursors_after, WorldTook, world_view, after}
use Rattle.pcrf_model.specs.CursorLaws.{AllHoldBehind}

-- ---- one site

-- holding what is kept of what it held and this
abbrev pub view_with : Holding → SiteView → SiteView
view_with h s = record s { state = record { holding = kept_of (union s.state.holding h); log = s.state.log } }

-- with an operation that it made, if it made one
abbrev pub view_made : Option Operation → SiteView → SiteView
view_made None s = s
view_made (Some o) s = record s { state = record { holding = kept_of (with_operation s.state.holding o); log = s.state.log ++ o ∷ [] } }

-- what the definitions give to a request on what is seen
abbrev pub view_served : Setting → RequestValue → SiteView → Outcome
view_served g q s = serve g.most g.tables s.number s.state.holding q

-- and what they push of it
abbrev pub view_pushed : Setting → Option (List ℕ) → SiteView → Outcome
view_pushed g name s = push g.most g.tables s.number s.state.holding name

-- and which session they abort
abbrev pub view_aborted : Option (List ℕ) → SiteView → Outcome
view_aborted name s = abort s.number s.state.holding name

-- and which session they retell
abbrev pub view_retold : List ℕ → SiteView → Outcome
view_retold id s = retell s.number s.state.holding id

-- what a letter brings: the operations of a range, the state of a snapshot
abbrev pub brought_holding : LetterBody → Holding
brought_holding (Range from os) = holding_of os
brought_holding (Snapshot h n) = h
brought_holding (Acknowledgement m e c) = nothing_held

-- with a letter that was taken whole
abbrev pub view_merged : Writing → LetterValue → SiteView → SiteView
view_merged how l s = record (view_with (brought_holding l.body) s) { cursors = cursors_after how s.cursors l }

-- with the first operations of a letter
abbrev pub view_in_part : ℕ → LetterValue → SiteView → SiteView
view_in_part n l = view_with (holding_of (first_taken n l.body))

-- empty, in the next epoch
abbrev pub view_again : SiteView → SiteView
view_again s = record { number = s.number; epoch = s.epoch + 1; state = record { holding = nothing_held; log = [] }; cursors = start_cursors s.number (s.epoch + 1) }

-- the letter that it writes to a peer
abbrev pub view_letter : Setting → ℕ → SiteView → LetterValue
view_letter g peer s = record { edition = g.tables.edition; site = s.number; epoch = s.epoch; body = letter_body g.writes s peer }

-- the acknowledgement that it writes to a maker
abbrev pub view_ack : Setting → ℕ → SiteView → LetterValue
view_ack g maker s = ack_letter g.tables.edition (ack_of s.cursors maker)

-- ---- the world

-- with site i changed, if there is one
abbrev pub see_change : WorldView → ℕ → (SiteView → SiteView) → WorldView
see_change v i f = record v { sites = changed (slice_get v.sites i) }
  where
    changed : Option SiteView → List SiteView
    changed None = v.sites
    changed (Some s) = slice_set v.sites i (f s)

-- with site j changed by letter k, if there is one
abbrev pub see_change_by : WorldView → ℕ → ℕ → (LetterValue → SiteView → SiteView) → WorldView
see_change_by v j k f = by (slice_get v.letters k)
  where
    by : Option LetterValue → WorldView
    by None = v
    by (Some l) = see_change v j (f l)

-- with one more letter, which site i wrote
abbrev pub see_letter : WorldView → ℕ → (SiteView → LetterValue) → WorldView
see_letter v i write = record v { letters = v.letters ++ option_to_list (option_map write (slice_get v.sites i)) }

-- what is seen after the event
abbrev pub world_view_after : Setting → WorldView → WorldEvent → WorldAnswer → WorldView
world_view_after g v (ServeAt i q) (Ok (Replied r)) = see_change v i (λ s. view_made (view_served g q s).added s)
world_view_after g v (PushAt i name) (Ok (PushedOut p)) = see_change v i (λ s. view_made (view_pushed g name s).added s)
world_view_after g v (AbortAt i name) (Ok (AbortedOut a)) =
    see_change v i (λ s. view_made (view_aborted name s).added s)
world_view_after g v (RetellAt i id) (Ok (RetoldOut done)) =
    see_change v i (λ s. view_made (view_retold id s).added s)
world_view_after g v (Letter i j) (Ok (Lettered k)) = see_letter v i (view_letter g j)
world_view_after g v (Merge j k) (Ok Merged) = see_change_by v j k (view_merged g.writes)
world_view_after g v (Merge j k) (Err (NoMemory n)) = see_change_by v j k (view_in_part n)
world_view_after g v (Ack j i) (Ok (Lettered k)) = see_letter v j (view_ack g i)
world_view_after g v (Restart i) (Ok (Restarted e)) = see_change v i view_again
world_view_after g v event answer = v

-- It is what is seen of what each site then took, where each snapshot among the letters is what is kept of what its maker had taken.
abbrev pub SeenIsWhatWasTaken : Type 0
SeenIsWhatWasTaken = (g : Setting) (w : WorldTook) (event : WorldEvent) (answer : WorldAnswer) → AllHoldBehind w →
    world_view_after g (world_view w) event answer ≡ world_view (after g w event answer)

-- and so each snapshot is after the event
abbrev pub SnapshotsStay : Type 0
SnapshotsStay = (g : Setting) (w : WorldTook) (event : WorldEvent) (answer : WorldAnswer) → AllHoldBehind w → AllHoldBehind (after g w event answer)
