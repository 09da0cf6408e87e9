-- Letters and worlds of the worked examples.
use Rattle.std.specs.Prelude.{ℕ, List, [], ◌∷◌, Option, None, Ok, Err, take, length, slice_get}
use Rattle.std.proofs.Common.{option_map}
use Rattle.pcrf_values.specs.Limits.{delta_limit, last_epoch}
use Rattle.pcrf_model.specs.Holdings.{Holding, nothing_held}
use Rattle.pcrf_model.specs.Replies.{ReplyValue}
use Rattle.pcrf_model.specs.Steps.{SiteEvent, Serve}
use Rattle.pcrf_model.specs.Seen.{world_view_after}
use Rattle.pcrf_model.specs.Letters.{LetterBody, Range, Snapshot, LetterValue}
use Rattle.pcrf_model.specs.Cursors.{Cursor, CursorsValue, start_cursors, maker_cursor, cursors_after_letter}
use Rattle.pcrf_model.specs.Worlds.{WorldEvent, ServeAt, PushAt, Letter, Merge, Ack, Restart, Replied, Lettered, Merged, Restarted, NoSuchSite, NoSuchLetter, WorldAnswer, SiteView, WorldView, SiteTook, SentLetter, WorldTook, start, Setting, Writing, WholeLogs, ByCursors, taken_holding, world_view, answer_of, after, after_all}
use Rattle.pcrf_model.specs.Samples.{operator, first_session, host_address, initial, update, sip_rule, delta}
use Rattle.pcrf_model.specs.Scenes.{granted, one, call_at_the_end}

-- ---- cursors of site 1 for the operations of site 0

-- a letter of site 0 in that epoch
abbrev pub letter : ℕ → LetterBody → LetterValue
letter epoch body = record { edition = 7; site = 0; epoch = epoch; body = body }

-- one operation, at that position
abbrev pub range_at : ℕ → LetterValue
range_at n = letter 1 (Range n one.log)

-- a snapshot of nothing, of the next epoch
abbrev pub newer_epoch : LetterValue
newer_epoch = letter 2 (Snapshot nothing_held 0)

-- the cursors of site 1 after these letters
abbrev pub taking_letters : List LetterValue → CursorsValue
taking_letters [] = start_cursors 1 1
taking_letters (l ∷ ls) = cursors_after_letter (taking_letters ls) l

-- what site 1 took of site 0 by these letters, the last first
abbrev pub cursor_after : List LetterValue → Cursor
cursor_after ls = maker_cursor (taking_letters ls) 0

-- that many operations of that epoch
abbrev pub cursor : ℕ → ℕ → Cursor
cursor e n = record { epoch = e; cursor = n }

-- ---- two sites

-- site 0 serves, sends a letter, is told that it was taken, serves again and sends another
abbrev pub exchange : List WorldEvent
exchange =
    ServeAt 0 (initial first_session (host_address 1)) ∷ Letter 0 1 ∷ Merge 1 0 ∷ Ack 1 0 ∷ Merge 0 1
    ∷ ServeAt 0 (update 1 None) ∷ Letter 0 1 ∷ Merge 1 2 ∷ []

-- what the world answers to each
abbrev pub exchange_answers : List WorldAnswer
exchange_answers =
    Ok (Replied (granted (delta [] (sip_rule ∷ [])))) ∷ Ok (Lettered 0) ∷ Ok Merged ∷ Ok (Lettered 1) ∷ Ok Merged
    ∷ Ok (Replied (granted (delta [] []))) ∷ Ok (Lettered 2) ∷ Ok Merged ∷ []

-- a world of that operator, by that way to write letters
abbrev pub writing : Writing → Setting
writing how = record { tables = operator; most = delta_limit; writes = how }

-- the answers to the events where memory is found
abbrev pub answers_all : Setting → WorldTook → List WorldEvent → List WorldAnswer
answers_all g w [] = []
answers_all g w (e ∷ es) =
    let a : WorldAnswer = answer_of g (world_view w) e in
    a ∷ answers_all g (after g w e a) es

-- the world after the exchange
abbrev pub exchanged : Writing → WorldTook
exchanged how = after_all (writing how) (start 2) exchange exchange_answers

-- what letter k says
abbrev pub body_of : WorldTook → ℕ → Option LetterBody
body_of w k = option_map (λ (l : SentLetter). l.letter.body) (slice_get w.letters k)

-- what site i holds
abbrev pub held_at : WorldTook → ℕ → Option Holding
held_at w i = option_map taken_holding (slice_get w.sites i)

-- how many operations site i took
abbrev pub count_taken : WorldTook → ℕ → Option ℕ
count_taken w i = option_map (λ (s : SiteTook). length s.taken) (slice_get w.sites i)

-- site 0 starts again after the exchange
abbrev pub started_again : WorldTook
started_again = after_all (writing ByCursors) (exchanged ByCursors) (Restart 0 ∷ []) (Ok (Restarted 2) ∷ [])

-- ---- faults

-- events at a world of two sites of which none names what is there
abbrev pub astray : List WorldEvent
astray =
    ServeAt 2 (initial first_session (host_address 1)) ∷ PushAt 2 None ∷ Letter 0 2 ∷ Letter 2 0 ∷ Merge 2 0 ∷ Merge 1 0 ∷ Ack 1 2 ∷ Restart 2 ∷ []

-- what the world answers to each
abbrev pub astray_answers : List WorldAnswer
astray_answers =
    Err NoSuchSite ∷ Err NoSuchSite ∷ Err NoSuchSite ∷ Err NoSuchSite ∷ Err NoSuchSite ∷ Err NoSuchLetter ∷ Err NoSuchSite ∷ Err NoSuchSite ∷ []

-- site 0 in its last epoch, at the last counter, with a call of which its gateway was not told
abbrev pub at_its_end : WorldView
at_its_end = record { sites = record { number = 0; epoch = last_epoch; state = call_at_the_end; cursors = start_cursors 0 last_epoch } ∷ []; letters = [] }

-- what it answers
abbrev pub answer_at_its_end : WorldEvent → WorldAnswer
answer_at_its_end = answer_of (writing WholeLogs) at_its_end

-- ---- histories

-- site 0 serves an initial request and an update of the same session
abbrev pub two_requests : List (SiteEvent × ReplyValue)
two_requests =
    (Serve (initial first_session (host_address 1)), granted (delta [] (sip_rule ∷ [])))
    ∷ (Serve (update 1 None), granted (delta [] [])) ∷ []

-- what is seen of the two sites after site 0 served and site 1 took its letter, event by event
abbrev pub seen_first : Writing → WorldView
seen_first how = seen_all (take 3 exchange) (take 3 exchange_answers) (world_view (start 2))
  where
    seen_all : List WorldEvent → List WorldAnswer → WorldView → WorldView
    seen_all [] answers v = v
    seen_all (e ∷ es) [] v = v
    seen_all (e ∷ es) (a ∷ answers) v = seen_all es answers (world_view_after (writing how) v e a)

-- what site 1 then holds
abbrev pub seen_holding : Writing → Option Holding
seen_holding how = option_map (λ (s : SiteView). s.state.holding) (slice_get (seen_first how).sites 1)

-- the cursor that site 1 then has of the operations of site 0
abbrev pub seen_cursor : Writing → Option Cursor
seen_cursor how = option_map (λ (s : SiteView). maker_cursor s.cursors 0) (slice_get (seen_first how).sites 1)
