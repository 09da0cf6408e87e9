-- Several sites and the letters between them: what each event answers, and what each site took, read from the events and the answers alone.
use Rattle.std.specs.Prelude.{◌≡◌, ℕ, zero, suc, ◌+◌, ◌<◌, ◌==◌, Bool, if◌then◌else◌, List, [], ◌∷◌, ◌++◌, take, length, map, slice_get, slice_set, slice_index_or, Option, Some, None, Result, Ok, Err}
use Rattle.std.proofs.Common.{option_to_list, option_map, unwrap_or}
use Rattle.pcrf_values.specs.Sets.{Same}
use Rattle.pcrf_values.specs.Limits.{last_epoch}
use Rattle.pcrf_model.specs.Holdings.{Holding, kept_of}
use Rattle.pcrf_model.specs.Operations.{Operation, holding_of}
use Rattle.pcrf_model.specs.Tables.{Tables}
use Rattle.pcrf_model.specs.Requests.{RequestValue}
use Rattle.pcrf_model.specs.Replies.{PushValue, AbortValue, ReplyValue, Pushed, Aborted, Retold}
use Rattle.pcrf_model.specs.Serving.{serve}
use Rattle.pcrf_model.specs.Pushing.{push, lacks_counter}
use Rattle.pcrf_model.specs.Aborting.{abort, lacks_counter_to_abort}
use Rattle.pcrf_model.specs.Retelling.{retell, lacks_counter_to_retell}
use Rattle.pcrf_model.specs.SiteOverviews.{site_overview}
use Rattle.pcrf_model.specs.Steps.{SiteState, SiteEvent, AskOwn, own_from}
use Rattle.pcrf_model.specs.Letters.{LetterBody, Range, Snapshot, Acknowledgement, LetterValue, meaning}
use Rattle.pcrf_model.specs.Cursors.{CursorsValue, start_cursors, ask, cursors_after_letter, ack_of, ack_letter, carried_ack, cursors_after_ack}

-- Site i serves a request, pushes to a host, or aborts a session there; site i counts what the gateway
-- of a session was told as not there; site i makes a letter for site j; site j takes letter k; site j
-- acknowledges to site i what it took of it; site i starts again, empty.
pub data WorldEvent : Type 0 where
  ServeAt : ℕ → RequestValue → WorldEvent
  PushAt : ℕ → Option (List ℕ) → WorldEvent
  AbortAt : ℕ → Option (List ℕ) → WorldEvent
  RetellAt : ℕ → List ℕ → WorldEvent
  Letter : ℕ → ℕ → WorldEvent
  Merge : ℕ → ℕ → WorldEvent
  Ack : ℕ → ℕ → WorldEvent
  Restart : ℕ → WorldEvent

-- the reply; what was pushed; which session was aborted; whether what a gateway was told counts as not
-- there now; the number of the new letter; that it was taken; the new epoch
pub data WorldOutcome : Type 0 where
  Replied : ReplyValue → WorldOutcome
  PushedOut : Option PushValue → WorldOutcome
  AbortedOut : Option AbortValue → WorldOutcome
  RetoldOut : Bool → WorldOutcome
  Lettered : ℕ → WorldOutcome
  Merged : WorldOutcome
  Restarted : ℕ → WorldOutcome

-- of a letter that ran out of memory so many operations stand taken
pub data WorldFault : Type 0 where
  NoSuchSite NoSuchLetter EpochFull ClockFull : WorldFault
  NoMemory : ℕ → WorldFault

-- an outcome or a fault
abbrev pub WorldAnswer : Type 0
WorldAnswer = Result WorldOutcome WorldFault

-- ---- what is seen of a world

-- a site: its number and epoch, what it holds, what it made in this epoch, and its cursors
pub record SiteView : Type 0 where
  pub number : ℕ
  pub epoch : ℕ
  pub state : SiteState
  pub cursors : CursorsValue

-- all sites, by number, and the letters, in the order in which they were made
pub record WorldView : Type 0 where
  pub sites : List SiteView
  pub letters : List LetterValue

-- How sites write to each other: each its whole log, whoever the peer is, so that it has no use for cursors; or by its cursors.
pub data Writing : Type 0 where
  WholeLogs ByCursors : Writing

-- how a world runs: the operator tables of all sites, how many entries of a difference a message tells, and how sites write to each other
pub record Setting : Type 0 where
  pub tables : Tables
  pub most : ℕ
  pub writes : Writing

-- sites with these operator tables, which write to each other by their cursors
abbrev pub by_cursors : Tables → ℕ → Setting
by_cursors t most = record { tables = t; most = most; writes = ByCursors }

-- the operations that are asked for from a position on, or all that the site holds
abbrev pub asked_body : SiteView → SiteEvent → LetterBody
asked_body s (AskOwn p) = Range p (own_from s.state.log p)
asked_body s e = Snapshot s.state.holding (length s.state.log)

-- what a site writes to a peer: its whole log; by its cursors all, or the operations from what the peer said it took
abbrev pub letter_body : Writing → SiteView → ℕ → LetterBody
letter_body WholeLogs s peer = Range 0 s.state.log
letter_body ByCursors s peer = asked_body s (ask s.cursors peer)

-- ---- what each event answers

-- of that site, if there is one
abbrev pub at_site : Option SiteView → (SiteView → WorldAnswer) → WorldAnswer
at_site None answer = Err NoSuchSite
at_site (Some s) answer = answer s

-- what was pushed, if a counter is left for it
abbrev pub push_answer : Setting → Option (List ℕ) → SiteView → WorldAnswer
push_answer g name s = if lacks_counter g.tables s.number s.state.holding name then Err ClockFull else outcome (push g.most g.tables s.number s.state.holding name).reply
  where
    outcome : ReplyValue → WorldAnswer
    outcome (Pushed p) = Ok (PushedOut p)
    outcome r = Ok (Replied r)

-- which session was aborted, if a counter is left for it
abbrev pub abort_answer : Option (List ℕ) → SiteView → WorldAnswer
abort_answer name s =
    if lacks_counter_to_abort s.number s.state.holding name then Err ClockFull
    else outcome (abort s.number s.state.holding name).reply
  where
    outcome : ReplyValue → WorldAnswer
    outcome (Aborted a) = Ok (AbortedOut a)
    outcome r = Ok (Replied r)

-- whether what the gateway was told counts as not there now, if a counter is left for it
abbrev pub retell_answer : List ℕ → SiteView → WorldAnswer
retell_answer id s =
    if lacks_counter_to_retell s.state.holding id then Err ClockFull
    else outcome (retell s.number s.state.holding id).reply
  where
    outcome : ReplyValue → WorldAnswer
    outcome (Retold done) = Ok (RetoldOut done)
    outcome r = Ok (Replied r)

-- that the letter was taken, if there is one
abbrev pub merge_answer : Option LetterValue → WorldAnswer
merge_answer None = Err NoSuchLetter
merge_answer (Some l) = Ok Merged

-- the next epoch, if there is one
abbrev pub restart_answer : SiteView → WorldAnswer
restart_answer s = if s.epoch == last_epoch then Err EpochFull else Ok (Restarted (s.epoch + 1))

-- the answer where memory is found
abbrev pub answer_of : Setting → WorldView → WorldEvent → WorldAnswer
answer_of g w (ServeAt i q) = at_site (slice_get w.sites i) (λ s. Ok (Replied (serve g.most g.tables s.number s.state.holding q).reply))
answer_of g w (PushAt i name) = at_site (slice_get w.sites i) (push_answer g name)
answer_of g w (AbortAt i name) = at_site (slice_get w.sites i) (abort_answer name)
answer_of g w (RetellAt i id) = at_site (slice_get w.sites i) (retell_answer id)
answer_of g w (Letter i j) = at_site (slice_get w.sites i) (λ s. at_site (slice_get w.sites j) (λ peer. Ok (Lettered (length w.letters))))
answer_of g w (Merge j k) = at_site (slice_get w.sites j) (λ s. merge_answer (slice_get w.letters k))
answer_of g w (Ack j i) = at_site (slice_get w.sites j) (λ s. at_site (slice_get w.sites i) (λ maker. Ok (Lettered (length w.letters))))
answer_of g w (Restart i) = at_site (slice_get w.sites i) restart_answer

-- so many operations of a letter may stand where memory is refused: of a range the first, of a snapshot none; an acknowledgement takes no memory
abbrev pub MayStopAfter : LetterBody → ℕ → Type 0
MayStopAfter (Range from os) n = n < length os
MayStopAfter (Snapshot h m) n = n ≡ 0
MayStopAfter (Acknowledgement m e c) n = ⊥

-- where memory may be refused, and how many operations of a letter then stand; none of any other event
abbrev pub MayRefuse : WorldView → WorldEvent → ℕ → Type 0
MayRefuse w (ServeAt i q) n = (i < length w.sites) × (n ≡ 0)
MayRefuse w (PushAt i name) n = (i < length w.sites) × (n ≡ 0)
MayRefuse w (AbortAt i name) n = (i < length w.sites) × (n ≡ 0)
MayRefuse w (RetellAt i id) n = (i < length w.sites) × (n ≡ 0)
MayRefuse w (Letter i j) n = (i < length w.sites) × (j < length w.sites) × (n ≡ 0)
MayRefuse w (Merge j k) n = (j < length w.sites) × (l : LetterValue) × (slice_get w.letters k ≡ Some l) × MayStopAfter l.body n
MayRefuse w (Ack j i) n = (j < length w.sites) × (i < length w.sites) × (n ≡ 0)
MayRefuse w (Restart i) n = ⊥

-- the answers that an event may get
abbrev pub Gives : Setting → WorldView → WorldEvent → WorldAnswer → Type 0
Gives g w e (Err (NoMemory n)) = MayRefuse w e n
Gives g w e answer = answer ≡ answer_of g w e

-- ---- what each site took

-- A site's number, the operations that it took since it last started, those that it made in each epoch before, in order, those that it made in
-- this epoch, and its cursors.
pub record SiteTook : Type 0 where
  pub number : ℕ
  pub taken : List Operation
  pub past : List (List Operation)
  pub log : List Operation
  pub cursors : CursorsValue

-- a letter, and all that its maker had taken when it was made
pub record SentLetter : Type 0 where
  pub letter : LetterValue
  pub behind : List Operation

-- all sites, by number, and the letters, in the order in which they were made
pub record WorldTook : Type 0 where
  pub sites : List SiteTook
  pub letters : List SentLetter

-- epochs count from 1
abbrev pub epoch_of : SiteTook → ℕ
epoch_of s = length s.past + 1

-- the operations that the site made in that epoch; none in epoch 0, which no site begins, or in one to come
abbrev pub log_in : SiteTook → ℕ → List Operation
log_in s epoch = slice_index_or ([] ∷ s.past ++ s.log ∷ []) epoch []

-- a site that took nothing yet
abbrev pub fresh_site : ℕ → SiteTook
fresh_site number = record { number = number; taken = []; past = []; log = []; cursors = start_cursors number 1 }

-- sites 0 to n - 1
abbrev pub fresh_sites : ℕ → List SiteTook
fresh_sites zero = []
fresh_sites (suc n) = fresh_sites n ++ fresh_site n ∷ []

-- sites 0 to n - 1, and no letter
abbrev pub start : ℕ → WorldTook
start n = record { sites = fresh_sites n; letters = [] }

-- what the site took, as a holding
abbrev pub taken_holding : SiteTook → Holding
taken_holding s = holding_of s.taken

-- what is seen of a site is a function of what it took: it holds what is kept of that
abbrev pub site_view : SiteTook → SiteView
site_view s = record { number = s.number; epoch = epoch_of s; state = record { holding = kept_of (taken_holding s); log = s.log }; cursors = s.cursors }

-- what is seen of a world
abbrev pub world_view : WorldTook → WorldView
world_view w = record { sites = map site_view w.sites; letters = map (λ (l : SentLetter). l.letter) w.letters }

-- with an operation that the site made, if it made one
abbrev pub with_operation_made : Option Operation → SiteTook → SiteTook
with_operation_made o s = record s { taken = s.taken ++ option_to_list o; log = s.log ++ option_to_list o }

-- what a letter that was taken whole does to the cursors, if sites use them
abbrev pub cursors_after : Writing → CursorsValue → LetterValue → CursorsValue
cursors_after WholeLogs c l = c
cursors_after ByCursors c l = unwrap_or (option_map (cursors_after_ack c) (carried_ack l l.body)) (cursors_after_letter c l)

-- with a letter that was taken whole
abbrev pub with_letter_taken : Writing → SentLetter → SiteTook → SiteTook
with_letter_taken how l s = record s { taken = s.taken ++ meaning l.behind l.letter.body; cursors = cursors_after how s.cursors l.letter }

-- of a range the first operations alone; a snapshot is taken whole or not at all
abbrev pub first_taken : ℕ → LetterBody → List Operation
first_taken n (Range from os) = take n os
first_taken n (Snapshot h m) = []
first_taken n (Acknowledgement m e c) = []

-- with the first operations of a letter
abbrev pub with_first_taken : ℕ → SentLetter → SiteTook → SiteTook
with_first_taken n l s = record s { taken = s.taken ++ first_taken n l.letter.body }

-- empty, in the next epoch
abbrev pub restart_of : SiteTook → SiteTook
restart_of s = record { number = s.number; taken = []; past = s.past ++ s.log ∷ []; log = []; cursors = start_cursors s.number (epoch_of s + 1) }

-- the world with site i changed, if there is one
abbrev pub change : WorldTook → ℕ → (SiteTook → SiteTook) → WorldTook
change w i f = record w { sites = changed (slice_get w.sites i) }
  where
    changed : Option SiteTook → List SiteTook
    changed None = w.sites
    changed (Some s) = slice_set w.sites i (f s)

-- the world with site j changed by letter k, if there is one
abbrev pub change_by : WorldTook → ℕ → ℕ → (SentLetter → SiteTook → SiteTook) → WorldTook
change_by w j k f = by (slice_get w.letters k)
  where
    by : Option SentLetter → WorldTook
    by None = w
    by (Some l) = change w j (f l)

-- a letter of the site
abbrev pub sent_letter : SiteTook → LetterValue → SentLetter
sent_letter s l = record { letter = l; behind = s.taken }

-- the letter that the site writes to a peer
abbrev pub letter_to : Setting → ℕ → SiteTook → SentLetter
letter_to g peer s = sent_letter s (record { edition = g.tables.edition; site = s.number; epoch = epoch_of s; body = letter_body g.writes (site_view s) peer })

-- the acknowledgement that the site writes to a maker
abbrev pub ack_to : Setting → ℕ → SiteTook → SentLetter
ack_to g maker s = sent_letter s (ack_letter g.tables.edition (ack_of s.cursors maker))

-- with one more letter, which site i made
abbrev pub with_letter : WorldTook → ℕ → (SiteTook → SentLetter) → WorldTook
with_letter w i write = record w { letters = w.letters ++ option_to_list (option_map write (slice_get w.sites i)) }

-- An answered request, push, abort or retelling adds what the definitions give on what the site took;
-- a letter gives its meaning to whoever takes it; a restart empties; a fault changes nothing, but that
-- the first operations of a range stand where memory was refused.
abbrev pub after : Setting → WorldTook → WorldEvent → WorldAnswer → WorldTook
after g w (ServeAt i q) (Ok (Replied r)) = change w i (λ s. with_operation_made (serve g.most g.tables s.number (taken_holding s) q).added s)
after g w (PushAt i name) (Ok (PushedOut p)) = change w i (λ s. with_operation_made (push g.most g.tables s.number (taken_holding s) name).added s)
after g w (AbortAt i name) (Ok (AbortedOut a)) =
    change w i (λ s. with_operation_made (abort s.number (taken_holding s) name).added s)
after g w (RetellAt i id) (Ok (RetoldOut done)) =
    change w i (λ s. with_operation_made (retell s.number (taken_holding s) id).added s)
after g w (Letter i j) (Ok (Lettered k)) = with_letter w i (letter_to g j)
after g w (Merge j k) (Ok Merged) = change_by w j k (with_letter_taken g.writes)
after g w (Merge j k) (Err (NoMemory n)) = change_by w j k (with_first_taken n)
after g w (Ack j i) (Ok (Lettered k)) = with_letter w j (ack_to g i)
after g w (Restart i) (Ok (Restarted e)) = change w i restart_of
after g w event answer = w

-- ---- all events with their answers, in order

-- what each site took in the end
abbrev pub after_all : Setting → WorldTook → List WorldEvent → List WorldAnswer → WorldTook
after_all g w [] answers = w
after_all g w (e ∷ es) [] = w
after_all g w (e ∷ es) (a ∷ answers) = after_all g (after g w e a) es answers

-- each event has an answer that it may get on what the sites took before
abbrev pub GivesAll : Setting → WorldTook → List WorldEvent → List WorldAnswer → Type 0
GivesAll g w [] [] = Unit {0}
GivesAll g w [] (a ∷ answers) = ⊥
GivesAll g w (e ∷ es) [] = ⊥
GivesAll g w (e ∷ es) (a ∷ answers) = Gives g (world_view w) e a × GivesAll g (after g w e a) es answers

-- The one site, which is so seen, holds what the other holds, and an operator sees the same of both.
abbrev pub HoldsTheSame : Tables → SiteView → SiteView → Type 0
HoldsTheSame t x y = (x.state.holding ≡ y.state.holding) × (site_overview t x.state.holding ≡ site_overview t y.state.holding)

-- In the world that is so seen, under these operator tables, any two sites that took the same operations hold the same.
abbrev pub HoldAlike : Tables → WorldTook → WorldView → Type 0
HoldAlike t w v = (i j : ℕ) (a b : SiteTook) → slice_get w.sites i ≡ Some a → slice_get w.sites j ≡ Some b → Same a.taken b.taken →
    (x y : SiteView) → slice_get v.sites i ≡ Some x → slice_get v.sites j ≡ Some y → HoldsTheSame t x y
