-- Calls whose session ended, and what becomes of them, for the worked examples.
use Rattle.std.specs.Prelude.{ℕ, List, [], ◌∷◌, Option, Some, None, codes}
use Rattle.pcrf_model.specs.Aborting.{abort}
use Rattle.pcrf_model.specs.Cursors.{start_cursors}
use Rattle.pcrf_model.specs.Replies.{ReplyValue, Aborted}
use Rattle.pcrf_model.specs.Steps.{SiteState, with_own}
use Rattle.pcrf_model.specs.Worlds.{WorldAnswer, SiteView, WorldView, AbortAt, ByCursors, answer_of}
use Rattle.pcrf_model.specs.Letterbox.{writing}
use Rattle.pcrf_model.specs.Samples.{first_session, second_session, call_session, host_address, initial, termination, hang_up}
use Rattle.pcrf_model.specs.Scenes.{empty_site, serves, taking, call_pushed, last_operation}

-- the session that site i aborts at that host, any where none is named
abbrev pub aborts : ℕ → SiteState → Option (List ℕ) → ReplyValue
aborts i s name = (abort i s.holding name).reply

-- site i after the abort
abbrev pub aborted : ℕ → SiteState → SiteState
aborted i s = with_own s (abort i s.holding None).added

-- the abort of the call
abbrev pub call_aborted : ReplyValue
call_aborted =
    Aborted (Some (record { session = call_session.id; host = codes "af"; realm = codes "r" }))

-- nothing is aborted
abbrev pub no_abort : ReplyValue
no_abort = Aborted None

-- the first session ends under a call whose rules were pushed
abbrev pub abandoned : SiteState
abandoned = serves 0 call_pushed (termination first_session 1)

-- the call is aborted
abbrev pub asked_to_abort : SiteState
asked_to_abort = aborted 0 abandoned

-- a site that took what was made before the abort, and one that took the abort too
abbrev pub other_before : SiteState
other_before = taking empty_site abandoned.log

abbrev pub other_after : SiteState
other_after = taking empty_site asked_to_abort.log

-- a second session comes to the address of the call
abbrev pub bound_again : SiteState
bound_again = serves 0 asked_to_abort (initial second_session (host_address 1))

-- the call ends
abbrev pub ended_at_last : SiteState
ended_at_last = serves 0 bound_again hang_up

-- no counter is left for an abort
abbrev pub abandoned_at_the_end : SiteState
abandoned_at_the_end = taking abandoned (last_operation ∷ [])

-- what a world of one site that holds this answers to an abort at that site
abbrev pub world_aborts : SiteState → ℕ → WorldAnswer
world_aborts s i = answer_of (writing ByCursors) there (AbortAt i None)
  where
    site : SiteView
    site = record { number = 0; epoch = 1; state = s; cursors = start_cursors 0 1 }

    there : WorldView
    there = record { sites = site ∷ []; letters = [] }
