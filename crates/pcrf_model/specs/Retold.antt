-- Gateways that may have lost what they were told, and what becomes of it, for the worked examples.
use Rattle.std.specs.Prelude.{ℕ, [], ◌∷◌, Option}
use Rattle.pcrf_model.specs.Cursors.{start_cursors}
use Rattle.pcrf_model.specs.Operations.{Operation}
use Rattle.pcrf_model.specs.Replies.{ReplyValue}
use Rattle.pcrf_model.specs.Retelling.{retell}
use Rattle.pcrf_model.specs.Sessions.{Session}
use Rattle.pcrf_model.specs.Steps.{SiteState, with_own}
use Rattle.pcrf_model.specs.Worlds.{WorldAnswer, SiteView, WorldView, RetellAt, ByCursors, answer_of}
use Rattle.pcrf_model.specs.Letterbox.{writing}
use Rattle.pcrf_model.specs.Samples.{first_session}
use Rattle.pcrf_model.specs.Scenes.{other, call_pushed, pushed}

-- whether site i counts what the gateway of the session was told as not there
abbrev pub retells : ℕ → SiteState → Session → ReplyValue
retells i s r = (retell i s.holding r.id).reply

-- the operation by which it does, if it makes one
abbrev pub retelling : ℕ → SiteState → Session → Option Operation
retelling i s r = (retell i s.holding r.id).added

-- site i after that
abbrev pub retold : ℕ → SiteState → Session → SiteState
retold i s r = with_own s (retelling i s r)

-- the first session with its call, whose three rules its gateway was told
abbrev pub call_retold : SiteState
call_retold = retold 0 call_pushed first_session

-- and after the push that follows
abbrev pub told_again : SiteState
told_again = pushed 0 call_retold

-- site 1, which took what the first session made, does so; and site 0 takes that
abbrev pub retold_elsewhere : SiteState
retold_elsewhere = retold 1 other first_session

-- what a world of one site that holds this answers to a session's retelling at that site
abbrev pub world_retells : SiteState → ℕ → WorldAnswer
world_retells s i = answer_of (writing ByCursors) there (RetellAt i first_session.id)
  where
    site : SiteView
    site = record { number = 0; epoch = 1; state = s; cursors = start_cursors 0 1 }

    there : WorldView
    there = record { sites = site ∷ []; letters = [] }
