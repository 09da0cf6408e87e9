-- What is seen of a site, and what serving, pushes, aborts, retellings and letters make of it.
use Rattle.std.specs.Prelude.{◌≡◌, ℕ, List, [], ◌∷◌, ◌++◌, Option, Some, None}
use Rattle.pcrf_values.specs.Facts.{Fact}
use Rattle.pcrf_values.specs.Limits.{delta_limit}
use Rattle.pcrf_model.specs.Sessions.{Session}
use Rattle.pcrf_model.specs.Holdings.{Holding, nothing_held, union, kept_of, with_facts_of}
use Rattle.pcrf_model.specs.Operations.{Operation, with_operation, holding_of}
use Rattle.pcrf_model.specs.Requests.{CcrValue, AarValue, StrValue, RequestValue}
use Rattle.pcrf_model.specs.Replies.{Outcome, ReplyValue}
use Rattle.pcrf_model.specs.Serving.{serve, serve_ccr, serve_aar, serve_str}
use Rattle.pcrf_model.specs.Pushing.{due_session, push}
use Rattle.pcrf_model.specs.Aborting.{abandoned_session, abort}
use Rattle.pcrf_model.specs.Retelling.{retell}
use Rattle.pcrf_model.specs.Steps.{SiteState, SiteEvent, MayReply, kept_state, state_after}
use Rattle.pcrf_model.specs.Tables.{Tables}
use Rattle.pcrf_model.specs.Views.{view}
use Rattle.indexed_state.specs.Forgotten.{forgotten}
use Rattle.dia_base.specs.declared.identity.Identity.{Identity}

-- a site: the operator tables that it decides by, the names that it answers under, its number, what it holds, and what it made
pub record SiteValue : Type 0 where
  pub tables : Tables
  pub identity : Identity
  pub number : ℕ
  pub state : SiteState

-- nothing was taken or made
abbrev pub new_state : SiteState
new_state = record { holding = nothing_held; log = [] }

-- a site that took nothing
abbrev pub new_site : Tables → Identity → ℕ → SiteValue
new_site t names number = record { tables = t; identity = names; number = number; state = new_state }

-- what the definitions give to a credit control request on what the site holds
abbrev pub ccr_served : SiteValue → CcrValue → Outcome
ccr_served s q = serve_ccr delta_limit s.tables s.number s.state.holding q

-- to an AA request
abbrev pub aar_served : SiteValue → AarValue → Outcome
aar_served s q = serve_aar s.tables s.number s.state.holding q

-- to a session termination request
abbrev pub str_served : SiteValue → StrValue → Outcome
str_served s q = serve_str s.number s.state.holding q

-- and to any request
abbrev pub serve_outcome : SiteValue → RequestValue → Outcome
serve_outcome s q = serve delta_limit s.tables s.number s.state.holding q

-- what they push of it to the gateway of a host, any where none is named
abbrev pub push_outcome_at : SiteValue → Option (List ℕ) → Outcome
push_outcome_at s name = push delta_limit s.tables s.number s.state.holding name

-- which session of a host they abort on it, of any where none is named
abbrev pub abort_outcome_at : SiteValue → Option (List ℕ) → Outcome
abort_outcome_at s name = abort s.number s.state.holding name

-- and what comes of a session's retelling
abbrev pub retell_outcome_at : SiteValue → List ℕ → Outcome
retell_outcome_at s session = retell s.number s.state.holding session

-- nothing is due to the gateways of a host by sessions whose home the site is
abbrev pub OwesNothing : SiteValue → List ℕ → Type 0
OwesNothing s name = due_session s.tables s.number (view s.state.holding.facts) (Some name) ≡ None

-- no application function of the host is to be asked to abort a session whose home the site is
abbrev pub NoneAbandoned : SiteValue → List ℕ → Type 0
NoneAbandoned s name = abandoned_session s.number (view s.state.holding.facts) (Some name) ≡ None

-- with one operation: what is kept of it is held
abbrev pub with_one : SiteValue → Operation → SiteValue
with_one s o = record s { state = record { holding = kept_of (with_operation s.state.holding o); log = s.state.log } }

-- with an operation of its own, if there is one: what is kept of it is held, and its log has it last
abbrev pub with_made : SiteValue → Option Operation → SiteValue
with_made s None = s
with_made s (Some o) = record s { state = record { holding = kept_of (with_operation s.state.holding o); log = s.state.log ++ o ∷ [] } }

-- with operations of a letter: what is kept of them is held
abbrev pub with_taken : SiteValue → List Operation → SiteValue
with_taken s os = record s { state = record { holding = kept_of (union s.state.holding (holding_of os)); log = s.state.log } }

-- with all that another site holds: what is kept of both is held
abbrev pub with_state : SiteValue → Holding → SiteValue
with_state s k = record s { state = record { holding = kept_of (union s.state.holding k); log = s.state.log } }

-- the replies that a site may give to an event
abbrev pub SiteMayReply : SiteValue → SiteEvent → ReplyValue → Type 0
SiteMayReply s e r = MayReply delta_limit s.tables s.number s.state e r

-- after an event to which it gave that reply: what is kept is held
abbrev pub after_event : SiteValue → SiteEvent → ReplyValue → SiteValue
after_event s e r = record s { state = kept_state (state_after delta_limit s.tables s.number s.state e r) }

-- empty
abbrev pub emptied_site : SiteValue → SiteValue
emptied_site s = record s { state = new_state }

-- with these facts in place of those of a session, under that clock
abbrev pub with_record : SiteValue → Session → List Fact → ℕ → SiteValue
with_record s session facts clock = record s { state = record { holding = with_facts_of s.state.holding session facts clock; log = s.state.log } }

-- without the facts of a session
abbrev pub site_without : SiteValue → Session → SiteValue
site_without s session = record s { state = record { holding = forgotten s.state.holding session; log = s.state.log } }

-- with all that it holds, and no operation that it made
abbrev pub anew_site : SiteValue → SiteValue
anew_site s = record s { state = record { holding = s.state.holding; log = [] } }
