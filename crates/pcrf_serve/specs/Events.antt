-- Kinds of events, by who makes them happen.
use Rattle.std.specs.Prelude.{◌≡◌, ℕ, List, Some, ⊤}
use Rattle.pcrf_model.specs.Steps.{SiteEvent, Serve, Push, Ops, Whole, AskOwn, AskWhole}
use Rattle.pcrf_model.specs.Steps as steps
use Rattle.pcrf_serve.specs.declared.demand.Demand.{Demand}
use Rattle.pcrf_serve.specs.declared.demand.Demand.TheVariants.{Rules, Abort}

-- a request is served
abbrev pub IsServed : SiteEvent → Type 0
IsServed (Serve request) = ⊤
IsServed event = ⊥

-- a push to that host: of rules, or an abort
abbrev pub event_to : Demand → List ℕ → SiteEvent
event_to Rules host = Push (Some host)
event_to Abort host = steps.Abort (Some host)

-- one of them
abbrev pub IsPushTo : List ℕ → SiteEvent → Type 0
IsPushTo host event = (demand : Demand) × (event ≡ event_to demand host)

-- a push to a host that is named
abbrev pub IsPushToHost : SiteEvent → Type 0
IsPushToHost event = (host : List ℕ) × IsPushTo host event

-- of an exchange of letters: what one brings is taken in, or what one is to bring is asked for
abbrev pub IsExchange : SiteEvent → Type 0
IsExchange (Ops operations) = ⊤
IsExchange (Whole holding) = ⊤
IsExchange (AskOwn from) = ⊤
IsExchange AskWhole = ⊤
IsExchange event = ⊥
