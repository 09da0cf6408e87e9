-- What the entries of a history added to what the site held.
use Rattle.std.specs.Prelude.{◌≡◌, ℕ, List, [], ◌∷◌, map, take, Option, Some, None}
use Rattle.pcrf_values.specs.Limits.{delta_limit}
use Rattle.pcrf_model.specs.Tables.{Tables}
use Rattle.pcrf_model.specs.Holdings.{Holding, nothing_held, union, kept_of, under}
use Rattle.pcrf_model.specs.Operations.{Operation, holding_of}
use Rattle.pcrf_model.specs.Replies.{ReplyValue, Taken}
use Rattle.pcrf_model.specs.Serving.{serve}
use Rattle.pcrf_model.specs.Pushing.{push}
use Rattle.pcrf_model.specs.Aborting.{abort}
use Rattle.pcrf_model.specs.Retelling.{retell}
use Rattle.pcrf_model.specs.Steps.{SiteState, SiteEvent, kept_state_after, Serve, Push, Ops, Whole, Abort, Retell}
use Rattle.site_book.specs.Books.{BookValue, called}

-- what an operation says, if there is one
abbrev pub holding_added : Option Operation → Holding
holding_added None = nothing_held
holding_added (Some o) = record { facts = under o.session o.facts; clock = o.counter }

-- what an event with its reply adds: the operation that it makes, the first so many of those that were given, or the state
abbrev pub gain : Tables → ℕ → SiteState → SiteEvent → ReplyValue → Holding
gain t i s (Serve q) r = holding_added (serve delta_limit t i s.holding q).added
gain t i s (Push name) r = holding_added (push delta_limit t i s.holding name).added
gain t i s (Ops os) (Taken n) = holding_of (take n os)
gain t i s (Whole k) r = k
gain t i s (Abort name) r = holding_added (abort i s.holding name).added
gain t i s (Retell id) r = holding_added (retell i s.holding id).added
gain t i s e r = nothing_held

-- what all of them add, one after the other
abbrev pub gained : Tables → ℕ → SiteState → List (SiteEvent × ReplyValue) → Holding
gained t i s [] = nothing_held
gained t i s (x ∷ xs) = union (gain t i s x.0 x.1) (gained t i (kept_state_after delta_limit t i s x.0 x.1) xs)

-- the site holds what is kept of its opening and of what the entries added
abbrev pub HoldsAll : BookValue → Type 0
HoldsAll b = b.site.state.holding ≡ kept_of (union b.opening.holding (gained b.site.tables b.site.number b.opening (map called b.history)))
