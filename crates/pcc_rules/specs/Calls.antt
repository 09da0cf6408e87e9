-- AF sessions by whether they show an address, and the rules of those that are bound.
use Rattle.std.specs.Prelude.{◌≡◌, ℕ, Bool, true, not, List, [], ◌∷◌, ◌++◌}
use Rattle.std.specs.List.{filter}
use Rattle.pcrf_values.specs.Sets.{In}
use Rattle.pcrf_values.specs.RuleValues.{RuleValue}
use Rattle.pcrf_values.specs.Facts.{Fact}
use Rattle.pcrf_values.specs.Held.{entry_shown}
use Rattle.pcrf_values.specs.Live.{shows_at}
use Rattle.pcrf_values.specs.Places.{address}
use Rattle.pcrf_model.specs.Bindings.{is_bound_to}
use Rattle.pcrf_model.specs.Holdings.{SessionFact, facts_on}
use Rattle.pcrf_model.specs.Sessions.{Session, af}
use Rattle.pcrf_model.specs.Tables.{Tables}
use Rattle.pcrf_model.specs.Views.{view}
use Rattle.bind_index.specs.Index.{ByNetwork}
use Rattle.site_join.specs.States.{Records}
use Rattle.pcc_rules.specs.Listed.{AddsRules}

-- the AF session shows an address
abbrev pub has_address : List SessionFact → List ℕ → Bool
has_address facts id = shows_at (entry_shown (facts_on facts (af id))) address

-- those of these AF sessions that show none
abbrev pub without_address : List SessionFact → List (List ℕ) → List (List ℕ)
without_address facts = filter (λ (id : List ℕ). not (has_address facts id))

-- the sessions of all networks
abbrev pub all_ids : ByNetwork → List (List ℕ)
all_ids [] = []
all_ids (e ∷ es) = e.1 ++ all_ids es

-- To the rules that were found those of AF sessions are added that are bound to s: of all that show an address, or of all that show none.
pub record AddsBound (by_address : Bool) (t : Tables) (facts : List SessionFact) (s : Session) (before after : List (ℕ × RuleValue)) : Type 0 where
  pub among : Records
  pub own : (e : List ℕ × List Fact) → In e among → facts_on facts (af e.0) ≡ e.1
  pub has : (id : List ℕ) → is_bound_to (view facts) s (af id) ≡ true → has_address facts id ≡ by_address → In (id, facts_on facts (af id)) among
  pub adds : AddsRules t (view facts) s before after among
