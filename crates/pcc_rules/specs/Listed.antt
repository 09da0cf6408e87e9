-- The rules of the AF sessions that are listed, session by session.
use Rattle.std.specs.Prelude.{◌≡◌, ℕ, true, List, ◌++◌, map, Some}
use Rattle.pcrf_values.specs.RuleValues.{RuleValue}
use Rattle.pcrf_values.specs.Sets.{In}
use Rattle.pcrf_values.specs.Facts.{Fact}
use Rattle.pcrf_values.specs.Places.{Place}
use Rattle.pcrf_values.specs.Values.{Entry}
use Rattle.pcrf_model.specs.Holdings.{SessionFact, facts_on}
use Rattle.pcrf_model.specs.Sessions.{Session, af}
use Rattle.pcrf_model.specs.Tables.{Tables}
use Rattle.pcrf_model.specs.Views.{View, view}
use Rattle.pcrf_model.specs.Bindings.{is_bound_to}
use Rattle.site_join.specs.States.{Records}
use Rattle.pcc_rules.specs.FlowsAlone.{rules_of_sessions, AreLowWhereBound}
use Rattle.pcc_rules.specs.Listing.{keyed}

-- the session with its facts
abbrev pub record_of : List SessionFact → List ℕ → List ℕ × List Fact
record_of facts id = (id, facts_on facts (af id))

-- each of these sessions
abbrev pub records_of : List SessionFact → List (List ℕ) → Records
records_of facts = map (record_of facts)

-- to the rules that were found those of the sessions among these are added that are bound to s
pub record AddsRules (t : Tables) (v : View) (s : Session) (before after : List (ℕ × RuleValue)) (es : Records) : Type 0 where
  pub items : after ≡ before ++ map keyed (rules_of_sessions t v s es)
  pub low : AreLowWhereBound v s es

-- each of these is the record of its session, and among them is each session that is bound to s and shows something
pub record HasBound (facts : List SessionFact) (s : Session) (es : Records) : Type 0 where
  pub own : (e : List ℕ × List Fact) → In e es → facts_on facts (af e.0) ≡ e.1
  pub has : (id : List ℕ) (p : Place) (x : Entry) → is_bound_to (view facts) s (af id) ≡ true → (view facts).shows (af id) p ≡ Some x → In (id, facts_on facts (af id)) es

-- to the rules that were found those of all sessions are added that are bound to s
pub record AddsCalled (t : Tables) (facts : List SessionFact) (s : Session) (before after : List (ℕ × RuleValue)) : Type 0 where
  pub among : Records
  pub bound : HasBound facts s among
  pub adds : AddsRules t (view facts) s before after among
