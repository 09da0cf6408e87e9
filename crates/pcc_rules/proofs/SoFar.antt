-- What loops keep.
use Rattle.std.proofs.Common.{◌≡◌, ℕ, List, ◌++◌, map}
use Rattle.pcrf_values.specs.RuleValues.{RuleValue}
use Rattle.pcrf_values.specs.Facts.{Fact}
use Rattle.pcrf_values.specs.FlowWords.{flows}
use Rattle.pcrf_model.specs.Sessions.{Session}
use Rattle.pcrf_model.specs.Views.{View}
use Rattle.pcrf_model.specs.Tables.{Tables}
use Rattle.pcc_rules.specs.FlowsAlone.{AreLow, AreLowWhereBound, rules_among, rules_of_sessions}
use Rattle.pcc_rules.specs.Listing.{keyed}

-- rules with their precedence in front
abbrev pub Keyed : Type 0
Keyed = List (ℕ × RuleValue)

-- The rules found go on with those of the flows that are left; numbers are low if those that are left are.
pub record FlowsSoFar (t : Tables) (id : List ℕ) (facts : List Fact) (before now : Keyed) (left : List (ℕ × ℕ)) : Type 0 where
  pub items : now ++ map keyed (rules_among t id facts left) ≡ before ++ map keyed (rules_among t id facts (flows facts))
  pub low : AreLow left → AreLow (flows facts)

-- and with those of the sessions that are left
pub record SessionsSoFar (t : Tables) (v : View) (s : Session) (before now : Keyed) (left all : List (List ℕ × List Fact)) : Type 0 where
  pub items : now ++ map keyed (rules_of_sessions t v s left) ≡ before ++ map keyed (rules_of_sessions t v s all)
  pub low : AreLowWhereBound v s left → AreLowWhereBound v s all
