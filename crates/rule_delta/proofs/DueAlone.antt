-- Whether a session is due, and its push, is read of its own record and of its rules.
use Rattle.std.proofs.Common.{◌≡◌, ℕ, Bool, cond, not, ◌&&◌, List, Option, Some, None, refl, ap}
use Rattle.pcrf_model.specs.Differences.{is_empty}
use Rattle.pcrf_model.specs.Holdings.{SessionFact, facts_on}
use Rattle.pcrf_model.specs.Live.{is_live}
use Rattle.pcrf_model.specs.Pushing.{is_of_host, is_home}
use Rattle.pcrf_model.specs.Sessions.{gx}
use Rattle.pcrf_model.specs.Tables.{Tables}
use Rattle.pcrf_model.specs.Views.{View, view}
use Rattle.rule_delta.specs.ByRecord.{is_at_host, push_due}
use Rattle.rule_delta.specs.Pushed.{untold_difference, push_of}
use Rattle.rule_delta.specs.Due.{push_if_due}

module _ (t : Tables) (i : ℕ) (facts : List SessionFact) (id : List ℕ) where
  -- what is read of the facts
  abbrev v : View
  v = view facts

  -- its host is read alone
  host_alone : (given : Option (List ℕ)) → is_at_host given (facts_on facts (gx id)) ≡ is_of_host v given (gx id)
  unfolding view
  host_alone None = refl
  host_alone (Some h) = refl

  -- and so is its push
  pub push_alone : (name : Option (List ℕ)) → push_due t v i name id (facts_on facts (gx id)) ≡ push_if_due t i v name (gx id)
  unfolding view
  push_alone name = ap (λ (b : Bool). cond (is_live v (gx id) && is_home i v (gx id) && b && not (is_empty (untold_difference t v (gx id)))) (Some (push_of t v (gx id))) None) (host_alone name)
