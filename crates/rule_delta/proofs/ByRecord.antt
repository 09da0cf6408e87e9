-- Whether a session is abandoned, and what is asked of it, is read of its own record and of its binding.
use Rattle.std.proofs.Common.{◌≡◌, ℕ, Bool, true, false, cond, not, ◌&&◌, is_none, List, Option, Some, None, refl, ap, ◌∙◌}
use Rattle.std.specs.List.{list_all}
use Rattle.pcrf_values.specs.Live.{shows_at}
use Rattle.pcrf_model.specs.Aborting.{client_places, abort_of}
use Rattle.pcrf_model.specs.Bindings.{bind}
use Rattle.pcrf_model.specs.Holdings.{SessionFact, facts_on}
use Rattle.pcrf_model.specs.Live.{is_live}
use Rattle.pcrf_model.specs.Pushing.{is_home, is_of_host}
use Rattle.pcrf_model.specs.Sessions.{af}
use Rattle.pcrf_model.specs.Views.{View, view}
use Rattle.rule_delta.specs.Abandoned.{abort_if_left}
use Rattle.rule_delta.specs.AbortsByRecord.{abort_if_abandoned, is_at_host}

-- one of several conditions in another place
moved : (a b c e f n : Bool) → (a && b && c && e && f && n) ≡ (a && b && n && c && e && f)
moved false b c e f n = refl
moved true false c e f n = refl
moved true true false e f false = refl
moved true true false e f true = refl
moved true true true false f false = refl
moved true true true false f true = refl
moved true true true true false false = refl
moved true true true true false true = refl
moved true true true true true false = refl
moved true true true true true true = refl

module _ (i : ℕ) (facts : List SessionFact) (id : List ℕ) where
  -- what is read of the facts
  abbrev v : View
  v = view facts

  -- its host is read alone
  host_alone : (given : Option (List ℕ)) → is_at_host given (facts_on facts (af id)) ≡ is_of_host v given (af id)
  unfolding view
  host_alone None = refl
  host_alone (Some h) = refl

  -- and so is what is asked
  pub abort_alone : (name : Option (List ℕ)) → abort_if_abandoned v i name id (facts_on facts (af id)) ≡ abort_if_left i v name (af id)
  unfolding view
  abort_alone name =
      ap (λ (b : Bool). cond (is_live v (af id) && list_all (shows_at (v.shows (af id))) client_places && not (v.aborted (af id)) && is_home i v (af id) && b && is_none (bind v (af id))) (Some (abort_of v (af id))) None) (host_alone name)
      ∙ ap (λ (b : Bool). cond b (Some (abort_of v (af id))) None)
      (moved (is_live v (af id)) (list_all (shows_at (v.shows (af id))) client_places) (not (v.aborted (af id))) (is_home i v (af id)) (is_of_host v name (af id)) (is_none (bind v (af id))))
