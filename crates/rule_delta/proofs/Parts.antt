-- What is said of a session that is abandoned, part by part.
use Rattle.std.proofs.Common.{◌≡◌, ℕ, Bool, true, false, not, ◌&&◌, List, Option, Some, None, is_none, refl, ap, unwrap_or, option_map}
use Rattle.std.specs.Cmp.{first_so, second_so}
use Rattle.std.specs.List.{list_all}
use Rattle.std.specs.Ordering.{is_eq}
use Rattle.pcrf_values.specs.Orders.{text_cmp}
use Rattle.pcrf_values.proofs.OrderLaws.{text_ranked, eq_is}
use Rattle.pcrf_values.proofs.Plain.{clash, not_true}
use Rattle.pcrf_values.specs.Live.{shows_at}
use Rattle.pcrf_values.specs.Places.{host}
use Rattle.pcrf_model.specs.Aborting.{client_places, is_abandoned}
use Rattle.pcrf_model.specs.Bindings.{bind}
use Rattle.pcrf_model.specs.Live.{is_live}
use Rattle.pcrf_model.specs.Pushing.{is_home, is_of_host}
use Rattle.pcrf_model.specs.Sessions.{Session, is_gx}
use Rattle.pcrf_model.specs.Views.{View, text}

-- its host is the one that is given
its_host : (v : View) (name : List ℕ) (s : Session) → is_of_host v (Some name) s ≡ true → text v s host ≡ Some name
its_host v name s h = by (text v s host) h
  where
    by : (o : Option (List ℕ)) → unwrap_or (option_map (λ x. is_eq (text_cmp x name)) o) false ≡ true → o ≡ Some name
    by None g = clash false g refl
    by (Some x) g = ap Some (eq_is text_ranked x name g)

module _ (i : ℕ) (v : View) (name : Option (List ℕ)) (s : Session) (h : is_abandoned i v name s ≡ true) where
  -- all but its host
  abbrev before_host : Bool
  before_host =
      not (is_gx s.kind) && is_live v s && list_all (shows_at (v.shows s)) client_places
      && is_none (bind v s) && not (v.aborted s) && is_home i v s

  -- it is of an application function
  pub of_call : is_gx s.kind ≡ false
  of_call = not_true (is_gx s.kind) (first_so (not (is_gx s.kind)) _ (first_so _ _ (first_so _ _ (first_so _ _ (first_so _ _ (first_so before_host _ h))))))

  -- it is bound to none
  pub unbound : is_none (bind v s) ≡ true
  unbound = second_so _ (is_none (bind v s)) (first_so _ _ (first_so _ _ (first_so before_host _ h)))

-- and its host is the one that is asked for
pub at_host : (i : ℕ) (v : View) (name : List ℕ) (s : Session) → is_abandoned i v (Some name) s ≡ true → text v s host ≡ Some name
at_host i v name s h = its_host v name s (second_so (before_host i v (Some name) s h) _ h)
