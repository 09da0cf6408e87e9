-- Who is due after one session changed, where it is known whose rules can have changed.
use Rattle.std.proofs.Common.{◌≡◌, ℕ, Bool, true, not, ◌&&◌, List, ◌⊎◌, Option, Some, None, inl, inr, refl, sym, ap, ◌∙◌, subst}
use Rattle.std.specs.Cmp.{first_so, second_so}
use Rattle.pcrf_values.specs.Ascending.{Rises}
use Rattle.pcrf_values.proofs.AscendingLaws.{ascending-ascending, same_ascending}
use Rattle.pcrf_values.proofs.Plain.{clash, not_true}
use Rattle.pcrf_values.specs.Places.{OfRuleName}
use Rattle.pcrf_values.specs.ToldWords.{ToldRule}
use Rattle.pcrf_model.specs.Sessions.{Session, is_gx}
use Rattle.pcrf_model.specs.Holdings.{SessionFact}
use Rattle.pcrf_model.specs.Views.{View, view}
use Rattle.pcrf_model.specs.Tables.{Tables}
use Rattle.pcrf_model.specs.Rules.{rules}
use Rattle.pcrf_model.specs.Differences.{told_cmp, told_rules_of, difference, is_empty}
use Rattle.pcrf_model.specs.Pushing.{is_home, is_due, is_of_host}
use Rattle.pcrf_model.specs.Laws.{DifferInOne}
use Rattle.pcrf_model.specs.Waiting.{Waiting, AllDueWait, may_be_due, Stay, MayWait}
use Rattle.pcrf_model.proofs.DifferenceLaws.{told_ranked}
use Rattle.pcrf_model.proofs.ToldLaws.{told_is_told, told-shows, In-told}
use Rattle.pcrf_model.proofs.NeighbourLaws.{SaysTheSame, only, said, same_life, shown_there, which}

-- where both say the same of a session, what its gateway was told is the same
same_told : (xs ys : List SessionFact) (s : Session) → SaysTheSame (view xs) (view ys) s → told_rules_of (view xs) s ≡ told_rules_of (view ys) s
same_told xs ys s h = same_ascending told_cmp told_ranked (told_rules_of (view xs) s) (told_rules_of (view ys) s) (rises xs) (rises ys) (λ u. (
  λ j. let r = told-shows xs s u j in In-told ys s u.0 r.0 u.1 (sym (h.shows (OfRuleName u.0)) ∙ r.1),
  λ j. let r = told-shows ys s u j in In-told xs s u.0 r.0 u.1 (h.shows (OfRuleName u.0) ∙ r.1),
))
  where
    rises : (facts : List SessionFact) → Rises told_cmp (told_rules_of (view facts) s)
    rises facts = subst (λ (us : List ToldRule). Rises told_cmp us) (told_is_told facts s).in_order (ascending-ascending told_cmp told_ranked (told_rules_of (view facts) s))

-- and its host is the one that is asked for in both, or in neither
same_host : (v w : View) (s : Session) → SaysTheSame v w s → (name : Option (List ℕ)) → is_of_host v name s ≡ is_of_host w name s
same_host v w s h None = refl
same_host v w s h (Some name) = λ j. is_of_host (only (shown_there v w s h j) (h.ended j)) (Some name) s

-- and where it keeps its rules it is due as before
stays_due : (t : Tables) (i : ℕ) (xs ys : List SessionFact) (name : Option (List ℕ)) (s : Session) → SaysTheSame (view xs) (view ys) s → rules t (view xs) s ≡ rules t (view ys) s
    → is_due t i (view xs) name s ≡ is_due t i (view ys) name s
stays_due t i xs ys name s h k =
    let lives = same_life (view xs) (view ys) s h in
    let own = same_told xs ys s h in
    let hosts = same_host (view xs) (view ys) s h name in
    λ j. is_gx s.kind && lives j && is_home i (only (shown_there (view xs) (view ys) s h j) (h.ended j)) s && hosts j && not (is_empty (difference (own j) (k j)))

-- so who is due after one session changed waits, if it waits where its rules can have changed
pub by_rules : (t : Tables) (i : ℕ) (xs ys : List SessionFact) (d : Session) (before after : Waiting) → DifferInOne xs ys d → AllDueWait t i (view xs) before → Stay before after
    → ((s : Session) → MayWait i (view ys) after s ⊎ ((s ≡ d → ⊥) × (rules t (view xs) s ≡ rules t (view ys) s))) → AllDueWait t i (view ys) after
by_rules t i xs ys d before after h all stay each = record {
  each = λ name s u. elim (each s) [
    | inl m ↦ m.there name (first_so (may_be_due i (view ys) name s) _ u)
    | inr k ↦ stay.each name s.id (all.each name s (stays_due t i xs ys (Some name) s (said xs ys d s h k.0) k.1 ∙ u))
  ];
}

-- and where the session that changed isn't due, nor did the rules of another change, who waited is enough
pub none_more : (t : Tables) (i : ℕ) (xs ys : List SessionFact) (d : Session) (waiting : Waiting) → DifferInOne xs ys d → AllDueWait t i (view xs) waiting
    → ((s : Session) → rules t (view xs) s ≡ rules t (view ys) s) → is_empty (difference (told_rules_of (view ys) d) (rules t (view ys) d)) ≡ true → AllDueWait t i (view ys) waiting
none_more t i xs ys d waiting h all keep told = record {
  each = λ name s u. elim (which d s) [
    | inl e ↦ clash (told_all s) (ap told_all e ∙ told) (not_true (told_all s) (second_so (may_be_due i (view ys) name s) _ u))
    | inr n ↦ all.each name s (stays_due t i xs ys (Some name) s (said xs ys d s h n) (keep s) ∙ u)
  ];
}
  where
    told_all : Session → Bool
    told_all s = is_empty (difference (told_rules_of (view ys) s) (rules t (view ys) s))
