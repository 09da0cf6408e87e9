-- The session that is pushed is the first that is due.
use Rattle.std.proofs.Common.{◌≡◌, ℕ, zero, suc, ◌+◌, ◌-◌, ◌≤◌, map, Bool, true, false, cond, List, [], ◌∷◌, length, find, take, Option, Some, None, inl, inr, refl, sym, ap, ◌∙◌, subst, Ordering, Less, arith}
use Rattle.std.specs.Ordering.{is_lt}
use Rattle.std.specs.Cmp.{tied_itself, first_so, second_so}
use Rattle.pcrf_values.specs.Ascending.{Rises}
use Rattle.pcrf_values.specs.Sets.{In}
use Rattle.pcrf_values.proofs.Plain.{clash, is_false, some_same, none_some}
use Rattle.pcrf_values.proofs.OrderLaws.{IsRanked}
use Rattle.pcrf_values.proofs.AscendingLaws.{ascending-ascending}
use Rattle.pcrf_values.specs.RuleValues.{DeltaValue}
use Rattle.pcrf_model.specs.Sessions.{Session, session_cmp, is_gx}
use Rattle.pcrf_model.specs.Holdings.{SessionFact}
use Rattle.pcrf_model.specs.Views.{view}
use Rattle.pcrf_model.specs.Live.{is_live}
use Rattle.pcrf_model.specs.Tables.{Tables}
use Rattle.pcrf_model.specs.Differences.{first}
use Rattle.pcrf_model.specs.Pushing.{is_due, due_session}
use Rattle.pcrf_model.specs.Laws.{IsFirstDue}
use Rattle.pcrf_model.proofs.HoldingLaws.{session_ranked}
use Rattle.pcrf_model.proofs.ViewLaws.{its_session}
use Rattle.pcrf_model.proofs.BindLaws.{live-known}

-- ---- the first that passes

module _ {A : Type 0} (cmp : A → A → Ordering) (o : IsRanked cmp) (p : A → Bool) where
  -- it passes, and none that passes is before it
  abbrev IsFirst : List A → A → Type 0
  IsFirst xs s = (p s ≡ true) × ((r : A) → In r xs → p r ≡ true → cmp r s ≡ Less → ⊥)

  -- nothing is below itself
  not_itself : (x y : A) → x ≡ y → cmp x y ≡ Less → ⊥
  not_itself x y q l = clash (is_lt (cmp x y)) (ap is_lt l) (ap is_lt (ap (λ z. cmp z y) q ∙ tied_itself o.total y))

  -- no two are below each other
  not_both : (x y : A) → cmp x y ≡ Less → cmp y x ≡ Less → ⊥
  not_both x y h k = not_itself x x refl (o.total.trans x y x h k)

  -- what is found in a rising list
  pub found_first : (xs : List A) (s : A) → Rises cmp xs → find p xs ≡ Some s → IsFirst xs s
  found_first [] s up h = none_some s h
  found_first (x ∷ xs) s up h = elim (p x) as (λ b. p x ≡ b → cond b (Some x) (find p xs) ≡ Some s → IsFirst (x ∷ xs) s) [
    | true ↦ λ t k. here t (some_same x s k)
    | false ↦ λ f k. past f (found_first xs s up.1 k)
  ] refl h
    where
      here : p x ≡ true → x ≡ s → IsFirst (x ∷ xs) s
      here t q = (
        sym (ap p q) ∙ t,
        λ r i u l. elim i [
          | inl e ↦ not_itself r s (e ∙ q) l
          | inr j ↦ not_both x r (up.0 r j) (subst (λ (z : A). cmp r z ≡ Less) (sym q) l)
        ],
      )

      past : p x ≡ false → IsFirst xs s → IsFirst (x ∷ xs) s
      past f k = (
        k.0,
        λ r i u l. elim i [
          | inl e ↦ clash (p x) (sym (ap p e) ∙ u) f
          | inr j ↦ k.1 r j u l
        ],
      )

  -- where none is found none passes
  pub found_none : (xs : List A) → find p xs ≡ None → (r : A) → In r xs → p r ≡ true → ⊥
  found_none [] h r i t = absurd i
  found_none (x ∷ xs) h r i t = elim (p x) as (λ b. p x ≡ b → cond b (Some x) (find p xs) ≡ None → ⊥) [
    | true ↦ λ _ k. none_some x (sym k)
    | false ↦ λ f k. elim i [ inl e ↦ clash (p x) (sym (ap p e) ∙ t) f | inr j ↦ found_none xs k r j t ]
  ] refl h

-- the sessions rise
sessions_rise : (facts : List SessionFact) → Rises session_cmp (view facts).sessions
unfolding view
sessions_rise facts = ascending-ascending session_cmp session_ranked (map its_session facts)

-- a test that only live sessions pass
module _ (facts : List SessionFact) (test : Session → Bool)
    (lives : (s : Session) → test s ≡ true → is_live (view facts) s ≡ true) where
  -- whoever passes has facts
  passing_known : (s : Session) → test s ≡ true → In s (view facts).sessions
  passing_known s h = live-known facts s (lives s h)

  -- who is found is the first that passes
  pub first_passing : (s : Session) → find test (view facts).sessions ≡ Some s
      → (test s ≡ true) × ((r : Session) → test r ≡ true → session_cmp r s ≡ Less → ⊥)
  first_passing s h =
      let rise = sessions_rise facts in
      let f = found_first session_cmp session_ranked test (view facts).sessions s rise h in
      (f.0, λ r u l. f.1 r (passing_known r u) u l)

  -- and where none is found none passes
  pub none_passing : find test (view facts).sessions ≡ None → (s : Session) → test s ≡ false
  none_passing h s = is_false (test s) (λ u.
      found_none session_cmp session_ranked test (view facts).sessions h s (passing_known s u) u)

-- ---- pushes

-- a session that is due is live
due_lives : (t : Tables) (i : ℕ) (facts : List SessionFact) (name : Option (List ℕ)) (s : Session)
    → is_due t i (view facts) name s ≡ true → is_live (view facts) s ≡ true
due_lives t i facts name s h =
    second_so (is_gx s.kind) _ (first_so _ _ (first_so _ _ (first_so _ _ h)))

-- the one that is pushed is the first that is due
pub first_due : (t : Tables) (i : ℕ) (facts : List SessionFact) (name : Option (List ℕ)) (s : Session) → due_session t i (view facts) name ≡ Some s → IsFirstDue t i facts name s
unfolding due_session
first_due t i facts name s h =
    let f = first_passing facts (is_due t i (view facts) name) (due_lives t i facts name) s h in
    record { is_one = f.0; none_before = f.1 }

-- and none is where none is found
pub none_due : (t : Tables) (i : ℕ) (facts : List SessionFact) (name : Option (List ℕ)) → due_session t i (view facts) name ≡ None → (s : Session) → is_due t i (view facts) name s ≡ false
unfolding due_session
none_due t i facts name h =
    none_passing facts (is_due t i (view facts) name) (due_lives t i facts name) h

-- ---- differences

-- a list that is no longer than n is its first n members
take_all : {A : Type 0} (n : ℕ) (xs : List A) → length xs ≤ n → take n xs ≡ xs
take_all zero [] h = refl
take_all (suc n) [] h = refl
take_all zero (x ∷ xs) h = absurd (omega (arith, h))
take_all (suc n) (x ∷ xs) h = ap (λ ys. x ∷ ys) (take_all n xs (omega (arith, h)))

-- the first entries are all where there are no more
pub first_is_all : (n : ℕ) (d : DeltaValue) → length d.removed + length d.installed ≤ n → first n d ≡ d
first_is_all n d h =
    let removed = take_all n d.removed (omega (arith, h)) in
    let installed = take_all (n - length d.removed) d.installed (omega (arith, h)) in
    λ i. record { removed = removed i; installed = installed i }
