-- The first that is abandoned of those that wait.
use Rattle.std.proofs.Common.{◌≡◌, ℕ, suc, ◌≤◌, arith, length, Bool, true, false, ◌||◌, cond, drop, List, [], ◌∷◌, ◌⊎◌, map, Option, Some, None, is_some, find, inl, inr, refl, sym, ap, ◌∙◌, subst, if◌then◌else◌}
use Rattle.std.specs.Ordering.{is_eq}
use Rattle.pcrf_values.specs.Ascending.{Rises}
use Rattle.pcrf_values.specs.Orders.{text_cmp}
use Rattle.pcrf_values.specs.Sets.{In}
use Rattle.pcrf_values.proofs.OrderLaws.{text_ranked, eq_is, eq_itself}
use Rattle.pcrf_values.proofs.Plain.{clash, none_some, some_same}
use Rattle.pcrf_model.specs.Holdings.{SessionFact}
use Rattle.pcrf_model.specs.Aborting.{is_abandoned, abandoned_session}
use Rattle.pcrf_model.specs.Sessions.{af}
use Rattle.pcrf_model.specs.Views.{view}
use Rattle.pcrf_model.specs.Waiting.{LeavesOut}
use Rattle.rule_delta.proofs.Firsts.{first_waits, only_abandoned}
use Rattle.bind_index.specs.Lists.{first_of, without_first}
use Rattle.rule_delta.specs.Waits.{WaitingValue, waiting_of, is_waiting, Keeps, WaitsUnder}
use Rattle.rule_delta.specs.Abandoned.{AbandonedWait}

-- a list of which one comes first
began : (ids : List (List ℕ)) (id : List ℕ) → Some id ≡ first_of ids → ids ≡ id ∷ drop 1 ids
began [] id h = none_some id (sym h)
began (x ∷ xs) id h = ap (λ (y : List ℕ). y ∷ xs) (sym (some_same id x h))

-- one of which none does
empty : (ids : List (List ℕ)) → None ≡ first_of ids → ids ≡ []
empty [] h = refl
empty (x ∷ xs) h = none_some x h

-- neither of two
neither : (a b : Bool) → (a || b) ≡ false → (a ≡ false) × (b ≡ false)
neither false b e = (refl, e)
neither true b e = clash true refl e

-- there is none
is_none : (o : Option (List ℕ)) → is_some o ≡ false → None ≡ o
is_none None e = refl
is_none (Some x) e = clash true refl e

-- where nobody waits under the host none is abandoned
pub nobody_left : (i : ℕ) (facts : List SessionFact) (name : List ℕ) (w : WaitingValue) → AbandonedWait i (view facts) w → is_waiting w name ≡ false
    → abandoned_session i (view facts) (Some name) ≡ None
nobody_left i facts name w h e =
    let parts = neither w.all (is_some (first_of (waiting_of w name))) e in
    let none : waiting_of w name ≡ [] = empty (waiting_of w name) (is_none (first_of (waiting_of w name)) parts.1) in
    first_waits i facts (waiting_of w) name (h.listed parts.0) (subst (λ (ids : List (List ℕ)). Rises text_cmp ids) (sym none) tt)
    ∙ ap (λ (ids : List (List ℕ)). find (is_abandoned i (view facts) (Some name)) (map af ids)) none

module _ (i : ℕ) (facts : List SessionFact) (name : List ℕ) (u w : WaitingValue)
    (rest : (other : List ℕ) → waiting_of w other ≡ without_first text_cmp u.lists name other) where
  -- where none comes first none is abandoned
  pub none_left : u.all ≡ false → AbandonedWait i (view facts) u → Rises text_cmp (waiting_of u name) → None ≡ first_of (waiting_of u name) → None ≡ abandoned_session i (view facts) (Some name)
  none_left a h rises none =
      sym (first_waits i facts (waiting_of u) name (h.listed a) rises
      ∙ ap (λ (ids : List (List ℕ)). find (is_abandoned i (view facts) (Some name)) (map af ids)) (empty (waiting_of u name) none))

  -- and all wait as before
  pub stays : w.all ≡ u.all → None ≡ first_of (waiting_of u name) → AbandonedWait i (view facts) u → AbandonedWait i (view facts) w
  stays same none h = record {
    listed = λ a. record { each = λ other s d. by other s.id ((h.listed (sym same ∙ a)).each other s d) (is_eq (text_cmp name other)) refl };
  }
    where
      by : (other x : List ℕ) → In x (waiting_of u other) → (b : Bool) → is_eq (text_cmp name other) ≡ b → In x (waiting_of w other)
      by other x m true e =
          let same : name ≡ other = eq_is text_ranked name other e in
          let nothing : waiting_of u other ≡ [] = subst (λ (n : List ℕ). waiting_of u n ≡ []) same (empty (waiting_of u name) none) in
          absurd (subst (λ (ids : List (List ℕ)). In x ids) nothing m)
      by other x m false e =
          let left : waiting_of w other ≡ waiting_of u other = rest other ∙ ap (λ b. if b then drop 1 (waiting_of u other) else waiting_of u other) e in
          subst (λ (ids : List (List ℕ)). In x ids) (sym left) m

  module _ (id : List ℕ) (first : Some id ≡ first_of (waiting_of u name)) where
    -- the first that is abandoned is the one
    pub is_first : u.all ≡ false → AbandonedWait i (view facts) u → Rises text_cmp (waiting_of u name) → is_abandoned i (view facts) (Some name) (af id) ≡ true → Some (af id) ≡ abandoned_session i (view facts) (Some name)
    is_first a h rises d =
        sym (first_waits i facts (waiting_of u) name (h.listed a) rises
        ∙ ap (λ (ids : List (List ℕ)). find (is_abandoned i (view facts) (Some name)) (map af ids)) (began (waiting_of u name) id first)
        ∙ ap (λ b. cond b (Some (af id)) (find (is_abandoned i (view facts) (Some name)) (map af (drop 1 (waiting_of u name))))) d)

    -- fewer wait under the host
    pub fewer : suc (length (waiting_of w name)) ≤ length (waiting_of u name)
    fewer =
        let left : waiting_of w name ≡ drop 1 (waiting_of u name) = rest name ∙ ap (λ b. if b then drop 1 (waiting_of u name) else waiting_of u name) (eq_itself text_ranked name) in
        let one : suc (length (drop 1 (waiting_of u name))) ≤ length (id ∷ drop 1 (waiting_of u name)) = omega arith in
        subst (λ (ids : List (List ℕ)). suc (length ids) ≤ length (waiting_of u name)) (sym left)
        (subst (λ (ids : List (List ℕ)). suc (length (drop 1 (waiting_of u name))) ≤ length ids) (sym (began (waiting_of u name) id first)) one)

    -- all that waited wait, but for that one
    leaves : LeavesOut (waiting_of u) (waiting_of w) name id
    leaves = record { stay = λ other x m. by other x m (is_eq (text_cmp name other)) refl }
      where
        by : (other x : List ℕ) → In x (waiting_of u other) → (b : Bool) → is_eq (text_cmp name other) ≡ b → ((other ≡ name) × (x ≡ id)) ⊎ In x (waiting_of w other)
        by other x m true e =
            let same : name ≡ other = eq_is text_ranked name other e in
            let left : waiting_of w other ≡ drop 1 (waiting_of u other) = rest other ∙ ap (λ b. if b then drop 1 (waiting_of u other) else waiting_of u other) e in
            let whole : waiting_of u other ≡ id ∷ drop 1 (waiting_of u other) = subst (λ (n : List ℕ). waiting_of u n ≡ id ∷ drop 1 (waiting_of u n)) same (began (waiting_of u name) id first) in
            elim (subst (λ (ids : List (List ℕ)). In x ids) whole m) [
              | inl q ↦ inl (sym same, q)
              | inr j ↦ inr (subst (λ (ids : List (List ℕ)). In x ids) (sym left) j)
            ]
        by other x m false e =
            let left : waiting_of w other ≡ waiting_of u other = rest other ∙ ap (λ b. if b then drop 1 (waiting_of u other) else waiting_of u other) e in
            inr (subst (λ (ids : List (List ℕ)). In x ids) (sym left) m)

    module _ (same : w.all ≡ u.all) where
      -- one that isn't abandoned may go
      pub goes : AbandonedWait i (view facts) u → is_abandoned i (view facts) (Some name) (af id) ≡ false → AbandonedWait i (view facts) w
      goes h n = record { listed = λ a. only_abandoned i (view facts) (waiting_of u) (waiting_of w) name id (h.listed (sym same ∙ a)) n leaves }

      -- one that is put back waits as before
      pub put_back : (x : WaitingValue) → AbandonedWait i (view facts) u → Keeps w x → WaitsUnder x name id → AbandonedWait i (view facts) x
      put_back x h k there = record {
        listed = λ a. record {
          each = λ other s d. elim (leaves.stay other s.id ((h.listed (sym same ∙ k.some a)).each other s d)) [
            | inl e ↦ subst (λ (n : List ℕ). In s.id (waiting_of x n)) (sym e.0) (subst (λ (q : List ℕ). In q (waiting_of x name)) (sym e.1) (there.there a))
            | inr m ↦ (k.stay a).each other s.id m
          ];
        };
      }
