-- Which lists are stale after some were taken out.
use Rattle.std.proofs.Common.{◌≡◌, ℕ, Bool, true, false, cond, List, [], ◌∷◌, ◌⊎◌, None, inl, inr, refl, sym, ap, ◌∙◌, subst}
use Rattle.std.specs.List.{list_any}
use Rattle.std.specs.Ordering.{is_eq}
use Rattle.pcrf_values.specs.Orders.{text_cmp}
use Rattle.pcrf_values.specs.Sets.{In}
use Rattle.pcrf_values.proofs.OrderLaws.{text_ranked, eq_is, eq_itself}
use Rattle.pcrf_values.proofs.Plain.{clash, is_false}
use Rattle.pcrf_values.proofs.SetLaws.{In-any, any-In}
use Rattle.pcc_rules.specs.Cached.{RulesValue, cached_at, AreStale}

-- after one list was taken out
pub stale_one : (before after : RulesValue) (id : List ℕ) → ((q : List ℕ) → cached_at after q ≡ cond (is_eq (text_cmp id q)) None (cached_at before q)) → AreStale before after (id ∷ [])
stale_one before after id takes = record {
  gone = λ q i. elim i [
    | inl e ↦ takes q ∙ ap (λ b. cond b None (cached_at before q)) (subst (λ (x : List ℕ). is_eq (text_cmp id x) ≡ true) (sym e) (eq_itself text_ranked id))
    | inr n ↦ absurd n
  ];
  others = λ q n. takes q ∙ ap (λ b. cond b None (cached_at before q)) (is_false _ (λ e. n (inl (sym (eq_is text_ranked id q e)))));
}

-- where none was
pub stale_none : (kept : RulesValue) → AreStale kept kept []
stale_none kept = record { gone = λ q i. absurd i; others = λ q n. refl }

-- a Session-Id is among others, or it isn't
among_or_not : (x : List ℕ) (xs : List (List ℕ)) → In x xs ⊎ ¬ In x xs
among_or_not x xs = by (list_any (λ y. is_eq (text_cmp x y)) xs) refl
  where
    by : (b : Bool) → list_any (λ y. is_eq (text_cmp x y)) xs ≡ b → In x xs ⊎ ¬ In x xs
    by true e =
        let w = any-In (λ y. is_eq (text_cmp x y)) xs e in
        inl (subst (λ (y : List ℕ). In y xs) (sym (eq_is text_ranked x w.0 w.2)) w.1)
    by false e = inr (λ i. clash _ (In-any (λ y. is_eq (text_cmp x y)) x xs i (eq_itself text_ranked x)) e)

-- after one and then more
pub stale_more : (before now after : RulesValue) (id : List ℕ) (ids : List (List ℕ)) → AreStale before now (id ∷ []) → AreStale now after ids → AreStale before after (id ∷ ids)
stale_more before now after id ids g h = record {
  gone = λ q i. elim (among_or_not q ids) [
    | inl m ↦ h.gone q m
    | inr n ↦ h.others q n ∙ g.gone q (elim i [ inl e ↦ inl e | inr m ↦ absurd (n m) ])
  ];
  others = λ q n. h.others q (λ m. n (inr m)) ∙ g.others q (λ m. elim m [ inl e ↦ n (inl e) | inr k ↦ absurd k ]);
}

-- once those that are left are stale, all are
pub record StaleSoFar (before now : RulesValue) (left all : List (List ℕ)) : Type 0 where
  pub rest : (after : RulesValue) → AreStale now after left → AreStale before after all
