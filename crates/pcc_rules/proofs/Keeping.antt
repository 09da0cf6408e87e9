-- Lists that are kept are those of their sessions.
use Rattle.std.proofs.Common.{◌≡◌, ℕ, Bool, true, false, cond, List, map, Option, Some, None, Result, Ok, Err, is_some, option_map, OnOk, OnErr, refl, sym, ap, ◌∙◌, subst}
use Rattle.std.specs.Ordering.{is_eq}
use Rattle.pcrf_values.specs.Orders.{text_cmp}
use Rattle.pcrf_values.specs.Sets.{Distinct}
use Rattle.pcrf_values.proofs.OrderLaws.{text_ranked, eq_is, eq_itself}
use Rattle.pcrf_values.proofs.Plain.{none_some, some_same, some_is}
use Rattle.pcrf_values.specs.RuleValues.{RuleValue}
use Rattle.pcrf_model.specs.Differences.{rule_name_of}
use Rattle.pcrf_model.specs.Rules.{rules}
use Rattle.pcrf_model.specs.Sessions.{gx}
use Rattle.pcrf_model.specs.Tables.{Tables}
use Rattle.pcrf_model.specs.Views.{View}
use Rattle.pcc_rules.specs.Cached.{RulesValue, cached_at, AreCached}

-- none are kept
pub none_kept : (t : Tables) (v : View) (kept : RulesValue) → ((id : List ℕ) → cached_at kept id ≡ None) → AreCached t v kept
none_kept t v kept none = record {
  each = λ id rs h. none_some rs (sym (none id) ∙ h);
  apart = λ id rs h. none_some rs (sym (none id) ∙ h);
}

module _ (t : Tables) (v : View) (before : RulesValue) (h : AreCached t v before) where
  -- a list that is kept is the session's
  pub kept_is : {A : Type 0} (f : A → List RuleValue) (id : List ℕ) (o : Option A) → option_map f o ≡ cached_at before id → is_some o ≡ true → cached_at before id ≡ Some (rules t v (gx id))
  kept_is f id o e k =
      let w = some_is o k in
      let there : cached_at before id ≡ Some (f w.0) = sym e ∙ ap (option_map f) w.1 in
      there ∙ ap Some (h.each id (f w.0) there)

  module _ (id : List ℕ) (made : List RuleValue) (is : made ≡ rules t v (gx id)) (apart : Distinct (map rule_name_of made)) where
    -- the list that is there after one more is kept
    there : (q : List ℕ) (b : Bool) → is_eq (text_cmp id q) ≡ b → (rs : List RuleValue) → cond b (Some made) (cached_at before q) ≡ Some rs → (rs ≡ rules t v (gx q)) × Distinct (map rule_name_of rs)
    there q true e rs k =
        let same : made ≡ rs = some_same made rs k in
        (sym same ∙ is ∙ ap (λ (x : List ℕ). rules t v (gx x)) (eq_is text_ranked id q e), subst (λ (xs : List RuleValue). Distinct (map rule_name_of xs)) same apart)
    there q false e rs k = (h.each q rs k, h.apart q rs k)

    -- all are kept so
    pub one_kept : (after : RulesValue) → ((q : List ℕ) → cached_at after q ≡ cond (is_eq (text_cmp id q)) (Some made) (cached_at before q)) → AreCached t v after
    one_kept after keeps = record {
      each = λ q rs k. (there q (is_eq (text_cmp id q)) refl rs (sym (keeps q) ∙ k)).0;
      apart = λ q rs k. (there q (is_eq (text_cmp id q)) refl rs (sym (keeps q) ∙ k)).1;
    }

    -- also after a refusal
    pub one_kept_or_not : {E : Type 0} {A : Type 0} (r : Result A E) (after : RulesValue)
        → OnOk r ((q : List ℕ) → cached_at after q ≡ cond (is_eq (text_cmp id q)) (Some made) (cached_at before q)) → OnErr r (after ≡ before) → AreCached t v after
    one_kept_or_not (Ok x) after keeps same = one_kept after keeps
    one_kept_or_not (Err x) after keeps same = subst (λ (k : RulesValue). AreCached t v k) (sym same) h

    -- and that one is the session's
    pub its_kept : (after : RulesValue) → ((q : List ℕ) → cached_at after q ≡ cond (is_eq (text_cmp id q)) (Some made) (cached_at before q)) → cached_at after id ≡ Some (rules t v (gx id))
    its_kept after keeps = keeps id ∙ ap (λ b. cond b (Some made) (cached_at before id)) (eq_itself text_ranked id) ∙ ap Some is
