-- Lists that are kept one after the other, until there is one of each live session.
use Rattle.std.proofs.Common.{◌≡◌, ℕ, Bool, true, false, cond, List, [], ◌∷◌, ◌++◌, ◌⊎◌, Option, Some, None, inl, inr, length, arith, refl, sym, ap, ◌∙◌, subst}
use Rattle.std.specs.declared.vec.Vec.{Vec}
use Rattle.std.specs.Ordering.{is_eq}
use Rattle.pcrf_values.specs.Orders.{text_cmp}
use Rattle.pcrf_values.specs.Sets.{In}
use Rattle.pcrf_values.proofs.OrderLaws.{text_ranked, eq_is}
use Rattle.pcrf_values.proofs.Plain.{clash}
use Rattle.pcrf_values.proofs.SetLaws.{In-left, In-right}
use Rattle.lattice_core.specs.Entries.{value_at}
use Rattle.lattice_core.proofs.MapParts.{found_entry}
use Rattle.pcrf_values.specs.RuleValues.{RuleValue}
use Rattle.pcrf_values.specs.Facts.{Fact}
use Rattle.pcrf_values.specs.Live.{gx_is_live}
use Rattle.pcrf_model.specs.Holdings.{SessionFact, facts_on}
use Rattle.pcrf_model.specs.Live.{is_live}
use Rattle.pcrf_model.specs.Sessions.{gx}
use Rattle.pcrf_model.specs.Tables.{Tables}
use Rattle.pcrf_model.specs.Views.{View, view}
use Rattle.site_join.specs.States.{record_facts}
use Rattle.pcc_rules.specs.Cached.{RulesValue, cached_at, AreCached}
use Rattle.pcc_rules.proofs.Keeping.{one_kept, its_kept}
use Rattle.pcc_rules.specs.Many.{AreCachedOf, AreRulesOf, AreFresh, AreAllStale, KeepsAll}

-- of the sessions those that are left have the lists that are left, and of the others, and of those of which they were kept before, the rules are kept
pub record KeptSoFar {A : Type 0} (t : Tables) (v : View) (before lists : RulesValue) (ids rest : List (List ℕ)) (left : List (Vec RuleValue A)) : Type 0 where
  pub kept : AreCached t v lists
  pub made : AreRulesOf t v rest left
  pub each : (id : List ℕ) → In id ids → In id rest ⊎ AreCachedOf t v lists id
  pub stays : (id : List ℕ) → AreCachedOf t v before id → AreCachedOf t v lists id

-- at first
pub none_so_far : {A : Type 0} (t : Tables) (v : View) (before : RulesValue) (ids : List (List ℕ)) (left : List (Vec RuleValue A)) → AreRulesOf t v ids left → AreCached t v before → KeptSoFar t v before before ids ids left
none_so_far t v before ids left made kept = record { kept = kept; made = made; each = λ id m. inl m; stays = λ id h. h }

module _ {A : Type 0} (t : Tables) (v : View) (before lists after : RulesValue) (ids : List (List ℕ)) (id : List ℕ) (rest : List (List ℕ)) (made : Vec RuleValue A) (left : List (Vec RuleValue A)) where
  -- after one more
  pub one_more : KeptSoFar t v before lists ids (id ∷ rest) (made ∷ left) → ((q : List ℕ) → cached_at after q ≡ cond (is_eq (text_cmp id q)) (Some made.items) (cached_at lists q)) → KeptSoFar t v before after ids rest left
  one_more s keeps = record {
    kept = one_kept t v lists s.kept id made.items s.made.0.0 s.made.0.1 after keeps;
    made = s.made.1;
    each = λ q m. further q (s.each q m);
    stays = λ q h. still q (is_eq (text_cmp id q)) refl (s.stays q h);
  }
    where
      own : AreCachedOf t v after id
      own = its_kept t v lists s.kept id made.items s.made.0.0 s.made.0.1 after keeps

      still : (q : List ℕ) (b : Bool) → is_eq (text_cmp id q) ≡ b → AreCachedOf t v lists q → AreCachedOf t v after q
      still q true e h = subst (λ (x : List ℕ). AreCachedOf t v after x) (eq_is text_ranked id q e) own
      still q false e h = keeps q ∙ ap (λ b. cond b (Some made.items) (cached_at lists q)) e ∙ h

      further : (q : List ℕ) → In q (id ∷ rest) ⊎ AreCachedOf t v lists q → In q rest ⊎ AreCachedOf t v after q
      further q (inl (inl e)) = inr (subst (λ (x : List ℕ). AreCachedOf t v after x) (sym e) own)
      further q (inl (inr m)) = inl m
      further q (inr h) = inr (still q (is_eq (text_cmp id q)) refl h)

-- once no lists are left
pub all_so_far : {A : Type 0} (t : Tables) (v : View) (before lists : RulesValue) (ids rest : List (List ℕ)) (left : List (Vec RuleValue A)) → length left ≡ 0 → KeptSoFar t v before lists ids rest left → KeepsAll t v before lists ids
all_so_far {A} t v before lists ids rest left none s = record { each = λ id m. over id rest left none s.made (s.each id m); stays = s.stays }
  where
    over : (id : List ℕ) (xs : List (List ℕ)) (ls : List (Vec RuleValue A)) → length ls ≡ 0 → AreRulesOf t v xs ls → In id xs ⊎ AreCachedOf t v lists id → AreCachedOf t v lists id
    over id [] [] e h (inl m) = absurd m
    over id [] [] e h (inr k) = k
    over id (x ∷ xs) [] e h w = absurd h
    over id xs (l ∷ ls) e h w = absurd (omega arith)

-- ---- which sessions are stale

-- the session of a record is not live, or its rules are kept, or it is listed
abbrev pub IsSeen : RulesValue → List (List ℕ) → List ℕ × List Fact → Type 0
IsSeen kept found e = gx_is_live e.1 ≡ true → cached_at kept e.0 ≡ None → In e.0 found

-- after the session of one more record was listed
pub next_seen : (kept : RulesValue) (found : List (List ℕ)) (rest next : List (List ℕ × List Fact)) (id : List ℕ) (fs : List Fact) (e : List ℕ × List Fact) → rest ≡ (id, fs) ∷ next
    → In e rest ⊎ IsSeen kept found e → In e next ⊎ IsSeen kept (found ++ id ∷ []) e
next_seen kept found rest next id fs e q (inl m) = go (subst (λ (l : List (List ℕ × List Fact)). In e l) q m)
  where
    go : In e ((id, fs) ∷ next) → In e next ⊎ IsSeen kept (found ++ id ∷ []) e
    go (inl p) = inr (λ live stale. In-right e.0 found (id ∷ []) (inl (ap (λ (d : List ℕ × List Fact). d.0) p)))
    go (inr j) = inl j
next_seen kept found rest next id fs e q (inr h) = inr (λ live stale. In-left e.0 found (id ∷ []) (h live stale))

-- once each record was looked at
pub all_stale : (facts : List SessionFact) (kept : RulesValue) (found : List (List ℕ)) (all rest : List (List ℕ × List Fact))
    → ((id : List ℕ) → record_facts (value_at text_cmp all id) ≡ facts_on facts (gx id))
    → ((e : List ℕ × List Fact) → In e all → In e rest ⊎ IsSeen kept found e) → rest ≡ [] → AreAllStale (view facts) kept found
unfolding view
all_stale facts kept found all rest reads seen none = λ id live stale. of id (value_at text_cmp all id) refl live stale
  where
    of : (id : List ℕ) (o : Option (List Fact)) → value_at text_cmp all id ≡ o → gx_is_live (facts_on facts (gx id)) ≡ true → cached_at kept id ≡ None → In id found
    of id None e live stale = clash _ live (ap gx_is_live (sym (sym (ap record_facts e) ∙ reads id)))
    of id (Some fs) e live stale = elim (seen (id, fs) (found_entry text_ranked id fs all e)) [
      | inl j ↦ absurd (subst (λ (l : List (List ℕ × List Fact)). In (id, fs) l) none j)
      | inr h ↦ h (ap gx_is_live (sym (ap record_facts e) ∙ reads id) ∙ live) stale
    ]

-- ---- all together

-- where all that were stale are kept, each live session's rules are
pub all_fresh : (t : Tables) (v : View) (before after : RulesValue) (ids : List (List ℕ)) → AreCached t v before → AreAllStale v before ids → KeepsAll t v before after ids → AreFresh t v after
all_fresh t v before after ids kept stale keeps = λ id live. of id (cached_at before id) refl live
  where
    of : (id : List ℕ) (o : Option (List RuleValue)) → cached_at before id ≡ o → is_live v (gx id) ≡ true → AreCachedOf t v after id
    of id None e live = keeps.each id (stale id live e)
    of id (Some rs) e live = keeps.stays id (e ∙ ap Some (kept.each id rs e))
