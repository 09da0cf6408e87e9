-- The told entries of a session are in order, and no name comes twice.
use Rattle.std.proofs.Common.{◌≡◌, ℕ, true, false, cond, List, [], ◌∷◌, map, Option, Some, None, refl, sym, ap, ◌∙◌, Ordering, Less, Equal, Greater}
use Rattle.std.specs.Ordering.{is_eq, is_lt, ordering_then}
use Rattle.std.specs.Cmp.{tied_itself}
use Rattle.std.specs.List.{filter_map}
use Rattle.pcrf_values.specs.Ascending.{Rises}
use Rattle.pcrf_values.specs.Sets.{In}
use Rattle.pcrf_values.specs.Orders.{text_cmp}
use Rattle.pcrf_values.specs.declared.tag.Tag.{Tag}
use Rattle.pcrf_values.proofs.Plain.{clash, some_same}
use Rattle.pcrf_values.proofs.SetLaws.{filter_map-In, In-filter_map}
use Rattle.pcrf_values.proofs.OrderLaws.{text_ranked, eq_is, eq_itself}
use Rattle.pcrf_values.proofs.AscendingLaws.{map-ascending, filter_map-ascending, ascending-ascending, ascending-itself, Distinct-ascending}
use Rattle.pcrf_values.specs.RuleValues.{RuleValue, rule_cmp}
use Rattle.pcrf_values.specs.Places.{Place, OfRuleName, place_cmp}
use Rattle.pcrf_values.specs.Values.{Value, Told, entry_cmp}
use Rattle.pcrf_model.specs.Sessions.{Session, session_cmp}
use Rattle.pcrf_model.specs.Holdings.{SessionFact}
use Rattle.pcrf_model.specs.Views.{View, Shown, shown_cmp, shown_of, entry_shown_on, shown_by_fact, view}
use Rattle.pcrf_values.specs.ToldWords.{ToldRule, told_rule_at}
use Rattle.pcrf_model.specs.Differences.{told_cmp, told_rules_of, told_name_of, IsTold}
use Rattle.pcrf_model.proofs.HoldingLaws.{session_ranked}
use Rattle.pcrf_model.proofs.ViewLaws.{shown_ranked, all-shows, In-all}
use Rattle.pcrf_model.proofs.DifferenceLaws.{told_ranked}

-- an entry stands at its name, with its rule
entry_place : (p : Place) (t : Tag) (x : Value) (u : ToldRule) → told_rule_at p t x ≡ Some u → (p ≡ OfRuleName u.0) × (x ≡ Told u.1)
entry_place (OfRuleName n) t (Told r) u h = (ap (λ (z : ToldRule). OfRuleName z.0) (some_same (n, r) u h), ap (λ (z : ToldRule). Told z.1) (some_same (n, r) u h))
entry_place p t x u h = absurd (cc)

module _ (facts : List SessionFact) (s : Session) where
  -- what is read of the facts
  abbrev v : View
  v = view facts

  -- the told entry of what shows
  abbrev entry : Shown → Option ToldRule
  entry x = cond (is_eq (session_cmp x.session s)) (told_rule_at x.place x.tag x.value) None

  -- it stands at its name of the session, with its rule
  at_name : (x : Shown) (u : ToldRule) → entry x ≡ Some u → (x.session ≡ s) × (x.place ≡ OfRuleName u.0) × (x.value ≡ Told u.1)
  at_name x u = elim (is_eq (session_cmp x.session s)) as (λ b. is_eq (session_cmp x.session s) ≡ b → cond b (told_rule_at x.place x.tag x.value) None ≡ Some u → (x.session ≡ s) × (x.place ≡ OfRuleName u.0) × (x.value ≡ Told u.1)) [
    | true ↦ λ e h. let b = entry_place x.place x.tag x.value u h in (eq_is session_ranked x.session s e, b.0, b.1)
    | false ↦ λ _ h. absurd (cc)
  ] refl

  -- all that shows is in order
  all_ascending : Rises shown_cmp v.all
  unfolding view
  all_ascending = ascending-ascending shown_cmp shown_ranked (filter_map (λ (x : SessionFact). shown_by_fact (entry_shown_on facts) x.0 x.1) facts)

  -- names of the session stand in the order of what shows there
  name_order : (x y : Shown) (n m : List ℕ) → x.session ≡ s → y.session ≡ s → x.place ≡ OfRuleName n → y.place ≡ OfRuleName m → In x v.all → In y v.all → shown_cmp x y ≡ Less → text_cmp n m ≡ Less
  name_order x y n m a b p q i j l =
      let there : ordering_then (session_cmp s s) (ordering_then (place_cmp (OfRuleName n) (OfRuleName m)) (entry_cmp (x.tag, x.value) (y.tag, y.value))) ≡ Less =
      (λ k. ordering_then (session_cmp (sym a k) (sym b k)) (ordering_then (place_cmp (sym p k) (sym q k)) (entry_cmp (x.tag, x.value) (y.tag, y.value)))) ∙ l in
      let names : ordering_then (text_cmp n m) (entry_cmp (x.tag, x.value) (y.tag, y.value)) ≡ Less =
      ap (λ r. ordering_then r (ordering_then (text_cmp n m) (entry_cmp (x.tag, x.value) (y.tag, y.value)))) (sym (tied_itself session_ranked.total s)) ∙ there in
      (elim (text_cmp n m) as (λ r. text_cmp n m ≡ r → ordering_then r (entry_cmp (x.tag, x.value) (y.tag, y.value)) ≡ Less → r ≡ Less) [
        | Less ↦ λ _ _. refl
        | Equal ↦ λ e _. clash _ (ap is_lt l) (ap is_lt (ap (shown_cmp x) (sym (same (text_ranked.same n m e))) ∙ tied_itself shown_ranked.total x))
        | Greater ↦ λ _ h. h
      ]) refl names
    where
      same : n ≡ m → x ≡ y
      same e =
          let session : x.session ≡ y.session = a ∙ sym b in
          let place : x.place ≡ y.place = p ∙ ap OfRuleName e ∙ sym q in
          let shows : v.shows x.session x.place ≡ v.shows y.session y.place = λ k. v.shows (session k) (place k) in
          let entries : (x.tag, x.value) ≡ (y.tag, y.value) = some_same (x.tag, x.value) (y.tag, y.value) (sym (all-shows facts x i) ∙ shows ∙ all-shows facts y j) in
          λ k. record { session = session k; place = place k; tag = (entries k).0; value = (entries k).1 }

  -- by name
  abbrev name_cmp : ToldRule → ToldRule → Ordering
  name_cmp a b = text_cmp a.0 b.0

  -- the told entries are in order by name
  by_name : Rises name_cmp (filter_map entry v.all)
  by_name = filter_map-ascending shown_cmp name_cmp entry v.all
      (λ x y u w i j l e h. let a = at_name x u e in let b = at_name y w h in name_order x y u.0 w.0 a.0 b.0 a.1 b.1 i j l)
      all_ascending

  -- and so in their own order
  weaker : (us : List ToldRule) → Rises name_cmp us → Rises told_cmp us
  weaker [] a = tt
  weaker (u ∷ us) a = (λ y i. ap (λ r. ordering_then r (rule_cmp u.1 y.1)) (a.0 y i), weaker us a.1)

  -- in order, and no name twice
  pub told_is_told : IsTold (told_rules_of v s)
  unfolding told_rules_of
  told_is_told = record {
    in_order = ascending-itself told_cmp told_ranked (filter_map entry v.all) (weaker (filter_map entry v.all) by_name);
    one_each = Distinct-ascending text_cmp text_ranked (map told_name_of (filter_map entry v.all)) (map-ascending name_cmp text_cmp told_name_of (filter_map entry v.all) (λ x y i j l. l) by_name);
  }

  -- an entry that was told is what its name shows
  pub told-shows : (u : ToldRule) → In u (told_rules_of v s) → (g : Tag) × (v.shows s (OfRuleName u.0) ≡ Some (g, Told u.1))
  unfolding told_rules_of
  told-shows u i =
      let r = filter_map-In entry u v.all i in
      let n = at_name r.0 u r.2 in
      (r.0.tag, (λ k. v.shows (sym n.0 k) (sym n.1 k)) ∙ all-shows facts r.0 r.1 ∙ ap (λ (x : Value). Some (r.0.tag, x)) n.2)

  -- what a name shows was told
  pub In-told : (n : List ℕ) (g : Tag) (r : RuleValue) → v.shows s (OfRuleName n) ≡ Some (g, Told r) → In (n, r) (told_rules_of v s)
  unfolding told_rules_of
  In-told n g r h =
      In-filter_map entry (shown_of s (OfRuleName n) (g, Told r)) (n, r) v.all (In-all facts s (OfRuleName n) (g, Told r) h)
      (ap (λ b. cond b (Some (n, r)) None) (eq_itself session_ranked s))
