-- The fields that a session shows are read of its own facts alone.
use Rattle.std.proofs.Common.{◌≡◌, cond, List, Option, Some, None, refl, sym, ap, ◌∙◌, subst, Ordering, Less, Equal, Greater}
use Rattle.std.specs.Ordering.{is_eq, is_lt, ordering_then}
use Rattle.std.specs.Cmp.{tied_itself}
use Rattle.std.specs.List.{filter_map}
use Rattle.pcrf_values.specs.Ascending.{Rises}
use Rattle.pcrf_values.specs.Orders.{pair_cmp}
use Rattle.pcrf_values.specs.Sets.{In, Same}
use Rattle.pcrf_values.specs.declared.tag.Tag.{Tag}
use Rattle.pcrf_values.proofs.Plain.{clash, came_from, none_some, some_same}
use Rattle.pcrf_values.proofs.OrderLaws.{IsRanked, pair_ranked, eq_is, eq_itself}
use Rattle.pcrf_values.proofs.SetLaws.{filter_map-In, In-filter_map}
use Rattle.pcrf_values.proofs.AscendingLaws.{filter_map-ascending, ascending-ascending, same_ascending}
use Rattle.pcrf_values.specs.Places.{Place, place_cmp, OfSession, OfComponent, OfFlow, OfRuleName}
use Rattle.pcrf_values.specs.Values.{Value, value_cmp, Entry, entry_cmp}
use Rattle.pcrf_values.specs.Facts.{Fact, End, Removed, Field, Aborted, fact_cmp}
use Rattle.pcrf_values.specs.Held.{kept_set, kept_list, entry_shown}
use Rattle.pcrf_values.proofs.FactLaws.{place_ranked, tag_ranked, value_ranked, fact_ranked}
use Rattle.pcrf_values.proofs.ShownLaws.{shown-held, fact_there}
use Rattle.pcrf_model.specs.Holdings.{SessionFact, facts_on}
use Rattle.pcrf_model.specs.SiteOverviews.{FieldShown, field_shown, fields_shown}
use Rattle.pcrf_model.specs.Sessions.{Session, session_cmp}
use Rattle.pcrf_model.specs.Views.{View, Shown, shown_cmp, shown_of, entry_shown_on, shown_by_fact, view}
use Rattle.pcrf_model.proofs.HoldingLaws.{session_ranked}
use Rattle.pcrf_model.proofs.ViewLaws.{shown_ranked, sessions_alone, all-shows, In-all}
use Rattle.rule_delta.proofs.ToldAlone.{kept_shows}
use Rattle.indexed_state.specs.Fields.{field_of, fields_of}

-- by place, and then by value
abbrev pub field_cmp : FieldShown → FieldShown → Ordering
field_cmp = pair_cmp place_cmp value_cmp

-- that order is ranked
pub field_ranked : IsRanked field_cmp
field_ranked = pair_ranked place_ranked value_ranked

-- a field that shows is that of its place, with its value
field_is : (p : Place) (x : Value) (u : FieldShown) → field_shown p x ≡ Some u → (p, x) ≡ u
field_is (OfSession f) x u h = some_same _ _ h
field_is (OfComponent c f) x u h = some_same _ _ h
field_is (OfFlow c n f) x u h = some_same _ _ h
field_is (OfRuleName n) x u h = none_some u h

-- what a fact shows stands at its place
fact_is : (f : Fact) (u : FieldShown) → field_of f ≡ Some u → (t : Tag) × (f ≡ Field u.0 t u.1) × (field_shown u.0 u.1 ≡ Some u)
fact_is End u h = none_some u h
fact_is (Removed r) u h = none_some u h
fact_is Aborted u h = none_some u h
fact_is (Field p t x) u h =
    let e = field_is p x u h in
    (t, ap (λ (z : FieldShown). Field z.0 t z.1) e, subst (λ (z : FieldShown). field_shown z.0 z.1 ≡ Some u) e h)

-- what stands at different places stands in their order
by_place : (p q : Place) (x y : Value) (r : Ordering) → ordering_then (place_cmp p q) r ≡ Less → (p ≡ q → ordering_then (place_cmp p q) r ≡ Equal) → field_cmp (p, x) (q, y) ≡ Less
by_place p q x y r l same = (elim (place_cmp p q) as (λ o. place_cmp p q ≡ o → ordering_then o r ≡ Less → ordering_then o (value_cmp x y) ≡ Less) [
  | Less ↦ λ _ _. refl
  | Equal ↦ λ e _. clash _ (ap is_lt l) (ap is_lt (same (place_ranked.same p q e)))
  | Greater ↦ λ _ h. h
]) refl l

module _ (facts : List Fact) where
  -- equal places have equal facts
  one_fact : (u w : FieldShown) (t g : Tag) → In (Field u.0 t u.1) (kept_list facts) → In (Field w.0 g w.1) (kept_list facts) → u.0 ≡ w.0 → Field u.0 t u.1 ≡ Field w.0 g w.1
  one_fact u w t g i j e =
      let same : (t, u.1) ≡ (g, w.1) = some_same _ _ (sym (kept_shows facts u.0 (t, u.1) i) ∙ ap (entry_shown facts) e ∙ kept_shows facts w.0 (g, w.1) j) in
      λ k. Field (e k) (same k).0 (same k).1

  -- fields stand in the order of their facts
  pub facts_rise : Rises field_cmp (fields_of facts)
  facts_rise = filter_map-ascending fact_cmp field_cmp field_of (kept_list facts)
      (λ f d u w i j l p o.
      let a = fact_is f u p in
      let b = fact_is d w o in
      let here = subst (λ (z : Fact). In z (kept_list facts)) a.1 i in
      let there = subst (λ (z : Fact). In z (kept_list facts)) b.1 j in
      by_place u.0 w.0 u.1 w.1 (entry_cmp (a.0, u.1) (b.0, w.1))
      ((λ k. fact_cmp (sym a.1 k) (sym b.1 k)) ∙ l)
      (λ e. ap (fact_cmp (Field u.0 a.0 u.1)) (sym (one_fact u w a.0 b.0 here there e)) ∙ tied_itself fact_ranked.total (Field u.0 a.0 u.1)))
      (ascending-ascending fact_cmp fact_ranked (kept_set facts))

  -- a field among them shows
  pub field_shows : (u : FieldShown) → In u (fields_of facts) → (t : Tag) × (entry_shown facts u.0 ≡ Some (t, u.1)) × (field_shown u.0 u.1 ≡ Some u)
  field_shows u i =
      let r = filter_map-In field_of u (kept_list facts) i in
      let a = fact_is r.0 u r.2 in
      (a.0, kept_shows facts u.0 (a.0, u.1) (subst (λ (z : Fact). In z (kept_list facts)) a.1 r.1), a.2)

  -- and what shows is among them
  pub shows_field : (u : FieldShown) (t : Tag) → entry_shown facts u.0 ≡ Some (t, u.1) → field_shown u.0 u.1 ≡ Some u → In u (fields_of facts)
  shows_field u t h k = In-filter_map field_of (Field u.0 t u.1) u (kept_list facts) (fact_there (kept_list facts) u.0 (t, u.1) (shown-held facts u.0 ∙ h)) k

module _ (facts : List SessionFact) (s : Session) where
  -- what is read of the facts
  abbrev v : View
  v = view facts

  -- the field that what shows is, if it is of the session
  abbrev entry : Shown → Option FieldShown
  entry x = cond (is_eq (session_cmp x.session s)) (field_shown x.place x.value) None

  -- of what session, and where
  record IsAt (x : Shown) (u : FieldShown) : Type 0 where
    session : x.session ≡ s
    there : (x.place, x.value) ≡ u
    field : field_shown u.0 u.1 ≡ Some u

  -- so it is
  is_at : (x : Shown) (u : FieldShown) → entry x ≡ Some u → IsAt x u
  is_at x u h =
      let c = came_from (is_eq (session_cmp x.session s)) (field_shown x.place x.value) u h in
      let e = field_is x.place x.value u c.1 in
      record {
        session = eq_is session_ranked x.session s c.0;
        there = e;
        field = subst (λ (z : FieldShown). field_shown z.0 z.1 ≡ Some u) e c.1;
      }

  -- it shows there
  shows_there : (x : Shown) (u : FieldShown) → In x v.all → IsAt x u → v.shows s u.0 ≡ Some (x.tag, u.1)
  shows_there x u i a = (λ k. v.shows (sym a.session k) (sym a.there k).0) ∙ all-shows facts x i ∙ ap (λ (z : FieldShown). Some (x.tag, z.1)) a.there

  -- what shows at one place of the session is one
  one_shown : (x y : Shown) (u w : FieldShown) → In x v.all → In y v.all → IsAt x u → IsAt y w → u.0 ≡ w.0 → x ≡ y
  one_shown x y u w i j a b e =
      let same : (x.tag, u.1) ≡ (y.tag, w.1) = some_same _ _ (sym (shows_there x u i a) ∙ ap (v.shows s) e ∙ shows_there y w j b) in
      let session : x.session ≡ y.session = a.session ∙ sym b.session in
      let place : x.place ≡ y.place = ap (λ (z : FieldShown). z.0) a.there ∙ e ∙ sym (ap (λ (z : FieldShown). z.0) b.there) in
      let value : x.value ≡ y.value = ap (λ (z : FieldShown). z.1) a.there ∙ ap (λ (z : Entry). z.1) same ∙ sym (ap (λ (z : FieldShown). z.1) b.there) in
      λ k. record { session = session k; place = place k; tag = (same k).0; value = value k }

  -- all that shows is in order
  all_ascending : Rises shown_cmp v.all
  unfolding view
  all_ascending = ascending-ascending shown_cmp shown_ranked (filter_map (λ (x : SessionFact). shown_by_fact (entry_shown_on facts) x.0 x.1) facts)

  -- and so are the fields of the session
  shown_rise : Rises field_cmp (fields_shown v s)
  shown_rise = filter_map-ascending shown_cmp field_cmp entry v.all
      (λ x y u w i j l p o.
      let a = is_at x u p in
      let b = is_at y w o in
      let places : ordering_then (place_cmp x.place y.place) (entry_cmp (x.tag, x.value) (y.tag, y.value)) ≡ Less =
      ap (λ r. ordering_then r (ordering_then (place_cmp x.place y.place) (entry_cmp (x.tag, x.value) (y.tag, y.value)))) (sym (ap (session_cmp x.session) (sym (a.session ∙ sym b.session)) ∙ tied_itself session_ranked.total x.session)) ∙ l in
      (λ k. field_cmp (sym a.there k) (sym b.there k))
      ∙ by_place x.place y.place x.value y.value (entry_cmp (x.tag, x.value) (y.tag, y.value)) places
      (λ e.
      let same = one_shown x y u w i j a b (ap (λ (z : FieldShown). z.0) (sym a.there) ∙ e ∙ ap (λ (z : FieldShown). z.0) b.there) in
      (λ k. ordering_then (place_cmp x.place (sym same k).place) (entry_cmp (x.tag, x.value) ((sym same k).tag, (sym same k).value)))
      ∙ tied_itself (pair_ranked place_ranked (pair_ranked tag_ranked value_ranked)).total (x.place, (x.tag, x.value))))
      all_ascending

  -- the same fields
  same_fields : Same (fields_of (facts_on facts s)) (fields_shown v s)
  same_fields u = (
    λ i.
        let r = field_shows (facts_on facts s) u i in
        let there = In-all facts s u.0 (r.0, u.1) ((sessions_alone facts s).shows u.0 ∙ r.1) in
        In-filter_map entry (shown_of s u.0 (r.0, u.1)) u v.all there (ap (λ b. cond b (field_shown u.0 u.1) None) (eq_itself session_ranked s) ∙ r.2),
    λ i.
        let r = filter_map-In entry u v.all i in
        let a = is_at r.0 u r.2 in
        shows_field (facts_on facts s) u r.0.tag (sym ((sessions_alone facts s).shows u.0) ∙ shows_there r.0 u r.1 a) a.field,
  )

  -- so they are the same list
  pub fields_alone : fields_of (facts_on facts s) ≡ fields_shown v s
  fields_alone = same_ascending field_cmp field_ranked (fields_of (facts_on facts s)) (fields_shown v s) (facts_rise (facts_on facts s)) shown_rise same_fields
