-- The fields of a Gx session are those of the session.
use Rattle.std.proofs.Common.{◌≡◌, ℕ, List, Option, Some, None, refl, sym, ap, ◌∙◌, subst, option_map}
use Rattle.std.specs.Ordering.{ordering_then}
use Rattle.pcrf_values.specs.Ascending.{Rises}
use Rattle.pcrf_values.specs.Sets.{In}
use Rattle.pcrf_values.specs.declared.tag.Tag.{Tag}
use Rattle.pcrf_values.proofs.Plain.{none_some, some_same}
use Rattle.pcrf_values.proofs.SetLaws.{filter_map-In, In-filter_map}
use Rattle.pcrf_values.proofs.AscendingLaws.{filter_map-ascending, same_ascending}
use Rattle.pcrf_values.specs.Places.{SessionField, ComponentField, FlowField, Place, OfSession, OfComponent, OfFlow, OfRuleName, place_cmp, session_fields}
use Rattle.pcrf_values.specs.Values.{Value, value_cmp, Entry}
use Rattle.pcrf_values.specs.Facts.{Fact}
use Rattle.pcrf_values.specs.Held.{entry_shown}
use Rattle.pcrf_values.proofs.FactLaws.{every_session_field}
use Rattle.pcrf_model.specs.SiteOverviews.{FieldShown, field_shown}
use Rattle.lattice_core.proofs.FieldLists.{fields_rise}
use Rattle.indexed_state.specs.Fields.{field_at, shown_at, fields_of}
use Rattle.indexed_state.proofs.FieldsAlone.{field_cmp, field_ranked, facts_rise, field_shows, shows_field}

-- what a place shows, without its tag
abbrev without_tag : SessionField → Option Entry → Option FieldShown
without_tag f o = option_map (λ (e : Entry). (OfSession f, e.1)) o

-- a field that shows
at_field : (f : SessionField) (o : Option Entry) (u : FieldShown) → without_tag f o ≡ Some u → (e : Entry) × (o ≡ Some e) × ((OfSession f, e.1) ≡ u)
at_field f None u h = none_some u h
at_field f (Some e) u h = (e, refl, some_same _ _ h)

module _ (facts : List Fact) (components : (c : ℕ) (f : ComponentField) → None ≡ entry_shown facts (OfComponent c f)) (flows : (c n : ℕ) (f : FlowField) → None ≡ entry_shown facts (OfFlow c n f)) where
  -- fields of the session are in order
  session_rises : Rises field_cmp (shown_at (entry_shown facts) session_fields)
  session_rises = filter_map-ascending (λ (f g : SessionField). place_cmp (OfSession f) (OfSession g)) field_cmp (field_at (entry_shown facts)) session_fields
      (λ f g u w i j l p o.
      let a = at_field f (entry_shown facts (OfSession f)) u p in
      let b = at_field g (entry_shown facts (OfSession g)) w o in
      (λ k. field_cmp (sym a.2 k) (sym b.2 k)) ∙ ap (λ r. ordering_then r (value_cmp a.0.1 b.0.1)) l)
      fields_rise

  -- what shows is a field of the session
  forth : (p : Place) (x : Value) (t : Tag) → entry_shown facts p ≡ Some (t, x) → field_shown p x ≡ Some (p, x) → In (p, x) (shown_at (entry_shown facts) session_fields)
  forth (OfSession f) x t h k = In-filter_map (field_at (entry_shown facts)) f (OfSession f, x) session_fields (every_session_field f) (ap (without_tag f) h)
  forth (OfComponent c f) x t h k = none_some (t, x) (components c f ∙ h)
  forth (OfFlow c n f) x t h k = none_some (t, x) (flows c n f ∙ h)
  forth (OfRuleName n) x t h k = none_some (OfRuleName n, x) k

  -- and such a field shows
  back : (u : FieldShown) → In u (shown_at (entry_shown facts) session_fields) → In u (fields_of facts)
  back u i =
      let r = filter_map-In (field_at (entry_shown facts)) u session_fields i in
      let a = at_field r.0 (entry_shown facts (OfSession r.0)) u r.2 in
      subst (λ (w : FieldShown). In w (fields_of facts)) a.2 (shows_field facts (OfSession r.0, a.0.1) a.0.0 a.1 refl)

  -- so the fields are those of the session
  pub gx_fields : fields_of facts ≡ shown_at (entry_shown facts) session_fields
  gx_fields = same_ascending field_cmp field_ranked (fields_of facts) (shown_at (entry_shown facts) session_fields) (facts_rise facts) session_rises
      (λ u. (λ i. let r = field_shows facts u i in forth u.0 u.1 r.0 r.1 r.2, back u))
