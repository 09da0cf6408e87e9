-- The bindings of the live AF sessions among the records are those of the view.
use Rattle.std.proofs.Common.{◌≡◌, ℕ, cond, List, [], ◌∷◌, Option, Some, None, refl, sym, ap, ◌∙◌}
use Rattle.pcrf_values.specs.Sets.{In}
use Rattle.pcrf_values.proofs.Plain.{none_some}
use Rattle.pcrf_values.specs.Facts.{Fact}
use Rattle.pcrf_model.specs.Holdings.{SessionFact, facts_on}
use Rattle.pcrf_model.specs.SiteOverviews.{bound_value, bindings_of}
use Rattle.pcrf_model.specs.Sessions.{Kind, Gx, Af, Session, af}
use Rattle.pcrf_model.specs.Views.{View, view}
use Rattle.site_join.specs.States.{Records}
use Rattle.bind_index.proofs.Entries.{AreRecordsOf, its_facts}
use Rattle.indexed_state.specs.ByRecord.{live_binding, bindings_among}
use Rattle.indexed_state.proofs.ListedRecords.{named, has_facts, of_record, picked_of_records, taken_alike}

-- a binding is of an AF session
is_af : (v : View) (s : Session) (k : Kind) (b : List ℕ × Option (List ℕ)) → s.kind ≡ k → bound_value v s k ≡ Some b → named Af s.id ≡ s
is_af v s Gx b e h = none_some b h
is_af v s Af b e h = λ i. record { kind = sym e i; id = s.id }

module _ (facts : List SessionFact) (es : Records) (r : AreRecordsOf af facts es) where
  -- what is picked of a session
  abbrev pick : Session → Option (List ℕ × Option (List ℕ))
  pick s = bound_value (view facts) s s.kind

  -- it is of an AF session
  of_kind : (s : Session) (b : List ℕ × Option (List ℕ)) → pick s ≡ Some b → named Af s.id ≡ s
  of_kind s b h = is_af (view facts) s s.kind b refl h

  -- a session is read alone
  alone : (id : List ℕ) → live_binding (view facts) (id, facts_on facts (af id)) ≡ pick (af id)
  unfolding view
  alone id = refl

  -- and no session without facts is live
  by_facts : (id : List ℕ) (fs : List Fact) → live_binding (view facts) (id, fs) ≡ cond (has_facts (id, fs)) (live_binding (view facts) (id, fs)) None
  by_facts id [] = refl
  by_facts id (f ∷ fs) = refl

  -- of each record
  its_binding : (e : List ℕ × List Fact) → In e es → live_binding (view facts) e ≡ of_record Af facts es r pick of_kind e
  its_binding e i =
      by_facts e.0 e.1
      ∙ ap (λ (o : Option (List ℕ × Option (List ℕ))). cond (has_facts e) o None)
      (ap (λ (fs : List Fact). live_binding (view facts) (e.0, fs)) (sym (its_facts facts es r e i)) ∙ alone e.0)

  -- so they are the same
  pub bindings_are : bindings_among (view facts) es ≡ bindings_of (view facts)
  unfolding bindings_of
  bindings_are =
      taken_alike (live_binding (view facts)) (of_record Af facts es r pick of_kind) es its_binding
      ∙ picked_of_records Af facts es r pick of_kind
