-- The records of a state's Gx sessions, one after another, are read as the view of its facts has them.
use Rattle.std.proofs.Common.{◌≡◌, ℕ, List, [], Option, Some, None, refl, sym, ap, ◌∙◌, subst}
use Rattle.pcrf_values.specs.Orders.{text_cmp}
use Rattle.pcrf_values.specs.Sets.{In}
use Rattle.pcrf_values.proofs.Plain.{none_some}
use Rattle.pcrf_values.proofs.OrderLaws.{text_ranked}
use Rattle.lattice_core.specs.Entries.{IsAscending, value_at}
use Rattle.lattice_core.proofs.MapParts.{entry_found, found_entry}
use Rattle.pcrf_values.specs.Facts.{Fact}
use Rattle.pcrf_values.specs.Held.{entry_shown}
use Rattle.pcrf_values.specs.Places.{Place}
use Rattle.pcrf_values.specs.Values.{Entry}
use Rattle.pcrf_model.specs.Holdings.{SessionFact, facts_on}
use Rattle.pcrf_model.specs.Sessions.{Session}
use Rattle.pcrf_model.specs.Views.{view}
use Rattle.pcrf_model.proofs.ViewLaws.{shows-known}
use Rattle.site_join.specs.States.{Records, record_facts}

-- the records of the sessions of one kind answer what is read of the facts
pub record AreRecordsOf (kind : List ℕ → Session) (facts : List SessionFact) (es : Records) : Type 0 where
  pub ascending : IsAscending text_cmp es
  pub reads : (id : List ℕ) → record_facts (value_at text_cmp es id) ≡ facts_on facts (kind id)

module _ {kind : List ℕ → Session} (facts : List SessionFact) (es : Records) (r : AreRecordsOf kind facts es) where
  -- a record has the facts of its session
  pub its_facts : (e : List ℕ × List Fact) → In e es → facts_on facts (kind e.0) ≡ e.1
  its_facts e i = sym (r.reads e.0) ∙ ap record_facts (entry_found text_ranked e es r.ascending i)

  -- a session that shows something has a record
  pub has_record : (id : List ℕ) (p : Place) (x : Entry) → (view facts).shows (kind id) p ≡ Some x → In (id, facts_on facts (kind id)) es
  unfolding view
  has_record id p x h = by_record (value_at text_cmp es id) refl
    where
      by_record : (o : Option (List Fact)) → value_at text_cmp es id ≡ o → In (id, facts_on facts (kind id)) es
      by_record None e =
          let nothing : [] ≡ facts_on facts (kind id) = sym (ap record_facts e) ∙ r.reads id in
          none_some x (ap (λ (fs : List Fact). entry_shown fs p) nothing ∙ h)
      by_record (Some fs) e =
          let its : fs ≡ facts_on facts (kind id) = sym (ap record_facts e) ∙ r.reads id in
          subst (λ (z : List Fact). In (id, z) es) its (found_entry text_ranked id fs es e)

  -- and is known
  pub is_there : (id : List ℕ) (p : Place) (x : Entry) → entry_shown (facts_on facts (kind id)) p ≡ Some x → In (kind id) (view facts).sessions
  unfolding view
  is_there id p x h = shows-known facts (kind id) p x h
