-- What is seen of records is what is seen of the sessions of the view.
use Rattle.std.proofs.Common.{◌≡◌, ℕ, cond, List, Option, Some, None, refl, sym, ap, ◌∙◌}
use Rattle.std.specs.List.{filter_map}
use Rattle.pcrf_values.specs.Sets.{In}
use Rattle.pcrf_values.proofs.Plain.{none_some}
use Rattle.pcrf_values.specs.Facts.{Fact}
use Rattle.pcrf_values.specs.Held.{is_ended, is_aborted}
use Rattle.pcrf_values.specs.Live.{gx_is_live, af_is_live, home}
use Rattle.pcrf_model.specs.Holdings.{SessionFact, facts_on, Holding}
use Rattle.pcrf_model.specs.SiteOverviews.{GxShown, AfShown, SessionValue, Ended, Partial, Live, SiteOverview, binding_id, gx_shown, af_shown, gx_value, af_value, site_overview}
use Rattle.pcrf_model.specs.Rules.{rules}
use Rattle.pcrf_model.specs.Sessions.{Kind, Gx, Af, Session, gx, af}
use Rattle.pcrf_model.specs.Tables.{Tables}
use Rattle.pcrf_model.specs.Views.{View, view}
use Rattle.site_join.specs.States.{Records}
use Rattle.bind_index.proofs.Entries.{AreRecordsOf, its_facts}
use Rattle.rule_delta.proofs.ToldAlone.{told_alone}
use Rattle.indexed_state.specs.ByRecord.{gx_live, gx_seen, gx_known, gx_among, af_live, af_seen, af_known, af_among}
use Rattle.indexed_state.proofs.FieldsAlone.{fields_alone}
use Rattle.indexed_state.proofs.ListedRecords.{named, has_facts, of_record, picked_of_records, taken_alike}

-- ---- gateways

-- what is seen is of a Gx session
is_gx : (t : Tables) (v : View) (s : Session) (k : Kind) (b : List ℕ × SessionValue GxShown) → s.kind ≡ k → gx_value t v s k ≡ Some b → named Gx s.id ≡ s
is_gx t v s Gx b e h = λ i. record { kind = sym e i; id = s.id }
is_gx t v s Af b e h = none_some b h

module _ (t : Tables) (facts : List SessionFact) (es : Records) (r : AreRecordsOf gx facts es) where
  -- what is seen of a session
  abbrev gx_pick : Session → Option (List ℕ × SessionValue GxShown)
  gx_pick s = gx_value t (view facts) s s.kind

  -- it is of a Gx session
  of_gx : (s : Session) (b : List ℕ × SessionValue GxShown) → gx_pick s ≡ Some b → named Gx s.id ≡ s
  of_gx s b h = is_gx t (view facts) s s.kind b refl h

  -- what shows is read alone
  gx_shows_alone : (id : List ℕ) → gx_live t (view facts) id (facts_on facts (gx id)) ≡ gx_shown t (view facts) (gx id)
  unfolding view
  gx_shows_alone id = λ i. record {
    fields = fields_alone facts (gx id) i;
    home = home (facts_on facts (gx id));
    rules = rules t (view facts) (gx id);
    told = told_alone facts (gx id) i;
  }

  -- and so is what is seen
  gx_alone : (id : List ℕ) → Some (id, gx_seen t (view facts) id (facts_on facts (gx id))) ≡ gx_pick (gx id)
  unfolding view
  gx_alone id = ap (λ (x : GxShown). Some (id, cond (is_ended (facts_on facts (gx id))) Ended (cond (gx_is_live (facts_on facts (gx id))) (Live x) Partial))) (gx_shows_alone id)

  -- of each record
  its_gx : (e : List ℕ × List Fact) → In e es → gx_known t (view facts) e ≡ of_record Gx facts es r gx_pick of_gx e
  its_gx e i = ap (λ (o : Option (List ℕ × SessionValue GxShown)). cond (has_facts e) o None)
      (ap (λ (fs : List Fact). Some (e.0, gx_seen t (view facts) e.0 fs)) (sym (its_facts facts es r e i)) ∙ gx_alone e.0)

  -- so it is what is seen of the view's sessions
  pub gx_are : gx_among t (view facts) es ≡ filter_map gx_pick (view facts).sessions
  gx_are = taken_alike (gx_known t (view facts)) (of_record Gx facts es r gx_pick of_gx) es its_gx ∙ picked_of_records Gx facts es r gx_pick of_gx

-- ---- calls

-- what is seen is of an AF session
is_af : (v : View) (s : Session) (k : Kind) (b : List ℕ × SessionValue AfShown) → s.kind ≡ k → af_value v s k ≡ Some b → named Af s.id ≡ s
is_af v s Gx b e h = none_some b h
is_af v s Af b e h = λ i. record { kind = sym e i; id = s.id }

module _ (facts : List SessionFact) (es : Records) (r : AreRecordsOf af facts es) where
  -- what is seen of a session
  abbrev af_pick : Session → Option (List ℕ × SessionValue AfShown)
  af_pick s = af_value (view facts) s s.kind

  -- it is of an AF session
  of_af : (s : Session) (b : List ℕ × SessionValue AfShown) → af_pick s ≡ Some b → named Af s.id ≡ s
  of_af s b h = is_af (view facts) s s.kind b refl h

  -- what shows is read alone
  af_shows_alone : (id : List ℕ) → af_live (view facts) id (facts_on facts (af id)) ≡ af_shown (view facts) (af id)
  unfolding view
  af_shows_alone id = λ i. record {
    fields = fields_alone facts (af id) i;
    binding = binding_id (view facts) (af id);
    aborted = is_aborted (facts_on facts (af id));
  }

  -- and so is what is seen
  af_alone : (id : List ℕ) → Some (id, af_seen (view facts) id (facts_on facts (af id))) ≡ af_pick (af id)
  unfolding view
  af_alone id = ap (λ (x : AfShown). Some (id, cond (is_ended (facts_on facts (af id))) Ended (cond (af_is_live (facts_on facts (af id))) (Live x) Partial))) (af_shows_alone id)

  -- of each record
  its_af : (e : List ℕ × List Fact) → In e es → af_known (view facts) e ≡ of_record Af facts es r af_pick of_af e
  its_af e i = ap (λ (o : Option (List ℕ × SessionValue AfShown)). cond (has_facts e) o None)
      (ap (λ (fs : List Fact). Some (e.0, af_seen (view facts) e.0 fs)) (sym (its_facts facts es r e i)) ∙ af_alone e.0)

  -- so it is what is seen of the view's sessions
  pub af_are : af_among (view facts) es ≡ filter_map af_pick (view facts).sessions
  af_are = taken_alike (af_known (view facts)) (of_record Af facts es r af_pick of_af) es its_af ∙ picked_of_records Af facts es r af_pick of_af

-- ---- all

-- what is seen of both, with the clock, is what an operator sees
pub all_seen : (t : Tables) (h : Holding) (gxs afs : Records) → AreRecordsOf gx h.facts gxs → AreRecordsOf af h.facts afs
    → (x : List (List ℕ × SessionValue GxShown)) (y : List (List ℕ × SessionValue AfShown)) → x ≡ gx_among t (view h.facts) gxs → y ≡ af_among (view h.facts) afs
    → (z : SiteOverview) → z ≡ record { clock = h.clock; gx = x; af = y } → z ≡ site_overview t h
unfolding site_overview
all_seen t h gxs afs r q x y a b z e = e ∙ (λ i. record { clock = h.clock; gx = (a ∙ gx_are t h.facts gxs r) i; af = (b ∙ af_are h.facts afs q) i })
