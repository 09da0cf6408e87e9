-- The sessions that are listed are those of the records that show what is asked.
use Rattle.std.proofs.Common.{◌≡◌, ℕ, true, ◌&&◌, List, [], ◌∷◌, map, Option, Some, refl, sym, ap, ◌∙◌}
use Rattle.std.specs.Cmp.{first_so, second_so}
use Rattle.pcrf_values.specs.Ascending.{Rises}
use Rattle.pcrf_values.specs.Orders.{text_cmp}
use Rattle.pcrf_values.specs.Sets.{In}
use Rattle.pcrf_values.proofs.Plain.{came_from, some_same}
use Rattle.pcrf_values.proofs.OrderLaws.{text_ranked}
use Rattle.pcrf_values.proofs.SetLaws.{In-filter_map, filter_map-In}
use Rattle.pcrf_values.proofs.AscendingLaws.{ascending-ascending, same_ascending, filter_map-ascending}
use Rattle.lattice_core.specs.Entries.{IsAscending}
use Rattle.lattice_core.proofs.MapParts.{below_member}
use Rattle.pcrf_values.specs.Facts.{Fact}
use Rattle.pcrf_values.specs.Places.{Place}
use Rattle.pcrf_values.specs.Values.{Entry}
use Rattle.pcrf_model.specs.Holdings.{SessionFact, facts_on}
use Rattle.pcrf_model.specs.Live.{is_live}
use Rattle.pcrf_model.specs.Sessions.{Session, session_cmp, gx, is_gx}
use Rattle.pcrf_model.specs.Views.{View, view}
use Rattle.pcrf_model.proofs.BindLaws.{live_reached, gx_is}
use Rattle.pcrf_model.proofs.HoldingLaws.{session_ranked}
use Rattle.pcrf_model.proofs.ViewLaws.{its_session}
use Rattle.site_join.specs.States.{Records}
use Rattle.bind_index.specs.Beside.{beside}
use Rattle.bind_index.specs.Listings.{Question, shows_asked, listed, live_sessions, listed_among}
use Rattle.bind_index.proofs.Entries.{AreRecordsOf, its_facts, has_record, is_there}

-- what is known of a session that is listed
record IsListed (v : View) (q : Question) (s : Session) (id : List ℕ) : Type 0 where
  named : gx id ≡ s
  shows : (p : Place) × (x : Entry) × (v.shows s p ≡ Some x)

-- so it is
is_listed : (v : View) (q : Question) (s : Session) (id : List ℕ) → listed v q s ≡ Some id → IsListed v q s id
is_listed v q s id h =
    let c = came_from (is_gx s.kind && is_live v s && shows_asked q (v.shows s)) (Some s.id) id h in
    let lives : (is_gx s.kind && is_live v s) ≡ true = first_so _ _ c.0 in
    let of_gateway : is_gx s.kind ≡ true = first_so _ _ lives in
    let live : is_live v s ≡ true = second_so (is_gx s.kind) _ lives in
    let r = live_reached v s live in
    record {
      named = ap gx (sym (some_same _ _ c.1)) ∙ gx_is s s.kind refl of_gateway;
      shows = (r.0, r.2, r.3);
    }

-- records stand in the order of their Session-Ids
keys_rise : (es : Records) → IsAscending text_cmp es → Rises (λ (e d : List ℕ × List Fact). text_cmp e.0 d.0) es
keys_rise [] s = tt
keys_rise (e ∷ es) s = (λ d i. below_member text_ranked e.0 d es s.0 i, keys_rise es s.1)

module _ (facts : List SessionFact) (es : Records) (r : AreRecordsOf gx facts es) (q : Question) where
  -- what is read of the facts
  abbrev v : View
  v = view facts

  -- how the code lists
  abbrev of_record : List ℕ × List Fact → Option (List ℕ)
  of_record e = listed (beside e.1 []) q (gx e.0)

  -- the session is read alone
  alone : (id : List ℕ) → listed (beside (facts_on facts (gx id)) []) q (gx id) ≡ listed v q (gx id)
  unfolding view
  alone id = refl

  -- of each record
  its_listing : (e : List ℕ × List Fact) → In e es → of_record e ≡ listed v q (gx e.0)
  its_listing e i = ap (λ (fs : List Fact). listed (beside fs []) q (gx e.0)) (sym (its_facts facts es r e i)) ∙ alone e.0

  -- each that is listed is of a record
  forth : (id : List ℕ) → In id (live_sessions v q) → In id (listed_among q es)
  forth id i =
      let w = filter_map-In (listed v q) id v.sessions i in
      let l = is_listed v q w.0 id w.2 in
      let x = l.shows in
      let here : listed v q (gx id) ≡ Some id = ap (listed v q) l.named ∙ w.2 in
      let shows : v.shows (gx id) x.0 ≡ Some x.1 = ap (λ (s : Session). v.shows s x.0) l.named ∙ x.2 in
      In-filter_map of_record (id, facts_on facts (gx id)) id es (has_record facts es r id x.0 x.1 shows) (alone id ∙ here)

  -- and each of a record is listed
  back : (id : List ℕ) → In id (listed_among q es) → In id (live_sessions v q)
  unfolding view
  back id i =
      let w = filter_map-In of_record id es i in
      let here : listed v q (gx w.0.0) ≡ Some id = sym (its_listing w.0 w.1) ∙ w.2 in
      let x = (is_listed v q (gx w.0.0) id here).shows in
      In-filter_map (listed v q) (gx w.0.0) id v.sessions (is_there facts es r w.0.0 x.0 x.1 x.2) here

  -- those of sessions rise
  sessions_rise : Rises text_cmp (live_sessions v q)
  unfolding view
  sessions_rise = filter_map-ascending session_cmp text_cmp (listed v q) v.sessions
      (λ s t u w _ _ less p o.
      let a = (is_listed v q s u p).named in
      let b = (is_listed v q t w o).named in
      (λ i. session_cmp (a i) (b i)) ∙ less)
      (ascending-ascending session_cmp session_ranked (map its_session facts))

  -- and those of records
  records_rise : Rises text_cmp (listed_among q es)
  records_rise = filter_map-ascending (λ (e d : List ℕ × List Fact). text_cmp e.0 d.0) text_cmp of_record es
      (λ e d u w _ _ less p o. (λ i. text_cmp (its_id e u p i) (its_id d w o i)) ∙ less)
      (keys_rise es r.ascending)
    where
      its_id : (e : List ℕ × List Fact) (u : List ℕ) → of_record e ≡ Some u → u ≡ e.0
      its_id e u h = ap (λ (s : Session). s.id) (is_listed (beside e.1 []) q (gx e.0) u h).named

  -- so they are the same
  pub lists_the_same : listed_among q es ≡ live_sessions v q
  lists_the_same = same_ascending text_cmp text_ranked (listed_among q es) (live_sessions v q) records_rise sessions_rise (λ id. (back id, forth id))
