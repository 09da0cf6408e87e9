-- The first session that is due is that of the first record that is.
use Rattle.std.proofs.Common.{◌≡◌, ℕ, Bool, true, false, cond, not, ◌&&◌, List, [], ◌∷◌, map, find, Option, Some, None, inl, inr, refl, sym, ap, ◌∙◌, subst, option_map, Ordering, Less}
use Rattle.std.specs.Cmp.{first_so, second_so}
use Rattle.std.specs.List.{filter}
use Rattle.pcrf_values.specs.Ascending.{Rises}
use Rattle.pcrf_values.specs.Orders.{text_cmp}
use Rattle.pcrf_values.specs.Sets.{In, Same}
use Rattle.pcrf_values.proofs.OrderLaws.{IsRanked, text_ranked}
use Rattle.pcrf_values.proofs.SetLaws.{In-filter, filter-In, In-map, map-In}
use Rattle.pcrf_values.proofs.AscendingLaws.{filter-ascending, ascending-ascending, same_ascending}
use Rattle.lattice_core.specs.Entries.{IsAscending}
use Rattle.lattice_core.proofs.MapParts.{below_member}
use Rattle.pcrf_values.specs.Facts.{Fact}
use Rattle.pcrf_values.specs.FlowWords.{or_else}
use Rattle.pcrf_values.specs.Places.{Place}
use Rattle.pcrf_values.specs.Values.{Entry}
use Rattle.pcrf_model.specs.Holdings.{SessionFact, facts_on}
use Rattle.pcrf_model.specs.Live.{is_live}
use Rattle.pcrf_model.specs.Sessions.{Session, session_cmp, gx, is_gx}
use Rattle.pcrf_model.specs.Views.{View, view}
use Rattle.pcrf_model.specs.Tables.{Tables}
use Rattle.pcrf_model.specs.Differences.{is_empty}
use Rattle.pcrf_model.specs.Replies.{PushValue}
use Rattle.pcrf_model.specs.Pushing.{is_of_host, is_home, is_due, due_session}
use Rattle.pcrf_model.proofs.BindLaws.{live_reached, gx_is}
use Rattle.pcrf_model.proofs.HoldingLaws.{session_ranked}
use Rattle.pcrf_model.proofs.ViewLaws.{its_session, shows-known}
use Rattle.site_join.specs.States.{Records}
use Rattle.bind_index.proofs.Entries.{AreRecordsOf, its_facts, has_record}
use Rattle.rule_delta.specs.Pushed.{untold_difference, push_of}
use Rattle.rule_delta.specs.ByRecord.{is_at_host, push_due, first_push}

-- ---- the first that passes

-- the first member
abbrev head : {A : Type 0} → List A → Option A
head [] = None
head (x ∷ xs) = Some x

-- it is the first of those that pass
found_head : {A : Type 0} (p : A → Bool) (xs : List A) → find p xs ≡ head (filter p xs)
found_head p [] = refl
found_head p (x ∷ xs) = elim (p x) as (λ b. cond b (Some x) (find p xs) ≡ head (cond b (x ∷ filter p xs) (filter p xs))) [
  | true ↦ refl
  | false ↦ found_head p xs
]

-- in rising lists of which the same pass the same is found
same_found : {A : Type 0} (cmp : A → A → Ordering) (o : IsRanked cmp) (p : A → Bool) (xs ys : List A) → Rises cmp xs → Rises cmp ys → Same (filter p xs) (filter p ys) → find p xs ≡ find p ys
same_found cmp o p xs ys r s e =
    found_head p xs
    ∙ ap head (same_ascending cmp o (filter p xs) (filter p ys) (filter-ascending cmp p xs r) (filter-ascending cmp p ys s) e)
    ∙ sym (found_head p ys)

-- ---- records

-- the session of a record
abbrev session_of : List ℕ × List Fact → Session
session_of e = gx e.0

-- sessions of records are in order
records_rise : (es : Records) → IsAscending text_cmp es → Rises session_cmp (map session_of es)
records_rise [] s = tt
records_rise (e ∷ es) s = (
  λ y i. let d = map-In session_of y es i in subst (λ (z : Session). session_cmp (gx e.0) z ≡ Less) (sym d.2) (below_member text_ranked e.0 d.0 es s.0 d.1),
  records_rise es s.1,
)

module _ (t : Tables) (i : ℕ) (name : Option (List ℕ)) (facts : List SessionFact) (es : Records) (r : AreRecordsOf gx facts es) where
  -- what is read of the facts
  abbrev v : View
  v = view facts

  -- it is due
  abbrev is_next : Session → Bool
  is_next = is_due t i v name

  -- what is pushed of a session, if it is due
  abbrev push_if_due : Session → Option PushValue
  push_if_due s = cond (is_next s) (Some (push_of t v s)) None

  -- what is known of a session that is due
  record IsDue (s : Session) : Type 0 where
    named : gx s.id ≡ s
    shows : (p : Place) × (x : Entry) × (v.shows s p ≡ Some x)

  -- so it is
  is_due_so : (s : Session) → is_next s ≡ true → IsDue s
  is_due_so s h =
      let both : (is_gx s.kind && is_live v s) ≡ true = first_so _ _ (first_so _ _ (first_so _ _ h)) in
      let of_gateway : is_gx s.kind ≡ true = first_so _ _ both in
      let live : is_live v s ≡ true = second_so (is_gx s.kind) _ both in
      let r = live_reached v s live in
      record {
        named = gx_is s s.kind refl of_gateway;
        shows = (r.0, r.2, r.3);
      }

  -- its host is read alone
  host_alone : (given : Option (List ℕ)) (id : List ℕ) → is_at_host given (facts_on facts (gx id)) ≡ is_of_host v given (gx id)
  unfolding view
  host_alone None id = refl
  host_alone (Some h) id = refl

  -- and so is its push
  push_alone : (id : List ℕ) → push_due t v i name id (facts_on facts (gx id)) ≡ push_if_due (gx id)
  unfolding view
  push_alone id = ap (λ (b : Bool). cond (is_live v (gx id) && is_home i v (gx id) && b && not (is_empty (untold_difference t v (gx id)))) (Some (push_of t v (gx id))) None) (host_alone name id)

  -- of each record
  its_push : (e : List ℕ × List Fact) → In e es → push_due t v i name e.0 e.1 ≡ push_if_due (gx e.0)
  its_push e j = ap (push_due t v i name e.0) (sym (its_facts facts es r e j)) ∙ push_alone e.0

  -- the first push is of the first session that is due
  first_is : (fs : Records) → ((e : List ℕ × List Fact) → In e fs → push_due t v i name e.0 e.1 ≡ push_if_due (gx e.0))
      → first_push t v i name fs ≡ option_map (push_of t v) (find is_next (map session_of fs))
  first_is [] h = refl
  first_is (e ∷ fs) h =
      ap (λ (o : Option PushValue). or_else o (first_push t v i name fs)) (h e (inl refl))
      ∙ ap (or_else (push_if_due (gx e.0))) (first_is fs (λ d j. h d (inr j)))
      ∙ by_test (is_next (gx e.0))
    where
      by_test : (b : Bool)
          → or_else (cond b (Some (push_of t v (gx e.0))) None) (option_map (push_of t v) (find is_next (map session_of fs)))
          ≡ option_map (push_of t v) (cond b (Some (gx e.0)) (find is_next (map session_of fs)))
      by_test true = refl
      by_test false = refl

  -- each record's session that is due is known
  forth : (s : Session) → In s (filter is_next (map session_of es)) → In s (filter is_next v.sessions)
  forth s j =
      let k = filter-In is_next s (map session_of es) j in
      let x = (is_due_so s k.1).shows in
      In-filter is_next s v.sessions (shows-known facts s x.0 x.1 x.2) k.1

  -- and each session that is due has a record
  back : (s : Session) → In s (filter is_next v.sessions) → In s (filter is_next (map session_of es))
  back s j =
      let k = filter-In is_next s v.sessions j in
      let d = is_due_so s k.1 in
      let x = d.shows in
      let shows : v.shows (gx s.id) x.0 ≡ Some x.1 = ap (λ (z : Session). v.shows z x.0) d.named ∙ x.2 in
      let there = In-map session_of (s.id, facts_on facts (gx s.id)) es (has_record facts es r s.id x.0 x.1 shows) in
      In-filter is_next s (map session_of es) (subst (λ (z : Session). In z (map session_of es)) d.named there) k.1

  -- the sessions rise
  sessions_rise : Rises session_cmp v.sessions
  unfolding view
  sessions_rise = ascending-ascending session_cmp session_ranked (map its_session facts)

  -- so the push is of the session that is due
  pub pushed_is : first_push t v i name es ≡ option_map (push_of t v) (due_session t i v name)
  unfolding due_session
  pushed_is =
      first_is es its_push
      ∙ ap (option_map (push_of t v)) (same_found session_cmp session_ranked is_next (map session_of es) v.sessions (records_rise es r.ascending) sessions_rise (λ s. (forth s, back s)))
