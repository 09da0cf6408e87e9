-- The first session that is abandoned is that of the first record that is.
use Rattle.std.proofs.Common.{◌≡◌, ℕ, Bool, true, false, cond, List, [], ◌∷◌, map, find, Option, Some, None, inl, inr, refl, sym, ap, ◌∙◌, subst, option_map, Ordering, Less}
use Rattle.std.specs.List.{filter}
use Rattle.pcrf_values.specs.Ascending.{Rises}
use Rattle.pcrf_values.specs.Orders.{text_cmp}
use Rattle.pcrf_values.specs.Sets.{In, Same}
use Rattle.pcrf_values.proofs.OrderLaws.{IsRanked, text_ranked}
use Rattle.pcrf_values.proofs.SetLaws.{In-filter, filter-In, In-map, map-In}
use Rattle.pcrf_values.proofs.AscendingLaws.{filter-ascending, ascending-ascending, same_ascending}
use Rattle.lattice_core.specs.Entries.{IsAscending}
use Rattle.lattice_core.proofs.MapParts.{below_member}
use Rattle.pcrf_values.specs.Facts.{Fact}
use Rattle.pcrf_values.specs.FlowWords.{or_else}
use Rattle.pcrf_values.specs.Places.{Place}
use Rattle.pcrf_values.specs.Values.{Entry}
use Rattle.pcrf_model.specs.Holdings.{SessionFact, facts_on}
use Rattle.pcrf_model.specs.Sessions.{Session, session_cmp, af}
use Rattle.pcrf_model.specs.Views.{View, view}
use Rattle.pcrf_model.specs.Replies.{AbortValue}
use Rattle.pcrf_model.specs.Aborting.{abort_of, is_abandoned, abandoned_session}
use Rattle.pcrf_model.proofs.AbortingLaws.{abandoned_lives}
use Rattle.pcrf_model.proofs.BindLaws.{live_reached}
use Rattle.pcrf_model.proofs.HoldingLaws.{session_ranked}
use Rattle.pcrf_model.proofs.ViewLaws.{its_session, shows-known}
use Rattle.site_join.specs.States.{Records}
use Rattle.bind_index.proofs.Entries.{AreRecordsOf, its_facts, has_record}
use Rattle.rule_delta.specs.AbortsByRecord.{abort_if_abandoned, first_abort}
use Rattle.rule_delta.proofs.ByRecord.{abort_alone}
use Rattle.rule_delta.proofs.Firsts.{af_is}
use Rattle.rule_delta.proofs.Parts.{of_call}

-- ---- the first that passes

-- the first member
abbrev head : {A : Type 0} → List A → Option A
head [] = None
head (x ∷ xs) = Some x

-- it is the first of those that pass
found_head : {A : Type 0} (p : A → Bool) (xs : List A) → find p xs ≡ head (filter p xs)
found_head p [] = refl
found_head p (x ∷ xs) = elim (p x) as (λ b. cond b (Some x) (find p xs) ≡ head (cond b (x ∷ filter p xs) (filter p xs))) [
  | true ↦ refl
  | false ↦ found_head p xs
]

-- in rising lists of which the same pass the same is found
same_found : {A : Type 0} (cmp : A → A → Ordering) (o : IsRanked cmp) (p : A → Bool) (xs ys : List A) → Rises cmp xs → Rises cmp ys → Same (filter p xs) (filter p ys) → find p xs ≡ find p ys
same_found cmp o p xs ys r s e =
    found_head p xs
    ∙ ap head (same_ascending cmp o (filter p xs) (filter p ys) (filter-ascending cmp p xs r) (filter-ascending cmp p ys s) e)
    ∙ sym (found_head p ys)

-- ---- records

-- the session of a record
abbrev session_of : List ℕ × List Fact → Session
session_of e = af e.0

-- sessions of records are in order
records_rise : (es : Records) → IsAscending text_cmp es → Rises session_cmp (map session_of es)
records_rise [] s = tt
records_rise (e ∷ es) s = (
  λ y i. let d = map-In session_of y es i in subst (λ (z : Session). session_cmp (af e.0) z ≡ Less) (sym d.2) (below_member text_ranked e.0 d.0 es s.0 d.1),
  records_rise es s.1,
)

module _ (i : ℕ) (name : Option (List ℕ)) (facts : List SessionFact) (es : Records) (r : AreRecordsOf af facts es) where
  -- what is read of the facts
  abbrev v : View
  v = view facts

  -- it is abandoned
  abbrev is_next : Session → Bool
  is_next = is_abandoned i v name

  -- what is asked of a session, if it is abandoned
  abbrev abort_if_so : Session → Option AbortValue
  abort_if_so s = cond (is_next s) (Some (abort_of v s)) None

  -- what is known of a session that is abandoned
  record IsLeft (s : Session) : Type 0 where
    named : af s.id ≡ s
    shows : (p : Place) × (x : Entry) × (v.shows s p ≡ Some x)

  -- so it is
  is_left_so : (s : Session) → is_next s ≡ true → IsLeft s
  is_left_so s h =
      let r = live_reached v s (abandoned_lives i v name s h) in
      record {
        named = af_is s s.kind refl (of_call i v name s h);
        shows = (r.0, r.2, r.3);
      }

  -- of each record
  its_abort : (e : List ℕ × List Fact) → In e es → abort_if_abandoned v i name e.0 e.1 ≡ abort_if_so (af e.0)
  its_abort e j = ap (abort_if_abandoned v i name e.0) (sym (its_facts facts es r e j)) ∙ abort_alone i facts e.0 name

  -- the first abort is of the first session that is abandoned
  first_is : (fs : Records) → ((e : List ℕ × List Fact) → In e fs → abort_if_abandoned v i name e.0 e.1 ≡ abort_if_so (af e.0))
      → first_abort v i name fs ≡ option_map (abort_of v) (find is_next (map session_of fs))
  first_is [] h = refl
  first_is (e ∷ fs) h =
      ap (λ (o : Option AbortValue). or_else o (first_abort v i name fs)) (h e (inl refl))
      ∙ ap (or_else (abort_if_so (af e.0))) (first_is fs (λ d j. h d (inr j)))
      ∙ by_test (is_next (af e.0))
    where
      by_test : (b : Bool)
          → or_else (cond b (Some (abort_of v (af e.0))) None) (option_map (abort_of v) (find is_next (map session_of fs)))
          ≡ option_map (abort_of v) (cond b (Some (af e.0)) (find is_next (map session_of fs)))
      by_test true = refl
      by_test false = refl

  -- each record's session that is abandoned is known
  forth : (s : Session) → In s (filter is_next (map session_of es)) → In s (filter is_next v.sessions)
  forth s j =
      let k = filter-In is_next s (map session_of es) j in
      let x = (is_left_so s k.1).shows in
      In-filter is_next s v.sessions (shows-known facts s x.0 x.1 x.2) k.1

  -- and each session that is abandoned has a record
  back : (s : Session) → In s (filter is_next v.sessions) → In s (filter is_next (map session_of es))
  back s j =
      let k = filter-In is_next s v.sessions j in
      let d = is_left_so s k.1 in
      let x = d.shows in
      let shows : v.shows (af s.id) x.0 ≡ Some x.1 = ap (λ (z : Session). v.shows z x.0) d.named ∙ x.2 in
      let there = In-map session_of (s.id, facts_on facts (af s.id)) es (has_record facts es r s.id x.0 x.1 shows) in
      In-filter is_next s (map session_of es) (subst (λ (z : Session). In z (map session_of es)) d.named there) k.1

  -- the sessions rise
  sessions_rise : Rises session_cmp v.sessions
  unfolding view
  sessions_rise = ascending-ascending session_cmp session_ranked (map its_session facts)

  -- so the abort is of the session that is abandoned
  pub aborted_is : first_abort v i name es ≡ option_map (abort_of v) (abandoned_session i v name)
  unfolding abandoned_session
  aborted_is =
      first_is es its_abort
      ∙ ap (option_map (abort_of v)) (same_found session_cmp session_ranked is_next (map session_of es) v.sessions (records_rise es r.ascending) sessions_rise (λ s. (forth s, back s)))
