-- The sessions of one kind that a view lists are those of the records that have facts.
use Rattle.std.proofs.Common.{◌≡◌, ℕ, Bool, true, false, cond, not, List, [], ◌∷◌, map, Option, Some, None, is_some, inl, inr, refl, sym, ap, ◌∙◌, subst, Less}
use Rattle.std.specs.List.{filter, filter_map, cons_option}
use Rattle.pcrf_values.specs.Ascending.{Rises}
use Rattle.pcrf_values.specs.Orders.{text_cmp}
use Rattle.pcrf_values.specs.Sets.{In}
use Rattle.pcrf_values.proofs.Plain.{clash, some_is}
use Rattle.pcrf_values.proofs.OrderLaws.{text_ranked}
use Rattle.pcrf_values.proofs.SetLaws.{In-filter, filter-In, In-map, map-In}
use Rattle.pcrf_values.proofs.AscendingLaws.{filter-ascending, map-ascending, ascending-ascending, ascending-In, same_ascending}
use Rattle.lattice_core.specs.Entries.{value_at}
use Rattle.lattice_core.proofs.MapParts.{found_entry}
use Rattle.pcrf_values.specs.Facts.{Fact}
use Rattle.pcrf_model.specs.Holdings.{SessionFact, facts_on}
use Rattle.pcrf_model.specs.Sessions.{Kind, Gx, Af, Session, session_cmp}
use Rattle.pcrf_model.specs.Views.{view}
use Rattle.pcrf_model.proofs.HoldingLaws.{session_ranked, In-facts_on, facts_on-In}
use Rattle.pcrf_model.proofs.ViewLaws.{its_session}
use Rattle.lattice_core.specs.Sets.{facts_empty}
use Rattle.lattice_core.proofs.Ordered.{entries_ascending}
use Rattle.site_join.specs.States.{Records, record_facts}
use Rattle.bind_index.proofs.Entries.{AreRecordsOf, its_facts}

-- ---- what is taken of lists

-- what is taken of members is taken of those that give something
pub only_some : {A B : Type 0} (f : A → Option B) (xs : List A) → filter_map f (filter (λ x. is_some (f x)) xs) ≡ filter_map f xs
only_some f [] = refl
only_some {A = A} {B = B} f (x ∷ xs) = by_value (f x) refl (only_some f xs)
  where
    passing : List A
    passing = filter (λ y. is_some (f y)) xs

    by_value : (o : Option B) → f x ≡ o → filter_map f passing ≡ filter_map f xs → filter_map f (cond (is_some (f x)) (x ∷ passing) passing) ≡ cons_option (f x) (filter_map f xs)
    by_value None e h =
        ap (λ (o : Option B). filter_map f (cond (is_some o) (x ∷ passing) passing)) e
        ∙ h
        ∙ ap (λ (o : Option B). cons_option o (filter_map f xs)) (sym e)
    by_value (Some y) e h =
        ap (λ (o : Option B). filter_map f (cond (is_some o) (x ∷ passing) passing)) e
        ∙ ap (cons_option (f x)) h

-- what is taken of those that pass
of_passing : {A B C : Type 0} (p : A → Bool) (g : A → B) (f : B → Option C) (xs : List A) → filter_map f (map g (filter p xs)) ≡ filter_map (λ x. cond (p x) (f (g x)) None) xs
of_passing p g f [] = refl
of_passing p g f (x ∷ xs) = elim (p x) as (λ b. filter_map f (map g (cond b (x ∷ filter p xs) (filter p xs))) ≡ cons_option (cond b (f (g x)) None) (filter_map (λ y. cond (p y) (f (g y)) None) xs)) [
  | true ↦ ap (cons_option (f (g x))) (of_passing p g f xs)
  | false ↦ of_passing p g f xs
]

-- the same is taken where each member gives the same
pub taken_alike : {A B : Type 0} (f g : A → Option B) (xs : List A) → ((x : A) → In x xs → f x ≡ g x) → filter_map f xs ≡ filter_map g xs
taken_alike f g [] h = refl
taken_alike f g (x ∷ xs) h = ap (λ o. cons_option o (filter_map f xs)) (h x (inl refl)) ∙ ap (cons_option (g x)) (taken_alike f g xs (λ y i. h y (inr i)))

-- ---- records

-- the session of that kind and Session-Id
abbrev pub named : Kind → List ℕ → Session
named k id = record { kind = k; id = id }

-- of a record
abbrev pub session_of : Kind → List ℕ × List Fact → Session
session_of k e = named k e.0

-- it has a fact
abbrev pub has_facts : List ℕ × List Fact → Bool
has_facts e = not (facts_empty e.1)

-- sessions of one kind stand in the order of their Session-Ids
same_order : (k : Kind) (x y : List ℕ) → text_cmp x y ≡ Less → session_cmp (named k x) (named k y) ≡ Less
same_order Gx x y l = l
same_order Af x y l = l

-- a member makes a list not empty
pub member_there : (fs : List Fact) (f : Fact) → In f fs → not (facts_empty fs) ≡ true
member_there [] f i = absurd i
member_there (g ∷ fs) f i = refl

-- a list that is not empty has a member
first_member : (fs : List Fact) → not (facts_empty fs) ≡ true → (f : Fact) × In f fs
first_member [] h = clash false h refl
first_member (f ∷ fs) h = (f, inl refl)

module _ {B : Type 0} (k : Kind) (facts : List SessionFact) (es : Records) (r : AreRecordsOf (named k) facts es) (pick : Session → Option B)
    (of_kind : (s : Session) (b : B) → pick s ≡ Some b → named k s.id ≡ s) where
  -- the sessions of the records that have facts
  abbrev recorded : List Session
  recorded = map (session_of k) (filter has_facts es)

  -- something is picked of it
  abbrev picked : Session → Bool
  picked s = is_some (pick s)

  -- they rise
  recorded_rise : Rises session_cmp recorded
  recorded_rise = map-ascending (λ (e d : List ℕ × List Fact). text_cmp e.0 d.0) session_cmp (session_of k) (filter has_facts es)
      (λ e d _ _ l. same_order k e.0 d.0 l)
      (filter-ascending (λ (e d : List ℕ × List Fact). text_cmp e.0 d.0) has_facts es (entries_ascending text_ranked es r.ascending))

  -- and so do those of the view
  listed_rise : Rises session_cmp (view facts).sessions
  unfolding view
  listed_rise = ascending-ascending session_cmp session_ranked (map its_session facts)

  -- a session with a fact has a record with facts
  has_record : (id : List ℕ) (f : Fact) → In f (facts_on facts (named k id)) → In (named k id) recorded
  has_record id f i = by_record (value_at text_cmp es id) refl
    where
      by_record : (o : Option (List Fact)) → value_at text_cmp es id ≡ o → In (named k id) recorded
      by_record None e = absurd (subst (λ (fs : List Fact). In f fs) (sym (sym (ap record_facts e) ∙ r.reads id)) i)
      by_record (Some fs) e =
          let its : fs ≡ facts_on facts (named k id) = sym (ap record_facts e) ∙ r.reads id in
          let there = found_entry text_ranked id fs es e in
          let full : has_facts (id, fs) ≡ true = member_there fs f (subst (λ (gs : List Fact). In f gs) (sym its) i) in
          In-map (session_of k) (id, fs) (filter has_facts es) (In-filter has_facts (id, fs) es there full)

  -- each session of the view of which something is picked has a record
  forth : (s : Session) → In s (filter picked (view facts).sessions) → In s (filter picked recorded)
  unfolding view
  forth s i =
      let q = filter-In picked s (view facts).sessions i in
      let b = some_is (pick s) q.1 in
      let name : named k s.id ≡ s = of_kind s b.0 b.1 in
      let m = map-In its_session s facts ((ascending-In session_cmp session_ranked (map its_session facts) s).0 q.0) in
      let fact : In (named k s.id, m.0.1) facts = subst (λ (z : Session). In (z, m.0.1) facts) (sym (name ∙ m.2)) m.1 in
      let there = has_record s.id m.0.1 (In-facts_on facts (named k s.id) m.0.1 fact) in
      In-filter picked s recorded (subst (λ (z : Session). In z recorded) name there) q.1

  -- and each record's session is one of the view
  back : (s : Session) → In s (filter picked recorded) → In s (filter picked (view facts).sessions)
  unfolding view
  back s i =
      let q = filter-In picked s recorded i in
      let m = map-In (session_of k) s (filter has_facts es) q.0 in
      let e = filter-In has_facts m.0 es m.1 in
      let f = first_member m.0.1 e.1 in
      let here : In f.0 (facts_on facts (named k m.0.0)) = subst (λ (fs : List Fact). In f.0 fs) (sym (its_facts facts es r m.0 e.0)) f.1 in
      let known : In (named k m.0.0) (map its_session facts) = In-map its_session (named k m.0.0, f.0) facts (facts_on-In facts (named k m.0.0) f.0 here) in
      let listed : In s (map its_session facts) = subst (λ (z : Session). In z (map its_session facts)) (sym m.2) known in
      In-filter picked s (view facts).sessions ((ascending-In session_cmp session_ranked (map its_session facts) s).1 listed) q.1

  -- what is picked of a record's session
  abbrev pub of_record : List ℕ × List Fact → Option B
  of_record e = cond (has_facts e) (pick (named k e.0)) None

  -- so what is picked of the view's sessions is picked of the records
  pub picked_of_records : filter_map of_record es ≡ filter_map pick (view facts).sessions
  picked_of_records =
      sym (of_passing has_facts (session_of k) pick es)
      ∙ sym (only_some pick recorded)
      ∙ ap (filter_map pick) (same_ascending session_cmp session_ranked (filter picked recorded) (filter picked (view facts).sessions)
      (filter-ascending session_cmp picked recorded recorded_rise)
      (filter-ascending session_cmp picked (view facts).sessions listed_rise)
      (λ s. (back s, forth s)))
      ∙ only_some pick (view facts).sessions
