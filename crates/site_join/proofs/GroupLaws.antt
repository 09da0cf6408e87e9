-- The groups of a state's records are its facts, session by session.
use Rattle.std.proofs.Common.{◌≡◌, ℕ, true, List, [], ◌∷◌, ◌++◌, length, map, Option, Some, None, inl, inr, refl, sym, ap, ◌∙◌, subst, Ordering, Less, Equal, nat_le, ◌≤◌, arith}
use Rattle.std.specs.Ordering.{ordering_then}
use Rattle.std.specs.Cmp.{tied_itself}
use Rattle.std.specs.List.{filter_map, list_all}
use Rattle.pcrf_values.specs.Ascending.{Rises}
use Rattle.pcrf_values.specs.Orders.{text_cmp}
use Rattle.pcrf_values.specs.Sets.{In}
use Rattle.pcrf_values.proofs.Plain.{none_some, some_same}
use Rattle.pcrf_values.proofs.OrderLaws.{text_ranked}
use Rattle.pcrf_values.proofs.SetLaws.{In-cases, In-left, In-right, In-filter_map, filter_map-In}
use Rattle.pcrf_values.proofs.AscendingLaws.{filter_map-ascending, map-ascending, same_ascending, ascending-ascending}
use Rattle.lattice_core.specs.Entries.{IsAscending, value_at}
use Rattle.lattice_core.proofs.MapParts.{entry_found, found_entry, below_member}
use Rattle.pcrf_values.specs.Facts.{Fact, fact_cmp}
use Rattle.pcrf_model.specs.Sessions.{Kind, Gx, Af, Session, session_cmp, gx, af}
use Rattle.pcrf_model.specs.Holdings.{SessionFact, session_fact_cmp, on_session, under, facts_on, kept_facts, Holding, kept_of}
use Rattle.pcrf_model.specs.Forms.{is_rising}
use Rattle.pcrf_model.proofs.FormLaws.{all_pass, le_passes, test_by_rises}
use Rattle.pcrf_model.proofs.HoldingLaws.{session_ranked, session_fact_ranked, on_session-is, In-facts_on, facts_on-In, In-under, under-In}
use Rattle.site_join.specs.Groups.{Group, facts_of_groups, group_at}
use Rattle.site_join.specs.States.{Records, record_facts}

-- Each has a fact, and they stand strictly ascending by session.
pub record AreGroups (gs : List Group) : Type 0 where
  pub some : list_all (λ g. nat_le 1 (length g.1)) gs ≡ true
  pub rise : is_rising session_cmp (map (λ g. g.0) gs) ≡ true

-- ---- rising lists, one behind another

-- lists that rise, each member of the one below each of the other, rise together
rises_on : {A : Type 0} (cmp : A → A → Ordering) (xs ys : List A) → Rises cmp xs → Rises cmp ys → ((x y : A) → In x xs → In y ys → cmp x y ≡ Less) → Rises cmp (xs ++ ys)
rises_on cmp [] ys r s below = s
rises_on {A} cmp (x ∷ xs) ys r s below = (first, rises_on cmp xs ys r.1 s (λ z y i j. below z y (inr i) j))
  where
    first : (y : A) → In y (xs ++ ys) → cmp x y ≡ Less
    first y i = elim (In-cases y xs ys i) [ inl j ↦ r.0 y j | inr j ↦ below x y (inl refl) j ]

-- by session
abbrev pub group_cmp : Group → Group → Ordering
group_cmp g h = session_cmp g.0 h.0

-- a fact of groups is of one of them
pub one_group : (gs : List Group) (x : SessionFact) → In x (facts_of_groups gs) → (g : Group) × In g gs × (x.0 ≡ g.0) × In x.1 g.1
one_group [] x i = absurd i
one_group (g ∷ gs) x i = elim (In-cases x (under g.0 g.1) (facts_of_groups gs) i) [
  | inl j ↦ let r = under-In g.0 x g.1 j in (g, inl refl, r.0, r.1)
  | inr j ↦ let r = one_group gs x j in (r.0, inr r.1, r.2, r.3)
]

-- and a fact of one of them is theirs
pub of_groups : (gs : List Group) (g : Group) (f : Fact) → In g gs → In f g.1 → In (g.0, f) (facts_of_groups gs)
of_groups [] g f i j = absurd i
of_groups (h ∷ gs) g f (inl e) j = In-left (g.0, f) (under h.0 h.1) (facts_of_groups gs) (subst (λ (k : Group). In (g.0, f) (under k.0 k.1)) e (In-under g.0 f g.1 j))
of_groups (h ∷ gs) g f (inr i) j = In-right (g.0, f) (under h.0 h.1) (facts_of_groups gs) (of_groups gs g f i j)

-- facts rise on their session
under_rises : (s : Session) (fs : List Fact) → Rises fact_cmp fs → Rises session_fact_cmp (under s fs)
under_rises s fs r = map-ascending fact_cmp session_fact_cmp (λ f. (s, f)) fs (λ f g i j l. ap (λ o. ordering_then o (fact_cmp f g)) (tied_itself session_ranked.total s) ∙ l) r

-- the facts of groups rise, where groups and the facts of each do
pub groups_rise : (gs : List Group) → Rises group_cmp gs → ((g : Group) → In g gs → Rises fact_cmp g.1) → Rises session_fact_cmp (facts_of_groups gs)
groups_rise [] r each = tt
groups_rise (g ∷ gs) r each =
    rises_on session_fact_cmp (under g.0 g.1) (facts_of_groups gs) (under_rises g.0 g.1 (each g (inl refl))) (groups_rise gs r.1 (λ h i. each h (inr i)))
    (λ x y i j.
    let a = under-In g.0 x g.1 i in
    let b = one_group gs y j in
    let below : session_cmp x.0 y.0 ≡ Less = ap (λ (s : Session). session_cmp s y.0) a.0 ∙ ap (session_cmp g.0) b.2 ∙ r.0 b.0 b.1 in
    ap (λ o. ordering_then o (fact_cmp x.1 y.1)) below)

-- ---- the facts of one session

-- those that a rising list has rise
facts_on_rise : (facts : List SessionFact) (s : Session) → Rises session_fact_cmp facts → Rises fact_cmp (facts_on facts s)
facts_on_rise facts s r = filter_map-ascending session_fact_cmp fact_cmp (on_session s) facts
    (λ x y u w _ _ less p q.
    let a = on_session-is s x u p in
    let b = on_session-is s y w q in
    let tied : session_cmp x.0 y.0 ≡ Equal = ap (λ (t : Session). session_cmp t y.0) a.0 ∙ ap (session_cmp s) b.0 ∙ tied_itself session_ranked.total s in
    ap (λ (f : Fact). fact_cmp f w) (sym a.1) ∙ ap (fact_cmp x.1) (sym b.1) ∙ sym (ap (λ o. ordering_then o (fact_cmp x.1 y.1)) tied) ∙ less)
    r

-- ---- the records of one kind

-- they answer what is read of the facts
pub record AreRecordsOf (kind : List ℕ → Session) (facts : List SessionFact) (es : Records) : Type 0 where
  pub ascending : IsAscending text_cmp es
  pub reads : (id : List ℕ) → record_facts (value_at text_cmp es id) ≡ facts_on facts (kind id)

-- what a group is made of
record IsOf (kind : List ℕ → Session) (e : List ℕ × List Fact) (g : Group) : Type 0 where
  session : g.0 ≡ kind e.0
  facts : g.1 ≡ e.1
  some : 1 ≤ length g.1

is_of : (kind : List ℕ → Session) (e : List ℕ × List Fact) (g : Group) → group_at kind e ≡ Some g → IsOf kind e g
is_of kind (id, []) g h = none_some g h
is_of kind (id, f ∷ fs) g h =
    let same = some_same (kind id, f ∷ fs) g h in
    record { session = ap (λ (k : Group). k.0) (sym same); facts = ap (λ (k : Group). k.1) (sym same); some = subst (λ (k : Group). 1 ≤ length k.1) same (omega arith) }

-- facts are a group
is_group : (kind : List ℕ → Session) (id : List ℕ) (fs : List Fact) (f : Fact) → In f fs → group_at kind (id, fs) ≡ Some (kind id, fs)
is_group kind id [] f i = absurd i
is_group kind id (g ∷ fs) f i = refl

-- records stand in the order of their Session-Ids
keys_rise : (es : Records) → IsAscending text_cmp es → Rises (λ (e d : List ℕ × List Fact). text_cmp e.0 d.0) es
keys_rise [] s = tt
keys_rise (e ∷ es) s = (λ d i. below_member text_ranked e.0 d es s.0 i, keys_rise es s.1)

module _ (kind : List ℕ → Session) (orders : (a b : List ℕ) → text_cmp a b ≡ Less → session_cmp (kind a) (kind b) ≡ Less) (facts : List SessionFact) (es : Records) (r : AreRecordsOf kind facts es) where
  -- the groups of the records
  abbrev pub groups_of : List Group
  groups_of = filter_map (group_at kind) es

  -- they rise
  pub of_kind_rise : Rises group_cmp groups_of
  of_kind_rise = filter_map-ascending (λ (e d : List ℕ × List Fact). text_cmp e.0 d.0) group_cmp (group_at kind) es
      (λ e d u w _ _ less p q.
      let a = is_of kind e u p in
      let b = is_of kind d w q in
      ap (λ (s : Session). session_cmp s w.0) a.session ∙ ap (session_cmp (kind e.0)) b.session ∙ orders e.0 d.0 less)
      (keys_rise es r.ascending)

  -- each has the facts of its session
  pub its_facts : (g : Group) → In g groups_of → (g.1 ≡ facts_on facts g.0) × (1 ≤ length g.1)
  its_facts g i =
      let w = filter_map-In (group_at kind) g es i in
      let a = is_of kind w.0 g w.2 in
      let found : w.0.1 ≡ facts_on facts (kind w.0.0) = sym (ap record_facts (entry_found text_ranked w.0 es r.ascending w.1)) ∙ r.reads w.0.0 in
      (a.facts ∙ found ∙ ap (facts_on facts) (sym a.session), a.some)

  -- it is of the kind
  pub its_kind : (g : Group) → In g groups_of → (id : List ℕ) × (g.0 ≡ kind id)
  its_kind g i = let w = filter_map-In (group_at kind) g es i in (w.0.0, (is_of kind w.0 g w.2).session)

  -- and a session with a fact has one
  pub has_group : (id : List ℕ) (f : Fact) → In (kind id, f) facts → In (kind id, facts_on facts (kind id)) groups_of
  has_group id f i = by_record (value_at text_cmp es id) refl
    where
      there : In f (facts_on facts (kind id))
      there = In-facts_on facts (kind id) f i

      by_record : (o : Option (List Fact)) → value_at text_cmp es id ≡ o → In (kind id, facts_on facts (kind id)) groups_of
      by_record None e =
          let nothing : facts_on facts (kind id) ≡ [] = sym (r.reads id) ∙ ap record_facts e in
          absurd (subst (λ (l : List Fact). In f l) nothing there)
      by_record (Some fs) e =
          let its : fs ≡ facts_on facts (kind id) = sym (ap record_facts e) ∙ r.reads id in
          let entry : In (id, facts_on facts (kind id)) es = subst (λ (z : List Fact). In (id, z) es) its (found_entry text_ranked id fs es e) in
          In-filter_map (group_at kind) (id, facts_on facts (kind id)) (kind id, facts_on facts (kind id)) es entry (is_group kind id (facts_on facts (kind id)) f there)

-- ---- the records of both kinds

module _ (h : Holding) (kept : kept_of h ≡ h) (gxs afs : Records) (gr : AreRecordsOf gx h.facts gxs) (ar : AreRecordsOf af h.facts afs) where
  abbrev gx_groups : List Group
  gx_groups = filter_map (group_at gx) gxs

  abbrev af_groups : List Group
  af_groups = filter_map (group_at af) afs

  abbrev all_groups : List Group
  all_groups = gx_groups ++ af_groups

  -- gateways' sessions stand first
  kinds_apart : (g k : Group) → In g gx_groups → In k af_groups → group_cmp g k ≡ Less
  kinds_apart g k i j =
      let a = its_kind gx (λ _ _ l. l) h.facts gxs gr g i in
      let b = its_kind af (λ _ _ l. l) h.facts afs ar k j in
      ap (λ (s : Session). session_cmp s k.0) a.1 ∙ ap (session_cmp (gx a.0)) b.1

  -- the groups rise
  all_rise : Rises group_cmp all_groups
  all_rise = rises_on group_cmp gx_groups af_groups (of_kind_rise gx (λ _ _ l. l) h.facts gxs gr) (of_kind_rise af (λ _ _ l. l) h.facts afs ar) kinds_apart

  -- each has the facts of its session
  all_facts : (g : Group) → In g all_groups → (g.1 ≡ facts_on h.facts g.0) × (1 ≤ length g.1)
  all_facts g i = elim (In-cases g gx_groups af_groups i) [
    | inl j ↦ its_facts gx (λ _ _ l. l) h.facts gxs gr g j
    | inr j ↦ its_facts af (λ _ _ l. l) h.facts afs ar g j
  ]

  -- the facts of what is kept rise
  facts_rise : Rises session_fact_cmp h.facts
  facts_rise = subst (λ (l : List SessionFact). Rises session_fact_cmp l) (ap (λ (k : Holding). k.facts) kept) (ascending-ascending session_fact_cmp session_fact_ranked (kept_facts h.facts))

  -- each fact is of a group
  forth : (x : SessionFact) → In x h.facts → In x (facts_of_groups all_groups)
  forth (s, f) i = by_kind s.kind s.id i
    where
      by_kind : (k : Kind) (id : List ℕ) → In (record { kind = k; id = id }, f) h.facts → In (record { kind = k; id = id }, f) (facts_of_groups all_groups)
      by_kind Gx id j = of_groups all_groups (gx id, facts_on h.facts (gx id)) f (In-left (gx id, facts_on h.facts (gx id)) gx_groups af_groups (has_group gx (λ _ _ l. l) h.facts gxs gr id f j)) (In-facts_on h.facts (gx id) f j)
      by_kind Af id j = of_groups all_groups (af id, facts_on h.facts (af id)) f (In-right (af id, facts_on h.facts (af id)) gx_groups af_groups (has_group af (λ _ _ l. l) h.facts afs ar id f j)) (In-facts_on h.facts (af id) f j)

  -- and each of a group is held
  back : (x : SessionFact) → In x (facts_of_groups all_groups) → In x h.facts
  back x i =
      let w = one_group all_groups x i in
      let its = (all_facts w.0 w.1).0 in
      let there : In (w.0.0, x.1) h.facts = facts_on-In h.facts w.0.0 x.1 (subst (λ (l : List Fact). In x.1 l) its w.3) in
      subst (λ (s : Session). In (s, x.1) h.facts) (sym w.2) there

  -- So the groups have just the facts,
  pub groups_are_facts : facts_of_groups all_groups ≡ h.facts
  groups_are_facts = same_ascending session_fact_cmp session_fact_ranked (facts_of_groups all_groups) h.facts
      (groups_rise all_groups all_rise (λ g i. subst (λ (l : List Fact). Rises fact_cmp l) (sym (all_facts g i).0) (facts_on_rise h.facts g.0 facts_rise)))
      facts_rise (λ x. (back x, forth x))

  -- each some, and stand in order.
  pub groups_apart : AreGroups all_groups
  groups_apart = record {
    some = all_pass (λ (g : Group). nat_le 1 (length g.1)) all_groups (λ g i. le_passes 1 (length g.1) (all_facts g i).1);
    rise = test_by_rises session_cmp (map (λ (g : Group). g.0) all_groups) (map-ascending group_cmp session_cmp (λ (g : Group). g.0) all_groups (λ g k _ _ l. l) all_rise);
  }
