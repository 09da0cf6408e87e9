-- A state holds what is kept of the facts of its records, and maps of records join as their facts do.
use Rattle.std.proofs.Common.{◌≡◌, ℕ, max, true, List, [], ◌∷◌, ◌++◌, ◌⊎◌, Option, Some, None, inl, inr, refl, sym, ap, ◌∙◌, subst, append-nil, Less}
use Rattle.std.specs.Ordering.{ordering_then}
use Rattle.std.specs.Cmp.{tied_itself}
use Rattle.std.proofs.lemmas.Cmp.{nat_list_cmp_total}
use Rattle.pcrf_values.specs.laws.Exact.{text_same}
use Rattle.std.proofs.lemmas.List.{map-append}
use Rattle.pcrf_values.specs.Ascending.{ascending, Rises}
use Rattle.pcrf_values.specs.Orders.{text_cmp}
use Rattle.pcrf_values.specs.Sets.{In, Same}
use Rattle.pcrf_values.proofs.Plain.{clash, is_false}
use Rattle.pcrf_values.proofs.OrderLaws.{text_ranked}
use Rattle.pcrf_values.proofs.PartLaws.{Keeps, IsRising, flat_map-In}
use Rattle.pcrf_values.proofs.SetLaws.{In-left, In-right, In-cases, Same-itself, Same-back, Same-through, Same-append, Same-turn, map-Same, Apart, maximal-apart}
use Rattle.pcrf_values.proofs.AscendingLaws.{ascending-ascending, same_ascending, filter_map-ascending}
use Rattle.lattice_core.specs.Entries.{IsAscending, AllValues, value_at, put, map_joined}
use Rattle.lattice_core.specs.laws.Maps.{put_all_itself, joined_single}
use Rattle.lattice_core.proofs.MapParts.{option_facts, option_valid, valid_at, map_keeps, map_made}
use Rattle.pcrf_values.specs.Facts.{Fact, fact_cmp, is_shaded_by}
use Rattle.pcrf_values.specs.Held.{kept_set, kept_list, join_of}
use Rattle.pcrf_values.proofs.FactLaws.{fact_ranked}
use Rattle.pcrf_values.proofs.JoinedLaws.{kept-In, In-kept, sorted-In, joined_comm, joined_assoc, held_twice}
use Rattle.pcrf_model.specs.Sessions.{Session, Kind, Gx, Af, gx, af, session_cmp}
use Rattle.pcrf_model.specs.Holdings.{SessionFact, session_fact_cmp, is_shaded_there_by, kept_facts, under, on_session, facts_on, union, kept_of}
use Rattle.pcrf_model.specs.Operations.{Operation, with_operation}
use Rattle.pcrf_model.proofs.HoldingLaws as holding
use Rattle.pcrf_model.proofs.HoldingLaws.{session_ranked, session_fact_ranked, there_irr, there_trans, there_strict, kept_facts-append, kept_facts-Same, same_session, shaded_there, shades_there, facts_on-In, In-facts_on, In-under, under-In}
use Rattle.site_join.specs.States.{Records, facts_under, facts_of, held_by, record_facts, session_of, facts_in, gx_with, af_with}
use Rattle.site_join.specs.declared.operation.SessionFacts.{SessionFacts}
use Rattle.site_join.specs.declared.operation.SessionFacts.TheVariants as of

-- what holds of the records of a state: they stand in order, and hold what is kept of them
abbrev pub AreKept : Records → Type 0
AreKept es = IsAscending text_cmp es × AllValues (λ facts. kept_list facts ≡ facts) es

-- ---- facts under one session

-- what is kept there
pub under_kept : (s : Session) (xs : List Fact) → Same (under s (kept_set xs)) (kept_facts (under s xs))
under_kept s xs x = (there, back)
  where
    there : In x (under s (kept_set xs)) → In x (kept_facts (under s xs))
    there i =
        let r = under-In s x (kept_set xs) i in
        let k = kept-In x.1 xs r.1 in
        subst (λ (t : Session). In (t, x.1) (kept_facts (under s xs))) (sym r.0)
        (holding.In-kept_facts (s, x.1) (under s xs) (In-under s x.1 xs k.0) (λ y j. is_false (is_shaded_there_by (s, x.1) y) (λ t.
        clash (is_shaded_by x.1 y.1) (shaded_there (s, x.1) y t) (k.1 y.1 (under-In s y xs j).1))))

    back : In x (kept_facts (under s xs)) → In x (under s (kept_set xs))
    back i =
        let m = holding.kept_facts-In x (under s xs) i in
        let r = under-In s x xs m.0 in
        subst (λ (t : Session). In (t, x.1) (under s (kept_set xs))) (sym r.0)
        (In-under s x.1 (kept_set xs) (In-kept x.1 xs r.1 (λ g j. is_false (is_shaded_by x.1 g) (λ t.
        clash (is_shaded_there_by x (s, g)) (subst (λ (u : Session). is_shaded_there_by (u, x.1) (s, g) ≡ true) (sym r.0) (shades_there s x.1 g t)) (m.1 (s, g) (In-under s g xs j))))))

-- a record keeps, under its session
pub under_keeps : (s : Session) → Keeps is_shaded_there_by (λ xs. kept_list xs ≡ xs) join_of (under s)
under_keeps s = record {
  both = λ v w _ _. subst (λ (z : List SessionFact). Same (under s (join_of v w)) (kept_facts z)) (map-append (λ (f : Fact). (s, f)) v w)
      (Same-through (under s (join_of v w)) (under s (kept_set (v ++ w))) (kept_facts (under s (v ++ w)))
      (map-Same (λ (f : Fact). (s, f)) (join_of v w) (kept_set (v ++ w)) (sorted-In (kept_set (v ++ w))))
      (under_kept s (v ++ w)));
  own = λ v h. Same-through (under s v) (under s (kept_set v)) (kept_facts (under s v))
      (map-Same (λ (f : Fact). (s, f)) v (kept_set v) (subst (λ (z : List Fact). Same z (kept_set v)) h (sorted-In (kept_set v))))
      (under_kept s v);
}

-- ---- the records of one kind

-- the Session-Id of a fact's session
abbrev pub its_id : SessionFact → Option (List ℕ)
its_id x = Some x.0.id

-- what overshadows is of the same session
pub id_rises : IsRising is_shaded_there_by its_id
id_rises = record { rise = λ x y k h e. ap (λ (s : Session). Some s.id) (same_session x y h) ∙ e }

module _ (kind : List ℕ → Session) (named : (id : List ℕ) → (kind id).id ≡ id) where
  -- a fact under a session is of its Session-Id
  pub keyed : (id : List ℕ) (v : List Fact) (x : SessionFact) → In x (under (kind id) v) → its_id x ≡ Some id
  keyed id v x i = ap (λ (s : Session). Some s.id) (under-In (kind id) x v i).0 ∙ ap Some (named id)

  -- joined maps of records keep
  pub kind_keeps : Keeps is_shaded_there_by AreKept (map_joined text_cmp join_of) (facts_under kind)
  kind_keeps = map_keeps there_strict id_rises text_ranked (λ id. under (kind id)) keyed (λ id. under_keeps (kind id))

  -- the facts at a Session-Id are those of its record
  at_id : (es : Records) → IsAscending text_cmp es → (id : List ℕ) (f : Fact) → In (kind id, f) (facts_under kind es) → In f (record_facts (value_at text_cmp es id))
  at_id es s id f i =
      let m = map_made there_strict id_rises text_ranked (λ id. under (kind id)) keyed (λ id. under_keeps (kind id)) es s in
      let p = m.into (kind id, f) i in
      let same : p.0 ≡ id = some_id p.0 id (sym (m.keyed p.0 (kind id, f) p.1) ∙ ap Some (named id)) in
      of_option (value_at text_cmp es id) (subst (λ (k : List ℕ). In (kind id, f) (option_facts (under (kind k)) (value_at text_cmp es k))) same p.1)
    where
      some_id : (a b : List ℕ) → Some a ≡ Some b → a ≡ b
      some_id a b h = cc

      of_option : (o : Option (List Fact)) → In (kind id, f) (option_facts (under (kind id)) o) → In f (record_facts o)
      of_option None i = absurd i
      of_option (Some v) i = (under-In (kind id) (kind id, f) v i).1

  -- and those of its record are there
  from_id : (es : Records) → IsAscending text_cmp es → (id : List ℕ) (f : Fact) → In f (record_facts (value_at text_cmp es id)) → In (kind id, f) (facts_under kind es)
  from_id es s id f i =
      let m = map_made there_strict id_rises text_ranked (λ id. under (kind id)) keyed (λ id. under_keeps (kind id)) es s in
      m.back id (kind id, f) (to_option (value_at text_cmp es id) i)
    where
      to_option : (o : Option (List Fact)) → In f (record_facts o) → In (kind id, f) (option_facts (under (kind id)) o)
      to_option None i = absurd i
      to_option (Some v) i = In-under (kind id) f v i

-- ---- the records of both kinds

-- Gx sessions are named by their Session-Ids
pub gx_named : (id : List ℕ) → (gx id).id ≡ id
gx_named id = refl

-- and AF sessions
pub af_named : (id : List ℕ) → (af id).id ≡ id
af_named id = refl

-- the kind of a session of that kind
pub of_kind : (kind : List ℕ → Session) (k : Kind) → ((id : List ℕ) → (kind id).kind ≡ k) → (es : Records) (x : SessionFact) → In x (facts_under kind es) → x.0.kind ≡ k
of_kind kind k is es x i =
    let r = flat_map-In (λ (e : List ℕ × List Fact). under (kind e.0) e.1) x es i in
    ap (λ (s : Session). s.kind) (under-In (kind r.0.0) x r.0.1 r.2).0 ∙ is r.0.0

-- the kinds differ
pub kinds_differ : {P : Type 0} (k : Kind) → k ≡ Gx → k ≡ Af → P
kinds_differ Gx a b = absurd (cc)
kinds_differ Af a b = absurd (cc)

-- facts of Gx sessions and of AF sessions have nothing to do with each other
kinds_apart : (gxs afs : List SessionFact) → ((x : SessionFact) → In x gxs → x.0.kind ≡ Gx) → ((x : SessionFact) → In x afs → x.0.kind ≡ Af) → Apart is_shaded_there_by gxs afs
kinds_apart gxs afs a b = record {
  forth = λ x y i j. is_false (is_shaded_there_by x y) (λ h. kinds_differ x.0.kind (a x i) (ap (λ (s : Session). s.kind) (same_session x y h) ∙ b y j));
  back = λ x y i j. is_false (is_shaded_there_by y x) (λ h. kinds_differ x.0.kind (a x i) (sym (ap (λ (s : Session). s.kind) (same_session y x h)) ∙ b y j));
}

-- what is kept of both kinds is kept of each
both_kinds : (gxs afs : List SessionFact) → ((x : SessionFact) → In x gxs → x.0.kind ≡ Gx) → ((x : SessionFact) → In x afs → x.0.kind ≡ Af) → Same (kept_facts gxs ++ kept_facts afs) (kept_facts (gxs ++ afs))
both_kinds gxs afs a b = Same-back (kept_facts (gxs ++ afs)) (kept_facts gxs ++ kept_facts afs) (maximal-apart is_shaded_there_by there_irr there_trans gxs afs (kinds_apart gxs afs a b))

-- two by two
four : {A : Type 0} (a b c d : List A) → Same ((a ++ c) ++ (b ++ d)) ((a ++ b) ++ (c ++ d))
four a b c d x = (
  λ i. elim (In-cases x (a ++ c) (b ++ d) i) [
    | inl j ↦ elim (In-cases x a c j) [ inl k ↦ In-left x (a ++ b) (c ++ d) (In-left x a b k) | inr k ↦ In-right x (a ++ b) (c ++ d) (In-left x c d k) ]
    | inr j ↦ elim (In-cases x b d j) [ inl k ↦ In-left x (a ++ b) (c ++ d) (In-right x a b k) | inr k ↦ In-right x (a ++ b) (c ++ d) (In-right x c d k) ]
  ],
  λ i. elim (In-cases x (a ++ b) (c ++ d) i) [
    | inl j ↦ elim (In-cases x a b j) [ inl k ↦ In-left x (a ++ c) (b ++ d) (In-left x a c k) | inr k ↦ In-right x (a ++ c) (b ++ d) (In-left x b d k) ]
    | inr j ↦ elim (In-cases x c d j) [ inl k ↦ In-left x (a ++ c) (b ++ d) (In-right x a c k) | inr k ↦ In-right x (a ++ c) (b ++ d) (In-right x b d k) ]
  ],
)

-- Joined maps of records have what is kept of the facts of both states.
pub states_join : (gxs afs hxs bfs : Records) → AreKept gxs → AreKept afs → AreKept hxs → AreKept bfs
    → Same (facts_of (map_joined text_cmp join_of gxs hxs) (map_joined text_cmp join_of afs bfs)) (kept_facts (facts_of gxs afs ++ facts_of hxs bfs))
states_join gxs afs hxs bfs a b c d =
    let g : List SessionFact = facts_under gx gxs ++ facts_under gx hxs in
    let f : List SessionFact = facts_under af afs ++ facts_under af bfs in
    let of_gx : (x : SessionFact) → In x g → x.0.kind ≡ Gx = λ x i. elim (In-cases x (facts_under gx gxs) (facts_under gx hxs) i) [ inl j ↦ of_kind gx Gx (λ _. refl) gxs x j | inr j ↦ of_kind gx Gx (λ _. refl) hxs x j ] in
    let of_af : (x : SessionFact) → In x f → x.0.kind ≡ Af = λ x i. elim (In-cases x (facts_under af afs) (facts_under af bfs) i) [ inl j ↦ of_kind af Af (λ _. refl) afs x j | inr j ↦ of_kind af Af (λ _. refl) bfs x j ] in
    let joined_facts : List SessionFact = facts_of (map_joined text_cmp join_of gxs hxs) (map_joined text_cmp join_of afs bfs) in
    Same-through joined_facts (kept_facts g ++ kept_facts f) (kept_facts (facts_of gxs afs ++ facts_of hxs bfs))
    (Same-append (facts_under gx (map_joined text_cmp join_of gxs hxs)) (facts_under af (map_joined text_cmp join_of afs bfs)) (kept_facts g) (kept_facts f)
    ((kind_keeps gx gx_named).both gxs hxs a c) ((kind_keeps af af_named).both afs bfs b d))
    (Same-through (kept_facts g ++ kept_facts f) (kept_facts (g ++ f)) (kept_facts (facts_of gxs afs ++ facts_of hxs bfs))
    (both_kinds g f of_gx of_af)
    (kept_facts-Same (g ++ f) (facts_of gxs afs ++ facts_of hxs bfs) (four (facts_under gx gxs) (facts_under af afs) (facts_under gx hxs) (facts_under af bfs))))

-- A state keeps its own facts.
pub state_kept : (gxs afs : Records) → AreKept gxs → AreKept afs → Same (facts_of gxs afs) (kept_facts (facts_of gxs afs))
state_kept gxs afs a b =
    let g : List SessionFact = facts_under gx gxs in
    let f : List SessionFact = facts_under af afs in
    Same-through (g ++ f) (kept_facts g ++ kept_facts f) (kept_facts (g ++ f))
    (Same-append g f (kept_facts g) (kept_facts f) ((kind_keeps gx gx_named).own gxs a) ((kind_keeps af af_named).own afs b))
    (both_kinds g f (of_kind gx Gx (λ _. refl) gxs) (of_kind af Af (λ _. refl) afs))

-- ---- one operation taken

-- a map joined with none
joined_none : (es : Records) → IsAscending text_cmp es → map_joined text_cmp join_of es [] ≡ es
joined_none es s = put_all_itself text_cmp join_of nat_list_cmp_total text_same joined_comm joined_assoc es s

-- facts in order, with more, of which what is kept is known
kept_with : (xs us vs : List SessionFact) → Same us (kept_facts vs) → Same (kept_facts (xs ++ us)) (kept_facts (ascending session_fact_cmp (ascending session_fact_cmp xs ++ vs)))
kept_with xs us vs s =
    let there : List SessionFact = ascending session_fact_cmp (ascending session_fact_cmp xs ++ vs) in
    Same-through (kept_facts (xs ++ us)) (kept_facts (kept_facts vs ++ xs)) (kept_facts there)
    (kept_facts-Same (xs ++ us) (kept_facts vs ++ xs) (Same-through (xs ++ us) (xs ++ kept_facts vs) (kept_facts vs ++ xs) (Same-append xs us xs (kept_facts vs) (Same-itself xs) s) (Same-turn xs (kept_facts vs))))
    (Same-through (kept_facts (kept_facts vs ++ xs)) (kept_facts (vs ++ xs)) (kept_facts there)
    (kept_facts-append vs xs)
    (kept_facts-Same (vs ++ xs) there (Same-through (vs ++ xs) (xs ++ vs) there (Same-turn vs xs)
    (Same-back there (xs ++ vs) (Same-through there (ascending session_fact_cmp xs ++ vs) (xs ++ vs)
    (holding.sorted-In (ascending session_fact_cmp xs ++ vs))
    (Same-append (ascending session_fact_cmp xs) vs xs vs (holding.sorted-In xs) (Same-itself vs)))))))

-- the facts of one session, as a record has them
one_record : (s : Session) (facts : List Fact) → Same (under s (kept_list facts)) (kept_facts (under s facts))
one_record s facts = Same-through (under s (kept_list facts)) (under s (kept_set facts)) (kept_facts (under s facts)) (map-Same (λ (f : Fact). (s, f)) (kept_list facts) (kept_set facts) (sorted-In (kept_set facts))) (under_kept s facts)

-- Records with those of one more are what is kept with these facts.
more_records : (gxs afs hxs bfs : Records) (clock : ℕ) (facts : List SessionFact) → AreKept gxs → AreKept afs → AreKept hxs → AreKept bfs
    → Same (facts_of hxs bfs) (kept_facts facts)
    → ascending session_fact_cmp (facts_of (map_joined text_cmp join_of gxs hxs) (map_joined text_cmp join_of afs bfs)) ≡ ascending session_fact_cmp (kept_facts (ascending session_fact_cmp ((held_by gxs afs clock).facts ++ facts)))
more_records gxs afs hxs bfs clock facts a b c d s =
    let both : List SessionFact = facts_of (map_joined text_cmp join_of gxs hxs) (map_joined text_cmp join_of afs bfs) in
    let all : List SessionFact = kept_facts (ascending session_fact_cmp ((held_by gxs afs clock).facts ++ facts)) in
    holding.sorted-Same both all
    (Same-through both (kept_facts (facts_of gxs afs ++ facts_of hxs bfs)) all (states_join gxs afs hxs bfs a b c d)
    (kept_with (facts_of gxs afs) (facts_of hxs bfs) facts s))

-- the record of one operation
one_kept_record : (id : List ℕ) (facts : List Fact) → AreKept ((id, kept_list facts) ∷ [])
one_kept_record id facts = ((tt, tt), (held_twice facts, tt))

-- no record
no_records : AreKept []
no_records = (tt, tt)

-- A Gx operation is taken by joining its facts into the record of its session.
pub takes_gx : (gxs afs : Records) (clock : ℕ) (o : Operation) (id : List ℕ) → o.session ≡ gx id → AreKept gxs → AreKept afs
    → held_by (put text_cmp join_of gxs id (kept_list o.facts)) afs (max clock o.counter) ≡ kept_of (with_operation (held_by gxs afs clock) o)
takes_gx gxs afs clock o id is a b =
    let one : Records = (id, kept_list o.facts) ∷ [] in
    let facts : Same (facts_of one []) (kept_facts (under o.session o.facts)) =
    subst (λ (s : Session). Same (facts_of one []) (kept_facts (under s o.facts))) (sym is)
    (subst (λ (l : List SessionFact). Same l (kept_facts (under (gx id) o.facts))) (sym (append-nil (under (gx id) (kept_list o.facts) ++ []) ∙ append-nil (under (gx id) (kept_list o.facts)))) (one_record (gx id) o.facts)) in
    let all = more_records gxs afs one [] clock (under o.session o.facts) a b (one_kept_record id o.facts) no_records facts in
    let gx_put : put text_cmp join_of gxs id (kept_list o.facts) ≡ map_joined text_cmp join_of gxs one = sym (joined_single text_cmp join_of nat_list_cmp_total text_same joined_comm joined_assoc gxs id (kept_list o.facts) a.0) in
    let same : ascending session_fact_cmp (facts_of (put text_cmp join_of gxs id (kept_list o.facts)) afs) ≡ ascending session_fact_cmp (facts_of (map_joined text_cmp join_of gxs one) (map_joined text_cmp join_of afs [])) =
    (let none = sym (joined_none afs b.0) in λ i. ascending session_fact_cmp (facts_of (gx_put i) (none i))) in
    λ i. record { facts = (same ∙ all) i; clock = max clock o.counter }

-- And an AF operation.
pub takes_af : (gxs afs : Records) (clock : ℕ) (o : Operation) (id : List ℕ) → o.session ≡ af id → AreKept gxs → AreKept afs
    → held_by gxs (put text_cmp join_of afs id (kept_list o.facts)) (max clock o.counter) ≡ kept_of (with_operation (held_by gxs afs clock) o)
takes_af gxs afs clock o id is a b =
    let one : Records = (id, kept_list o.facts) ∷ [] in
    let facts : Same (facts_of [] one) (kept_facts (under o.session o.facts)) =
    subst (λ (s : Session). Same (facts_of [] one) (kept_facts (under s o.facts))) (sym is)
    (subst (λ (l : List SessionFact). Same l (kept_facts (under (af id) o.facts))) (sym (append-nil (under (af id) (kept_list o.facts)))) (one_record (af id) o.facts)) in
    let all = more_records gxs afs [] one clock (under o.session o.facts) a b no_records (one_kept_record id o.facts) facts in
    let af_put : put text_cmp join_of afs id (kept_list o.facts) ≡ map_joined text_cmp join_of afs one = sym (joined_single text_cmp join_of nat_list_cmp_total text_same joined_comm joined_assoc afs id (kept_list o.facts) b.0) in
    let same : ascending session_fact_cmp (facts_of gxs (put text_cmp join_of afs id (kept_list o.facts))) ≡ ascending session_fact_cmp (facts_of (map_joined text_cmp join_of gxs []) (map_joined text_cmp join_of afs one)) =
    (let none = sym (joined_none gxs a.0) in λ i. ascending session_fact_cmp (facts_of (none i) (af_put i))) in
    λ i. record { facts = (same ∙ all) i; clock = max clock o.counter }

-- An operation is taken by joining its facts into the record of its session.
pub takes : (gxs afs : Records) (clock : ℕ) (on : SessionFacts) (o : Operation) → session_of on ≡ o.session → facts_in on ≡ o.facts → AreKept gxs → AreKept afs
    → held_by (gx_with gxs on) (af_with afs on) (max clock o.counter) ≡ kept_of (with_operation (held_by gxs afs clock) o)
takes gxs afs clock (of.Gx id facts) o s f a b =
    ap (λ (fs : List Fact). held_by (put text_cmp join_of gxs id (kept_list fs)) afs (max clock o.counter)) f
    ∙ takes_gx gxs afs clock o id (sym s) a b
takes gxs afs clock (of.Af id facts) o s f a b =
    ap (λ (fs : List Fact). held_by gxs (put text_cmp join_of afs id (kept_list fs)) (max clock o.counter)) f
    ∙ takes_af gxs afs clock o id (sym s) a b

-- ---- what is read of one session

-- the order of one session's facts is that of their own
on_one : (s : Session) (x y : SessionFact) (u w : Fact) → session_fact_cmp x y ≡ Less → on_session s x ≡ Some u → on_session s y ≡ Some w → fact_cmp u w ≡ Less
on_one s x y u w l p q =
    let a = holding.on_session-is s x u p in
    let b = holding.on_session-is s y w q in
    ap (λ r. ordering_then r (fact_cmp u w)) (sym (tied_itself session_ranked.total s)) ∙ (λ i. ordering_then (session_cmp (sym a.0 i) (sym b.0 i)) (fact_cmp (sym a.1 i) (sym b.1 i))) ∙ l

-- the facts of a record rise
record_rises : (o : Option (List Fact)) → option_valid (λ facts. kept_list facts ≡ facts) o → Rises fact_cmp (record_facts o)
record_rises None h = tt
record_rises (Some facts) h = subst (Rises fact_cmp) h (ascending-ascending fact_cmp fact_ranked (kept_set facts))

-- The facts that a state holds of a Gx session are those of its record.
pub reads_gx : (gxs afs : Records) (clock : ℕ) (id : List ℕ) → AreKept gxs → record_facts (value_at text_cmp gxs id) ≡ facts_on (held_by gxs afs clock).facts (gx id)
reads_gx gxs afs clock id a =
    let all : List SessionFact = facts_of gxs afs in
    same_ascending fact_cmp fact_ranked (record_facts (value_at text_cmp gxs id)) (facts_on (ascending session_fact_cmp all) (gx id))
    (record_rises (value_at text_cmp gxs id) (valid_at text_ranked (λ facts. kept_list facts ≡ facts) id gxs a.1))
    (filter_map-ascending session_fact_cmp fact_cmp (on_session (gx id)) (ascending session_fact_cmp all) (λ x y u w i j l p q. on_one (gx id) x y u w l p q) (ascending-ascending session_fact_cmp session_fact_ranked all))
    (λ f. (
      λ i. In-facts_on (ascending session_fact_cmp all) (gx id) f ((holding.sorted-In all (gx id, f)).1 (In-left (gx id, f) (facts_under gx gxs) (facts_under af afs) (from_id gx gx_named gxs a.0 id f i))),
      λ i. of_part f (In-cases (gx id, f) (facts_under gx gxs) (facts_under af afs) ((holding.sorted-In all (gx id, f)).0 (facts_on-In (ascending session_fact_cmp all) (gx id) f i))),
    ))
  where
    of_part : (f : Fact) → In (gx id, f) (facts_under gx gxs) ⊎ In (gx id, f) (facts_under af afs) → In f (record_facts (value_at text_cmp gxs id))
    of_part f (inl i) = at_id gx gx_named gxs a.0 id f i
    of_part f (inr i) = kinds_differ Gx refl (of_kind af Af (λ _. refl) afs (gx id, f) i)

-- And of an AF session.
pub reads_af : (gxs afs : Records) (clock : ℕ) (id : List ℕ) → AreKept afs → record_facts (value_at text_cmp afs id) ≡ facts_on (held_by gxs afs clock).facts (af id)
reads_af gxs afs clock id b =
    let all : List SessionFact = facts_of gxs afs in
    same_ascending fact_cmp fact_ranked (record_facts (value_at text_cmp afs id)) (facts_on (ascending session_fact_cmp all) (af id))
    (record_rises (value_at text_cmp afs id) (valid_at text_ranked (λ facts. kept_list facts ≡ facts) id afs b.1))
    (filter_map-ascending session_fact_cmp fact_cmp (on_session (af id)) (ascending session_fact_cmp all) (λ x y u w i j l p q. on_one (af id) x y u w l p q) (ascending-ascending session_fact_cmp session_fact_ranked all))
    (λ f. (
      λ i. In-facts_on (ascending session_fact_cmp all) (af id) f ((holding.sorted-In all (af id, f)).1 (In-right (af id, f) (facts_under gx gxs) (facts_under af afs) (from_id af af_named afs b.0 id f i))),
      λ i. of_part f (In-cases (af id, f) (facts_under gx gxs) (facts_under af afs) ((holding.sorted-In all (af id, f)).0 (facts_on-In (ascending session_fact_cmp all) (af id) f i))),
    ))
  where
    of_part : (f : Fact) → In (af id, f) (facts_under gx gxs) ⊎ In (af id, f) (facts_under af afs) → In f (record_facts (value_at text_cmp afs id))
    of_part f (inl i) = kinds_differ Af (of_kind gx Gx (λ _. refl) gxs (af id, f) i) refl
    of_part f (inr i) = at_id af af_named afs b.0 id f i

-- What a state holds is what is kept of it.
pub holds_kept : (gxs afs : Records) (clock : ℕ) → AreKept gxs → AreKept afs → kept_of (held_by gxs afs clock) ≡ held_by gxs afs clock
holds_kept gxs afs clock a b =
    let all : List SessionFact = facts_of gxs afs in
    let same : ascending session_fact_cmp (kept_facts (ascending session_fact_cmp all)) ≡ ascending session_fact_cmp all =
    holding.sorted-Same (kept_facts (ascending session_fact_cmp all)) all
    (Same-through (kept_facts (ascending session_fact_cmp all)) (kept_facts all) all
    (kept_facts-Same (ascending session_fact_cmp all) all (holding.sorted-In all))
    (Same-back all (kept_facts all) (state_kept gxs afs a b))) in
    λ i. record { facts = same i; clock = clock }

-- Joined records of two states are what is kept of both.
pub merges : (gxs afs hxs bfs : Records) (c d : ℕ) → AreKept gxs → AreKept afs → AreKept hxs → AreKept bfs
    → held_by (map_joined text_cmp join_of gxs hxs) (map_joined text_cmp join_of afs bfs) (max c d) ≡ kept_of (union (held_by gxs afs c) (held_by hxs bfs d))
merges gxs afs hxs bfs c d ours_gx ours_af theirs_gx theirs_af =
    let theirs : List SessionFact = facts_of hxs bfs in
    let kept_theirs : Same theirs (kept_facts (ascending session_fact_cmp theirs)) =
    Same-through theirs (kept_facts theirs) (kept_facts (ascending session_fact_cmp theirs)) (state_kept hxs bfs theirs_gx theirs_af)
    (kept_facts-Same theirs (ascending session_fact_cmp theirs) (Same-back (ascending session_fact_cmp theirs) theirs (holding.sorted-In theirs))) in
    let same = more_records gxs afs hxs bfs c (ascending session_fact_cmp theirs) ours_gx ours_af theirs_gx theirs_af kept_theirs in
    λ i. record { facts = same i; clock = max c d }
