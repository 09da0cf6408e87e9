-- A record put in the place of another replaces the facts of its session.
use Rattle.std.proofs.Common.{◌≡◌, ℕ, Bool, true, false, not, List, ◌++◌, Option, Some, None, Result, Ok, Err, OnErr, if◌then◌else◌, inl, inr, refl, sym, ap, ◌∙◌, subst}
use Rattle.std.specs.Ordering.{is_eq}
use Rattle.std.specs.List.{filter}
use Rattle.pcrf_values.specs.Ascending.{ascending}
use Rattle.pcrf_values.specs.Orders.{text_cmp}
use Rattle.pcrf_values.specs.Sets.{In, Same}
use Rattle.pcrf_values.proofs.Plain.{clash, is_false, not_true}
use Rattle.pcrf_values.proofs.OrderLaws.{text_ranked, eq_is, eq_itself}
use Rattle.pcrf_values.proofs.PartLaws.{IsMadeOf}
use Rattle.pcrf_values.proofs.SetLaws.{In-left, In-right, In-cases, In-filter, filter-In, Same-through, Same-turn}
use Rattle.lattice_core.specs.Entries.{IsAscending, value_at}
use Rattle.lattice_core.specs.Placed.{map_with}
use Rattle.lattice_core.proofs.MapParts.{option_facts, map_made}
use Rattle.lattice_core.proofs.PlacedValues.{value_placed}
use Rattle.pcrf_values.specs.Facts.{Fact}
use Rattle.pcrf_model.specs.Sessions.{Session, Gx, Af, gx, af, session_cmp}
use Rattle.pcrf_model.specs.Holdings.{SessionFact, session_fact_cmp, under, with_facts_of}
use Rattle.pcrf_model.proofs.HoldingLaws as holding
use Rattle.pcrf_model.proofs.HoldingLaws.{session_ranked, there_strict, under-In}
use Rattle.site_join.specs.States.{Records, facts_under, facts_of, held_by, record_facts}
use Rattle.site_join.proofs.StateLaws.{its_id, id_rises, keyed, under_keeps, of_kind, kinds_differ, gx_named, af_named}

-- what holds, holds where there is an error
pub where_refused : {T E P : Type 0} (r : Result T E) → P → OnErr r P
where_refused (Ok x) p = tt
where_refused (Err e) p = p

-- the fact is of another session
abbrev is_elsewhere : Session → SessionFact → Bool
is_elsewhere s x = not (is_eq (session_cmp s x.0))

module _ (kind : List ℕ → Session) (named : (id : List ℕ) → (kind id).id ≡ id) where
  -- the facts that a record has under a Session-Id
  abbrev its_facts : List ℕ → Option (List Fact) → List SessionFact
  its_facts id = option_facts (under (kind id))

  -- are those under the session
  facts_are : (id : List ℕ) (v : Option (List Fact)) → its_facts id v ≡ under (kind id) (record_facts v)
  facts_are id None = refl
  facts_are id (Some facts) = refl

  -- a map of records is made of its records
  made : (es : Records) → IsAscending text_cmp es → IsMadeOf its_id (facts_under kind es) (λ k. its_facts k (value_at text_cmp es k))
  made = map_made there_strict id_rises text_ranked (λ id. under (kind id)) (keyed kind named) (λ id. under_keeps (kind id))

  -- a fact of a record is of its session
  is_there : (id : List ℕ) (v : Option (List Fact)) (x : SessionFact) → In x (its_facts id v) → x.0 ≡ kind id
  is_there id None x i = absurd i
  is_there id (Some facts) x i = (under-In (kind id) x facts i).0

  -- sessions of other Session-Ids are others
  differ : (id k : List ℕ) (x : SessionFact) → is_eq (text_cmp k id) ≡ false → x.0 ≡ kind k → is_elsewhere (kind id) x ≡ true
  differ id k x n e = ap not (is_false (is_eq (session_cmp (kind id) x.0)) (λ t.
      let same : kind k ≡ kind id = sym e ∙ sym (eq_is session_ranked (kind id) x.0 t) in
      let ids : k ≡ id = sym (named k) ∙ ap (λ (s : Session). s.id) same ∙ named id in
      clash (is_eq (text_cmp k id)) (subst (λ (z : List ℕ). is_eq (text_cmp k z) ≡ true) ids (eq_itself text_ranked k)) n))

  -- and the other way round
  same_id : (id k : List ℕ) (x : SessionFact) → is_elsewhere (kind id) x ≡ true → x.0 ≡ kind k → is_eq (text_cmp k id) ≡ false
  same_id id k x n e = is_false (is_eq (text_cmp k id)) (λ t.
      let ids : k ≡ id = eq_is text_ranked k id t in
      let here : is_eq (session_cmp (kind id) x.0) ≡ true = subst (λ (s : Session). is_eq (session_cmp (kind id) s) ≡ true) (sym (e ∙ ap kind ids)) (eq_itself session_ranked (kind id)) in
      clash (is_eq (session_cmp (kind id) x.0)) here (not_true _ n))

  module _ (es : Records) (id : List ℕ) (v : Option (List Fact)) (all os : List SessionFact) (rises : IsAscending text_cmp es) (rises_then : IsAscending text_cmp (map_with text_cmp es id v)) (members : Same all (facts_under kind es ++ os)) (apart : (x : SessionFact) → In x os → is_elsewhere (kind id) x ≡ true) where
    -- the facts that stay
    abbrev others : List SessionFact
    others = filter (is_elsewhere (kind id)) all

    -- one that was there stays
    stays : (x : SessionFact) → In x (facts_under kind es ++ os) → is_elsewhere (kind id) x ≡ true → In x (others ++ under (kind id) (record_facts v))
    stays x i n = In-left x others (under (kind id) (record_facts v)) (In-filter (is_elsewhere (kind id)) x all ((members x).1 i) n)

    -- by whether its record is the one that was put
    by_key : (k : List ℕ) (x : SessionFact) (b : Bool) → is_eq (text_cmp k id) ≡ b → In x (its_facts k (if b then v else value_at text_cmp es k)) → In x (others ++ under (kind id) (record_facts v))
    by_key k x true e i = In-right x others (under (kind id) (record_facts v))
        (subst (In x) (facts_are id v) (subst (λ (z : List ℕ). In x (its_facts z v)) (eq_is text_ranked k id e) i))
    by_key k x false e i = stays x (In-left x (facts_under kind es) os ((made es rises).back k x i)) (differ id k x e (is_there k (value_at text_cmp es k) x i))

    -- a fact after the put
    there : (x : SessionFact) → In x (facts_under kind (map_with text_cmp es id v) ++ os) → In x (others ++ under (kind id) (record_facts v))
    there x i = elim (In-cases x (facts_under kind (map_with text_cmp es id v)) os i) [
      | inl j ↦ let p = (made (map_with text_cmp es id v) rises_then).into x j in
          by_key p.0 x (is_eq (text_cmp p.0 id)) refl (subst (λ (z : Option (List Fact)). In x (its_facts p.0 z)) (value_placed text_cmp text_ranked.total id es v p.0 rises) p.1)
      | inr j ↦ stays x (In-right x (facts_under kind es) os j) (apart x j)
    ]

    -- what stands at a key after the put
    stands : (k : List ℕ) (b : Bool) → is_eq (text_cmp k id) ≡ b → (if b then v else value_at text_cmp es k) ≡ value_at text_cmp (map_with text_cmp es id v) k
    stands k b e = subst (λ (c : Bool). (if c then v else value_at text_cmp es k) ≡ value_at text_cmp (map_with text_cmp es id v) k) e (sym (value_placed text_cmp text_ranked.total id es v k rises))

    -- a fact that stays is in its record
    stayed : (x : SessionFact) → In x (facts_under kind es ++ os) → is_elsewhere (kind id) x ≡ true → In x (facts_under kind (map_with text_cmp es id v) ++ os)
    stayed x i n = elim (In-cases x (facts_under kind es) os i) [
      | inl j ↦ let p = (made es rises).into x j in
          let other : is_eq (text_cmp p.0 id) ≡ false = same_id id p.0 x n (is_there p.0 (value_at text_cmp es p.0) x p.1) in
          In-left x (facts_under kind (map_with text_cmp es id v)) os ((made (map_with text_cmp es id v) rises_then).back p.0 x (subst (λ (z : Option (List Fact)). In x (its_facts p.0 z)) (stands p.0 false other) p.1))
      | inr j ↦ In-right x (facts_under kind (map_with text_cmp es id v)) os j
    ]

    -- a fact that stays or was put is there
    back : (x : SessionFact) → In x (others ++ under (kind id) (record_facts v)) → In x (facts_under kind (map_with text_cmp es id v) ++ os)
    back x i = elim (In-cases x others (under (kind id) (record_facts v)) i) [
      | inl j ↦ let p = filter-In (is_elsewhere (kind id)) x all j in stayed x ((members x).0 p.0) p.1
      | inr j ↦ In-left x (facts_under kind (map_with text_cmp es id v)) os
          ((made (map_with text_cmp es id v) rises_then).back id x (subst (λ (z : Option (List Fact)). In x (its_facts id z)) (stands id true (eq_itself text_ranked id)) (subst (In x) (sym (facts_are id v)) j)))
    ]

    -- so the facts of its session are replaced
    pub replaces : Same (facts_under kind (map_with text_cmp es id v) ++ os) (others ++ under (kind id) (record_facts v))
    replaces x = (there x, back x)

-- facts of AF sessions are of no Gx session
af_apart : (afs : Records) (id : List ℕ) (x : SessionFact) → In x (facts_under af afs) → is_elsewhere (gx id) x ≡ true
af_apart afs id x i = ap not (is_false (is_eq (session_cmp (gx id) x.0)) (λ t.
    kinds_differ x.0.kind (sym (ap (λ (s : Session). s.kind) (eq_is session_ranked (gx id) x.0 t))) (of_kind af Af (λ _. refl) afs x i)))

-- and those of Gx sessions of no AF session
gx_apart : (gxs : Records) (id : List ℕ) (x : SessionFact) → In x (facts_under gx gxs) → is_elsewhere (af id) x ≡ true
gx_apart gxs id x i = ap not (is_false (is_eq (session_cmp (af id) x.0)) (λ t.
    kinds_differ x.0.kind (of_kind gx Gx (λ _. refl) gxs x i) (sym (ap (λ (s : Session). s.kind) (eq_is session_ranked (af id) x.0 t)))))

-- A record put in the place of a Gx session's replaces its facts.
pub puts_gx : (gxs afs : Records) (id : List ℕ) (v : Option (List Fact)) (before clock : ℕ) → IsAscending text_cmp gxs → IsAscending text_cmp (map_with text_cmp gxs id v)
    → held_by (map_with text_cmp gxs id v) afs clock ≡ with_facts_of (held_by gxs afs before) (gx id) (record_facts v) clock
puts_gx gxs afs id v before clock a b =
    let all : List SessionFact = facts_of gxs afs in
    let put_in : List SessionFact = facts_of (map_with text_cmp gxs id v) afs in
    let asked : List SessionFact = filter (is_elsewhere (gx id)) (ascending session_fact_cmp all) ++ under (gx id) (record_facts v) in
    let same : ascending session_fact_cmp put_in ≡ ascending session_fact_cmp asked = holding.sorted-Same put_in asked
    (replaces gx gx_named gxs id v (ascending session_fact_cmp all) (facts_under af afs) a b (holding.sorted-In all) (af_apart afs id)) in
    λ i. record { facts = same i; clock = clock }

-- And in that of an AF session's.
pub puts_af : (gxs afs : Records) (id : List ℕ) (v : Option (List Fact)) (before clock : ℕ) → IsAscending text_cmp afs → IsAscending text_cmp (map_with text_cmp afs id v)
    → held_by gxs (map_with text_cmp afs id v) clock ≡ with_facts_of (held_by gxs afs before) (af id) (record_facts v) clock
puts_af gxs afs id v before clock a b =
    let all : List SessionFact = facts_of gxs afs in
    let turned : List SessionFact = facts_under af afs ++ facts_under gx gxs in
    let put_in : List SessionFact = facts_of gxs (map_with text_cmp afs id v) in
    let asked : List SessionFact = filter (is_elsewhere (af id)) (ascending session_fact_cmp all) ++ under (af id) (record_facts v) in
    let members : Same (ascending session_fact_cmp all) turned = Same-through (ascending session_fact_cmp all) all turned (holding.sorted-In all) (Same-turn (facts_under gx gxs) (facts_under af afs)) in
    let put : Same (facts_under af (map_with text_cmp afs id v) ++ facts_under gx gxs) asked = replaces af af_named afs id v (ascending session_fact_cmp all) (facts_under gx gxs) a b members (gx_apart gxs id) in
    let same : ascending session_fact_cmp put_in ≡ ascending session_fact_cmp asked = holding.sorted-Same put_in asked
    (Same-through put_in (facts_under af (map_with text_cmp afs id v) ++ facts_under gx gxs) asked (Same-turn (facts_under gx gxs) (facts_under af (map_with text_cmp afs id v))) put) in
    λ i. record { facts = same i; clock = clock }
