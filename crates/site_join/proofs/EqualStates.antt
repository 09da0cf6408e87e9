-- Two states hold the same where their records say the same and their clocks are equal.
use Rattle.std.proofs.Common.{◌≡◌, ℕ, Bool, true, false, ◌&&◌, nat_eq, List, [], inl, inr, refl, sym, ap, ◌∙◌, subst}
use Rattle.std.specs.Prelude.{Decides}
use Rattle.std.proofs.lemmas.Bool.Decides.{Decides-like, Decides-and, Decides-at, Decides-eqb}
use Rattle.pcrf_values.specs.Ascending.{ascending}
use Rattle.pcrf_values.specs.Orders.{text_cmp}
use Rattle.pcrf_values.specs.Sets.{In, Same}
use Rattle.pcrf_values.proofs.OrderLaws.{text_ranked}
use Rattle.pcrf_values.proofs.PartLaws.{IsMadeOf}
use Rattle.pcrf_values.proofs.SetLaws.{In-left, In-right, In-cases, Same-append, Same-back, Same-through}
use Rattle.lattice_core.specs.Entries.{IsAscending, value_at}
use Rattle.lattice_core.specs.Subsets.{IsSubset, map_subset}
use Rattle.lattice_core.proofs.MapParts.{option_facts, map_made}
use Rattle.lattice_core.proofs.Subsets.{Tells, by_parts, to_parts, map_tells}
use Rattle.pcrf_values.specs.Facts.{Fact}
use Rattle.pcrf_values.specs.Held.{kept_list}
use Rattle.pcrf_model.specs.Sessions.{Session, Gx, Af, gx, af}
use Rattle.pcrf_model.specs.Holdings.{SessionFact, session_fact_cmp, under, Holding}
use Rattle.pcrf_model.proofs.HoldingLaws.{there_strict, sorted-In, sorted-Same, In-under, under-In}
use Rattle.lattice_core.specs.Sets.{facts_subset, facts_empty}
use Rattle.lattice_core.proofs.SubsetLaws.{facts_tell}
use Rattle.site_join.specs.States.{Records, facts_under, facts_of, held_by}
use Rattle.site_join.proofs.StateLaws.{AreKept, its_id, id_rises, keyed, under_keeps, gx_named, af_named, of_kind, kinds_differ}

-- each record's facts are among those of the other's record of its session
abbrev pub records_subset : Records → Records → Bool
records_subset = map_subset text_cmp facts_subset facts_empty

-- and the other way round
abbrev pub records_same : Records → Records → Bool
records_same es gs = records_subset es gs && records_subset gs es

-- ---- facts under one session
-- they are among others there where they are among them
under_some : (s : Session) (xs ys : List Fact) → IsSubset xs ys → IsSubset (under s xs) (under s ys)
under_some s xs ys h x i =
    let r = under-In s x xs i in
    subst (λ (t : Session). In (t, x.1) (under s ys)) (sym r.0) (In-under s x.1 ys (h x.1 r.1))

-- and only there
some_under : (s : Session) (xs ys : List Fact) → IsSubset (under s xs) (under s ys) → IsSubset xs ys
some_under s xs ys h f i = (under-In s (s, f) ys (h (s, f) (In-under s f xs i))).1

-- so tests of facts tell of them
under_tells : (s : Session) → Tells (λ xs. kept_list xs ≡ xs) facts_subset facts_empty (under s)
under_tells s = record {
  some = λ xs ys v w. Decides-like (facts_subset xs ys) (under_some s xs ys) (some_under s xs ys) ((facts_tell {valid = λ zs. kept_list zs ≡ zs}).some xs ys v w);
  none = λ xs v. Decides-like (facts_empty xs) (under_some s xs []) (some_under s xs []) ((facts_tell {valid = λ zs. kept_list zs ≡ zs}).none xs v);
}

-- ---- the records of one kind
module _ (kind : List ℕ → Session) (named : (id : List ℕ) → (kind id).id ≡ id) where
  -- what is read at a Session-Id
  abbrev at_session : Records → List ℕ → List SessionFact
  at_session es id = option_facts (under (kind id)) (value_at text_cmp es id)

  -- of which the facts are made
  made : (es : Records) → IsAscending text_cmp es → IsMadeOf its_id (facts_under kind es) (at_session es)
  made = map_made there_strict id_rises text_ranked (λ id. under (kind id)) (keyed kind named) (λ id. under_keeps (kind id))

  -- the test of two maps of records tells
  kind_subset : (es gs : Records) → AreKept es → AreKept gs → Decides (records_subset es gs) (IsSubset (facts_under kind es) (facts_under kind gs))
  kind_subset es gs a b = Decides-like (records_subset es gs)
      (by_parts (facts_under kind es) (facts_under kind gs) (at_session es) (at_session gs) (made es a.0) (made gs b.0))
      (to_parts (facts_under kind es) (facts_under kind gs) (at_session es) (at_session gs) (made es a.0) (made gs b.0))
      (map_tells text_ranked (λ id. under (kind id)) (λ id. under_tells (kind id)) es gs a.0 a.1 b.1)

  -- both ways
  pub kind_same : (es gs : Records) → AreKept es → AreKept gs → Decides (records_same es gs) (Same (facts_under kind es) (facts_under kind gs))
  kind_same es gs a b = Decides-like (records_same es gs)
      (λ h x. (h.0 x, h.1 x))
      (λ h. (λ x. (h x).0, λ x. (h x).1))
      (Decides-and (records_subset es gs) (records_subset gs es) (kind_subset es gs a b) (kind_subset gs es b a))

-- ---- the records of both kinds
-- facts of Gx sessions are among those of Gx sessions
gx_within : (gxs afs hxs bfs : Records) → IsSubset (facts_of gxs afs) (facts_of hxs bfs) → IsSubset (facts_under gx gxs) (facts_under gx hxs)
gx_within gxs afs hxs bfs h x i = elim (In-cases x (facts_under gx hxs) (facts_under af bfs) (h x (In-left x (facts_under gx gxs) (facts_under af afs) i))) [
  | inl j ↦ j
  | inr j ↦ kinds_differ x.0.kind (of_kind gx Gx (λ _. refl) gxs x i) (of_kind af Af (λ _. refl) bfs x j)
]

-- and those of AF sessions among those of AF sessions
af_within : (gxs afs hxs bfs : Records) → IsSubset (facts_of gxs afs) (facts_of hxs bfs) → IsSubset (facts_under af afs) (facts_under af bfs)
af_within gxs afs hxs bfs h x i = elim (In-cases x (facts_under gx hxs) (facts_under af bfs) (h x (In-right x (facts_under gx gxs) (facts_under af afs) i))) [
  | inl j ↦ kinds_differ x.0.kind (of_kind gx Gx (λ _. refl) hxs x j) (of_kind af Af (λ _. refl) afs x i)
  | inr j ↦ j
]

-- the tests of both kinds tell of all facts
all_same : (gxs afs hxs bfs : Records) → AreKept gxs → AreKept afs → AreKept hxs → AreKept bfs
    → Decides (records_same gxs hxs && records_same afs bfs) (Same (facts_of gxs afs) (facts_of hxs bfs))
all_same gxs afs hxs bfs a b c d = Decides-like (records_same gxs hxs && records_same afs bfs)
    (λ h. Same-append (facts_under gx gxs) (facts_under af afs) (facts_under gx hxs) (facts_under af bfs) h.0 h.1)
    (λ h. (
      λ x. (gx_within gxs afs hxs bfs (λ y. (h y).0) x, gx_within hxs bfs gxs afs (λ y. (h y).1) x),
      λ x. (af_within gxs afs hxs bfs (λ y. (h y).0) x, af_within hxs bfs gxs afs (λ y. (h y).1) x),
    ))
    (Decides-and (records_same gxs hxs) (records_same afs bfs) (kind_same gx gx_named gxs hxs a c) (kind_same af af_named afs bfs b d))

-- equal holdings have the same facts
same_facts : (gxs afs hxs bfs : Records) (c d : ℕ) → held_by gxs afs c ≡ held_by hxs bfs d → Same (facts_of gxs afs) (facts_of hxs bfs)
same_facts gxs afs hxs bfs c d e =
    let ours : List SessionFact = facts_of gxs afs in
    let theirs : List SessionFact = facts_of hxs bfs in
    Same-through ours (ascending session_fact_cmp ours) theirs (Same-back (ascending session_fact_cmp ours) ours (sorted-In ours))
    (subst (λ (l : List SessionFact). Same l theirs) (sym (ap (λ (h : Holding). h.facts) e)) (sorted-In theirs))

-- States are equal where their clocks are and the tests of both kinds hold.
equal_is : (gxs afs hxs bfs : Records) (c d : ℕ) (clocks : Bool) → AreKept gxs → AreKept afs → AreKept hxs → AreKept bfs → Decides clocks (c ≡ d)
    → Decides (clocks && (records_same gxs hxs && records_same afs bfs)) (held_by gxs afs c ≡ held_by hxs bfs d)
equal_is gxs afs hxs bfs c d clocks ours_gx ours_af theirs_gx theirs_af at = Decides-like (clocks && (records_same gxs hxs && records_same afs bfs))
    (λ h. let facts = sorted-Same (facts_of gxs afs) (facts_of hxs bfs) h.1 in λ i. record { facts = facts i; clock = h.0 i })
    (λ e. (ap (λ (h : Holding). h.clock) e, same_facts gxs afs hxs bfs c d e))
    (Decides-and clocks (records_same gxs hxs && records_same afs bfs) at (all_same gxs afs hxs bfs ours_gx ours_af theirs_gx theirs_af))

-- ---- the test
-- where the first two tests hold, the third decides
pub passed : (t g a r : Bool) → t ≡ true → g ≡ true → r ≡ a → r ≡ (t && (g && a))
passed t g a r p q e = e ∙ (λ i. sym p i && (sym q i && a))

-- where the second fails
pub failed_second : (t g a r : Bool) → t ≡ true → g ≡ false → r ≡ false → r ≡ (t && (g && a))
failed_second t g a r p q e = e ∙ (λ i. sym p i && (sym q i && a))

-- where the first fails
pub failed_first : (t g a r : Bool) → t ≡ false → r ≡ false → r ≡ (t && (g && a))
failed_first t g a r p e = e ∙ (λ i. sym p i && (g && a))

-- So a test that is the three tests together decides whether two holdings are equal.
pub decides : (gxs afs hxs bfs : Records) (c d : ℕ) (h k : Holding) → held_by gxs afs c ≡ h → held_by hxs bfs d ≡ k → AreKept gxs → AreKept afs → AreKept hxs → AreKept bfs
    → (r : Bool) → r ≡ (nat_eq c d && (records_same gxs hxs && records_same afs bfs)) → Decides r (h ≡ k)
decides gxs afs hxs bfs c d h k ours theirs ours_gx ours_af theirs_gx theirs_af r is =
    Decides-at r (nat_eq c d && (records_same gxs hxs && records_same afs bfs)) is
    (Decides-like (nat_eq c d && (records_same gxs hxs && records_same afs bfs)) (λ e. sym ours ∙ e ∙ theirs) (λ e. ours ∙ e ∙ sym theirs)
    (equal_is gxs afs hxs bfs c d (nat_eq c d) ours_gx ours_af theirs_gx theirs_af (Decides-eqb c d)))
