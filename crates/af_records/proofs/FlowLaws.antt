-- The flows of which kept facts are fields stand in order.
use Rattle.std.proofs.Common.{◌≡◌, ℕ, Bool, true, false, cond, List, [], ◌∷◌, map, ◌⊎◌, Option, Some, None, inl, inr, refl, sym, ap, ◌∙◌, subst, Ordering, Less, Equal, Greater}
use Rattle.std.specs.FinMap.Entries.{by_order}
use Rattle.std.specs.List.{filter_map}
use Rattle.std.specs.Option.{option_cmp}
use Rattle.std.specs.Ordering.{is_eq, is_gt, is_lt, nat_cmp, ordering_then}
use Rattle.pcrf_values.specs.Ascending.{ascending, place, IsBelowAll, Rises}
use Rattle.pcrf_values.specs.Orders.{pair_cmp, text_cmp}
use Rattle.pcrf_values.specs.Sets.{In, Same}
use Rattle.pcrf_values.specs.declared.tag.Tag.{Tag}
use Rattle.pcrf_values.proofs.AscendingLaws.{ascending-Same, ascending-In}
use Rattle.pcrf_values.proofs.OrderLaws.{IsRanked, nat_ranked, pair_ranked, eq_is}
use Rattle.pcrf_values.proofs.Plain.{clash, none_some, some_same}
use Rattle.pcrf_values.proofs.SetLaws.{filter_map-In, In-map}
use Rattle.pcrf_values.specs.FlowWords.{flow_of, flows}
use Rattle.pcrf_values.specs.Places.{Position, position_cmp}
use Rattle.pcrf_values.specs.Values.{entry_cmp}
use Rattle.pcrf_values.specs.Facts.{Fact, position, entry, fact_cmp}
use Rattle.pcrf_values.specs.Held.{kept_list}
use Rattle.lattice_core.proofs.KeepLaws.{kept_rises}
use Rattle.lattice_core.specs.declared.fact.SessionValue.TheVariants as session
use Rattle.af_records.specs.declared.fact.ComponentValue.TheVariants as component
use Rattle.af_records.specs.declared.fact.FlowValue.{FlowValue}
use Rattle.af_records.specs.declared.fact.FlowValue.TheVariants as flow
use Rattle.af_records.specs.declared.fact.AfFact.{AfFact}
use Rattle.af_records.specs.declared.fact.AfFact.TheVariants.{End, ComponentRemoved, FlowRemoved, Aborted, Session, Component, Flow}
use Rattle.af_records.specs.FieldValues.{flow_number}
use Rattle.af_records.specs.FlowLists.{numbers_cmp, flow_said, is_last, flows_after}
use Rattle.af_records.specs.RecordFacts.{fact_of}
use Rattle.af_records.proofs.TypedLaws.{flow_at}

-- ---- numbers that climb, each once

-- the order is ranked
numbers_ranked : IsRanked numbers_cmp
numbers_ranked = pair_ranked nat_ranked nat_ranked

-- none of these is below it
abbrev NotAbove : ℕ × ℕ → List (ℕ × ℕ) → Type 0
NotAbove q qs = (s : ℕ × ℕ) → In s qs → is_gt (numbers_cmp q s) ≡ false

-- none is below one before it
abbrev Climbs : List (ℕ × ℕ) → Type 0
Climbs [] = Unit {0}
Climbs (q ∷ qs) = NotAbove q qs × Climbs qs

-- neither above nor at
less_of : (o : Ordering) → is_gt o ≡ false → is_eq o ≡ false → o ≡ Less
less_of Less g e = refl
less_of Equal g e = clash true refl e
less_of Greater g e = clash true refl g

-- what is below all goes first
place_first : (q : ℕ × ℕ) (qs : List (ℕ × ℕ)) → IsBelowAll numbers_cmp q qs → place numbers_cmp q qs ≡ q ∷ qs
place_first q [] b = refl
place_first q (y ∷ ys) b = ap (λ (o : Ordering). by_order o (q ∷ y ∷ ys) (y ∷ ys) (y ∷ place numbers_cmp q ys)) (b y (inl refl))

-- below one, and so below what that isn't above
below_through : (q r s : ℕ × ℕ) → numbers_cmp q r ≡ Less → is_gt (numbers_cmp r s) ≡ false → numbers_cmp q s ≡ Less
below_through q r s l g = by (numbers_cmp r s) refl
  where
    by : (o : Ordering) → numbers_cmp r s ≡ o → numbers_cmp q s ≡ Less
    by Less h = numbers_ranked.total.trans q r s l h
    by Equal h = subst (λ (z : ℕ × ℕ). numbers_cmp q z ≡ Less) (numbers_ranked.same r s h) l
    by Greater h = clash (is_gt (numbers_cmp r s)) (ap is_gt h) g

-- one that comes twice
same_twice : (q r : ℕ × ℕ) (rs : List (ℕ × ℕ)) → q ≡ r → Same (q ∷ rs) (q ∷ r ∷ rs)
same_twice q r rs e x = (λ i. forth i, λ i. back i)
  where
    forth : In x (q ∷ rs) → In x (q ∷ r ∷ rs)
    forth (inl h) = inl h
    forth (inr i) = inr (inr i)

    back : In x (q ∷ r ∷ rs) → In x (q ∷ rs)
    back (inl h) = inl h
    back (inr (inl h)) = inl (h ∙ sym e)
    back (inr (inr i)) = inr i

-- each once is the ascending list
after_is : (q : ℕ × ℕ) (qs : List (ℕ × ℕ)) → NotAbove q qs → Climbs qs → q ∷ flows_after (Some q) qs ≡ ascending numbers_cmp (q ∷ qs)
after_is q [] b c = refl
after_is q (r ∷ rs) b c = by (after_is q rs (λ s i. b s (inr i)) c.1) (after_is r rs c.0 c.1) (is_eq (numbers_cmp q r)) refl
  where
    below : is_eq (numbers_cmp q r) ≡ false → (s : ℕ × ℕ) → In s (r ∷ rs) → numbers_cmp q s ≡ Less
    below n s (inl h) = subst (λ (z : ℕ × ℕ). numbers_cmp q z ≡ Less) (sym h) (less_of (numbers_cmp q r) (b r (inl refl)) n)
    below n s (inr i) = below_through q r s (less_of (numbers_cmp q r) (b r (inl refl)) n) (c.0 s i)

    by : q ∷ flows_after (Some q) rs ≡ ascending numbers_cmp (q ∷ rs) → r ∷ flows_after (Some r) rs ≡ ascending numbers_cmp (r ∷ rs)
        → (o : Bool) → is_eq (numbers_cmp q r) ≡ o → q ∷ cond o (flows_after (Some q) rs) (r ∷ flows_after (Some r) rs) ≡ ascending numbers_cmp (q ∷ r ∷ rs)
    by same next true e =
        same
        ∙ ascending-Same numbers_cmp numbers_ranked (q ∷ rs) (q ∷ r ∷ rs) (same_twice q r rs (eq_is numbers_ranked q r e))
    by same next false e =
        ap (λ (l : List (ℕ × ℕ)). q ∷ l) next
        ∙ sym (place_first q (ascending numbers_cmp (r ∷ rs)) (λ s i. below e s ((ascending-In numbers_cmp numbers_ranked (r ∷ rs) s).0 i)))

-- with none before
each_once : (qs : List (ℕ × ℕ)) → Climbs qs → flows_after None qs ≡ ascending numbers_cmp qs
each_once [] c = refl
each_once (q ∷ qs) c = after_is q qs c.0 c.1

-- ---- the flows of facts

-- fact by fact
same_flows : (xs : List AfFact) → filter_map flow_said xs ≡ filter_map flow_of (map fact_of xs)
same_flows [] = refl
same_flows (End ∷ xs) = same_flows xs
same_flows (Aborted ∷ xs) = same_flows xs
same_flows (ComponentRemoved c ∷ xs) = same_flows xs
same_flows (FlowRemoved c n ∷ xs) = same_flows xs
same_flows (Session t (session.Address x) ∷ xs) = same_flows xs
same_flows (Session t (session.Apn x) ∷ xs) = same_flows xs
same_flows (Session t (session.Subscribers x) ∷ xs) = same_flows xs
same_flows (Session t (session.Host x) ∷ xs) = same_flows xs
same_flows (Session t (session.Realm x) ∷ xs) = same_flows xs
same_flows (Session t (session.Last x) ∷ xs) = same_flows xs
same_flows (Session t (session.Prefix x) ∷ xs) = same_flows xs
same_flows (Component c t (component.MediaType x) ∷ xs) = same_flows xs
same_flows (Component c t (component.Status x) ∷ xs) = same_flows xs
same_flows (Component c t (component.RateUp x) ∷ xs) = same_flows xs
same_flows (Component c t (component.RateDown x) ∷ xs) = same_flows xs
same_flows (Flow c n t (flow.Descriptions x) ∷ xs) = ap (λ (l : List (ℕ × ℕ)). (c, n) ∷ l) (same_flows xs)
same_flows (Flow c n t (flow.Usage x) ∷ xs) = ap (λ (l : List (ℕ × ℕ)). (c, n) ∷ l) (same_flows xs)
same_flows (Flow c n t (flow.Status x) ∷ xs) = ap (λ (l : List (ℕ × ℕ)). (c, n) ∷ l) (same_flows xs)
same_flows (Flow c n t (flow.RateUp x) ∷ xs) = ap (λ (l : List (ℕ × ℕ)). (c, n) ∷ l) (same_flows xs)
same_flows (Flow c n t (flow.RateDown x) ∷ xs) = ap (λ (l : List (ℕ × ℕ)). (c, n) ∷ l) (same_flows xs)

-- the first parts of what is below aren't above
then_less : (o p r s : Ordering) → ordering_then (ordering_then o (ordering_then p r)) s ≡ Less → is_gt (ordering_then o p) ≡ false
then_less Less p r s h = refl
then_less Equal Less r s h = refl
then_less Equal Equal r s h = refl
then_less Equal Greater r s h = clash false (ap is_lt h) refl
then_less Greater p r s h = clash false (ap is_lt h) refl

-- a fact of a flow below another
flow_below : (c n d m : ℕ) (t u : Tag) (x w : FlowValue) → fact_cmp (fact_of (Flow c n t x)) (fact_of (Flow d m u w)) ≡ Less → is_gt (numbers_cmp (c, n) (d, m)) ≡ false
flow_below c n d m t u x w l = then_less (nat_cmp c d) (nat_cmp n m) (pair_cmp nat_cmp text_cmp (flow_number x, []) (flow_number w, [])) said
    (sym (ap (λ (p : Position). ordering_then (position_cmp p (position (fact_of (Flow d m u w)))) said) (flow_at c n t x)
    ∙ ap (λ (p : Position). ordering_then (position_cmp (6, (c, (n, (flow_number x, [])))) p) said) (flow_at d m u w)) ∙ l)
  where
    said : Ordering
    said = option_cmp entry_cmp (entry (fact_of (Flow c n t x))) (entry (fact_of (Flow d m u w)))

-- below another, of any kind
above : (c n : ℕ) (t : Tag) (x : FlowValue) (y : AfFact) (q : ℕ × ℕ) → flow_said y ≡ Some q → fact_cmp (fact_of (Flow c n t x)) (fact_of y) ≡ Less → is_gt (numbers_cmp (c, n) q) ≡ false
above c n t x End q h l = none_some q h
above c n t x Aborted q h l = none_some q h
above c n t x (ComponentRemoved d) q h l = none_some q h
above c n t x (FlowRemoved d m) q h l = none_some q h
above c n t x (Session u w) q h l = none_some q h
above c n t x (Component d u w) q h l = none_some q h
above c n t x (Flow d m u w) q h l = subst (λ (z : ℕ × ℕ). is_gt (numbers_cmp (c, n) z) ≡ false) (some_same (d, m) q h) (flow_below c n d m t u x w l)

-- the flows of facts that rise climb
flows_climb : (xs : List AfFact) → Rises fact_cmp (map fact_of xs) → Climbs (filter_map flow_said xs)
flows_climb [] r = tt
flows_climb (End ∷ xs) r = flows_climb xs r.1
flows_climb (Aborted ∷ xs) r = flows_climb xs r.1
flows_climb (ComponentRemoved c ∷ xs) r = flows_climb xs r.1
flows_climb (FlowRemoved c n ∷ xs) r = flows_climb xs r.1
flows_climb (Session t x ∷ xs) r = flows_climb xs r.1
flows_climb (Component c t x ∷ xs) r = flows_climb xs r.1
flows_climb (Flow c n t x ∷ xs) r = (
  λ q i. let m = filter_map-In flow_said q xs i in above c n t x m.0 q m.2 (r.0 (fact_of m.0) (In-map fact_of m.0 xs m.1)),
  flows_climb xs r.1,
)

-- of what is kept
pub flows_is : (xs : List AfFact) (zs : List Fact) → map fact_of xs ≡ zs → kept_list zs ≡ zs → flows_after None (filter_map flow_said xs) ≡ flows zs
flows_is xs zs e k =
    each_once (filter_map flow_said xs) (flows_climb xs (subst (λ (l : List Fact). Rises fact_cmp l) (sym e) (kept_rises zs k)))
    ∙ ap (ascending numbers_cmp) (same_flows xs)
    ∙ ap (λ (l : List Fact). ascending numbers_cmp (filter_map flow_of l)) (e ∙ sym k)
