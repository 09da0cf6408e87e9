-- All that are listed under an address wait once each was looked at.
use Rattle.std.proofs.Common.{◌≡◌, ℕ, List, [], ◌∷◌, ◌⊎◌, Option, Some, None, inl, inr, refl, sym, ap, ◌∙◌, subst}
use Rattle.std.specs.declared.net.ipv4_addr.Ipv4Addr.{Ipv4Addr}
use Rattle.pcrf_values.specs.Orders.{text_cmp}
use Rattle.pcrf_values.specs.Sets.{In}
use Rattle.pcrf_values.proofs.OrderLaws.{text_ranked}
use Rattle.pcrf_values.proofs.Plain.{some_same}
use Rattle.lattice_core.specs.Entries.{value_at}
use Rattle.lattice_core.proofs.MapParts.{found_entry}
use Rattle.pcrf_values.specs.Facts.{Fact}
use Rattle.pcrf_model.specs.Holdings.{SessionFact, facts_on}
use Rattle.pcrf_model.specs.Sessions.{Gx, Session, gx}
use Rattle.pcrf_model.specs.Views.{View, view}
use Rattle.pcrf_model.proofs.BindLaws.{gx_is}
use Rattle.site_join.specs.States.{record_facts}
use Rattle.bind_index.specs.Index.{IndexValue, listed_at}
use Rattle.rule_delta.specs.Waits.{WaitingValue, EachListedWaits, EachWaits, Keeps, ListedWait, WaitsIfDue}
use Rattle.rule_delta.proofs.Waited.{waits_on}
use Rattle.rule_delta.proofs.Reading.{no_host}

-- the first or a further one
next_of : (v : View) (w : WaitingValue) (id x : List ℕ) (next : List (List ℕ)) → WaitsIfDue v w (gx id) → In x (id ∷ next) → In x next ⊎ WaitsIfDue v w (gx x)
next_of v w id x next own (inl q) = inr (subst (λ (y : List ℕ). WaitsIfDue v w (gx y)) (sym q) own)
next_of v w id x next own (inr j) = inl j

-- after one more was looked at
pub next_waits : (v : View) (u w : WaitingValue) (rest next : List (List ℕ)) (id x : List ℕ) → Keeps u w → rest ≡ id ∷ next → WaitsIfDue v w (gx id)
    → In x rest ⊎ WaitsIfDue v u (gx x) → In x next ⊎ WaitsIfDue v w (gx x)
next_waits v u w rest next id x k e own (inl m) = next_of v w id x next own (subst (λ (l : List (List ℕ)). In x l) e m)
next_waits v u w rest next id x k e own (inr h) = inr (waits_on v u w (gx x) k h)

-- once all were
pub all_waited : (v : View) (w : WaitingValue) (all rest : List (List ℕ)) → ((x : List ℕ) → In x all → In x rest ⊎ WaitsIfDue v w (gx x)) → rest ≡ [] → EachListedWaits v w all
all_waited v w all rest f none = record {
  each = λ id m. elim (f id m) [
    | inl j ↦ absurd (subst (λ (l : List (List ℕ)). In id l) none j)
    | inr g ↦ g
  ];
}

-- so those that are listed under an address
pub all_listed : (v : View) (i : IndexValue) (w : WaitingValue) (at : Option Ipv4Addr) (a : Ipv4Addr) (ids : List (List ℕ)) → at ≡ Some a → ids ≡ listed_at i Gx a
    → EachListedWaits v w ids → ListedWait v i w at
all_listed v i w at a ids h e f = record {
  each = λ b s k kind m.
      let same : a ≡ b = some_same a b (sym h ∙ k) in
      let here : In s.id ids = subst (λ (l : List (List ℕ)). In s.id l) (sym (e ∙ ap (listed_at i Gx) same)) m in
      let named : gx s.id ≡ s = λ j. record { kind = sym kind j; id = s.id } in
      subst (λ (r : Session). WaitsIfDue v w r) named (f.each s.id here);
}

-- and none where there are none
pub none_listed : (v : View) (w : WaitingValue) (ids : List (List ℕ)) → [] ≡ ids → EachListedWaits v w ids
none_listed v w ids e = record { each = λ id m. absurd (subst (λ (l : List (List ℕ)). In id l) (sym e) m) }

-- ---- records

-- the first or a further one
next_record : (v : View) (w : WaitingValue) (id : List ℕ) (fs : List Fact) (e : List ℕ × List Fact) (next : List (List ℕ × List Fact)) → WaitsIfDue v w (gx id)
    → In e ((id, fs) ∷ next) → In e next ⊎ WaitsIfDue v w (gx e.0)
next_record v w id fs e next own (inl q) = inr (subst (λ (y : List ℕ). WaitsIfDue v w (gx y)) (sym (ap (λ (d : List ℕ × List Fact). d.0) q)) own)
next_record v w id fs e next own (inr j) = inl j

-- after the session of one more record was looked at
pub next_records : (v : View) (u w : WaitingValue) (rest next : List (List ℕ × List Fact)) (id : List ℕ) (fs : List Fact) (e : List ℕ × List Fact) → Keeps u w → rest ≡ (id, fs) ∷ next
    → WaitsIfDue v w (gx id) → In e rest ⊎ WaitsIfDue v u (gx e.0) → In e next ⊎ WaitsIfDue v w (gx e.0)
next_records v u w rest next id fs e k q own (inl m) = next_record v w id fs e next own (subst (λ (l : List (List ℕ × List Fact)). In e l) q m)
next_records v u w rest next id fs e k q own (inr h) = inr (waits_on v u w (gx e.0) k h)

-- once those of all were
pub all_records : (facts : List SessionFact) (w : WaitingValue) (all rest : List (List ℕ × List Fact)) → ((id : List ℕ) → record_facts (value_at text_cmp all id) ≡ facts_on facts (gx id))
    → ((e : List ℕ × List Fact) → In e all → In e rest ⊎ WaitsIfDue (view facts) w (gx e.0)) → rest ≡ [] → EachWaits (view facts) w
all_records facts w all rest reads f none = record { each = λ s g. subst (λ (r : Session). WaitsIfDue (view facts) w r) (gx_is s s.kind refl g) (of s.id (value_at text_cmp all s.id) refl) }
  where
    of : (id : List ℕ) (o : Option (List Fact)) → value_at text_cmp all id ≡ o → WaitsIfDue (view facts) w (gx id)
    of id None e = no_host facts (gx id) [] w (sym (ap record_facts e) ∙ reads id) refl
    of id (Some fs) e = elim (f (id, fs) (found_entry text_ranked id fs all e)) [
      | inl j ↦ absurd (subst (λ (l : List (List ℕ × List Fact)). In (id, fs) l) none j)
      | inr h ↦ h
    ]
