-- What an index covers after more was taken.
use Rattle.std.proofs.Common.{◌≡◌, ◌⊎◌, Option, Some, None, inl, inr, refl, sym, ap, ◌∙◌, subst, option_map}
use Rattle.std.specs.Net.Addr.{ipv4_octets}
use Rattle.pcrf_values.specs.Sets.{In}
use Rattle.pcrf_values.proofs.Plain.{none_some, some_same}
use Rattle.pcrf_values.specs.Facts.{Field}
use Rattle.pcrf_values.specs.Places.{Place, address, prefix, subscribers}
use Rattle.pcrf_values.specs.Values.{Value, Address, Subscribers, Prefix, Entry}
use Rattle.pcrf_model.specs.Holdings.{under, Holding, union, kept_of}
use Rattle.pcrf_model.specs.Operations.{Operation}
use Rattle.pcrf_model.specs.Sessions.{Session, gx}
use Rattle.pcrf_model.specs.Views.{View, view, value}
use Rattle.pcrf_model.proofs.TakingLaws.{union_shows, shows_a_fact}
use Rattle.bind_index.specs.Index.{IndexValue, listed_at, listed_in, Covers, CoversUnions, CoversWithMore, Grows, ListsFacts}
use Rattle.bind_index.specs.Networks.{network_of}

-- the entry of a value that shows
its_entry : (o : Option Entry) (x : Value) → option_map (λ (e : Entry). e.1) o ≡ Some x → (e : Entry) × (o ≡ Some e) × (e.1 ≡ x)
its_entry None x h = none_some x h
its_entry (Some e) x h = (e, refl, some_same e.1 x h)

-- the value of an entry that shows
its_value : (v : View) (s : Session) (p : Place) (e : Entry) (x : Value) → v.shows s p ≡ Some e → e.1 ≡ x → value v s p ≡ Some x
its_value v s p e x h q = ap (option_map (λ (d : Entry). d.1)) h ∙ ap Some q

-- what the union shows one of them shows
of_one : (h k : Holding) (s : Session) (p : Place) (x : Value) → value (view (kept_of (union h k)).facts) s p ≡ Some x
    → (value (view h.facts) s p ≡ Some x) ⊎ (value (view k.facts) s p ≡ Some x)
of_one h k s p x e =
    let w = its_entry ((view (kept_of (union h k)).facts).shows s p) x e in
    elim (union_shows h k s p w.0 w.1) [
      | inl i ↦ inl (its_value (view h.facts) s p w.0 x i w.2)
      | inr i ↦ inr (its_value (view k.facts) s p w.0 x i w.2)
    ]

-- what is covered stays so
pub covers_grow : (v : View) (i j : IndexValue) → Grows i j → Covers v i → Covers v j
covers_grow v i j g c = record {
  addresses = λ s a h. g.addresses s.kind a s.id (c.addresses s a h);
  prefixes = λ s p h. g.prefixes s.kind (network_of p) s.id (c.prefixes s p h);
  subscribed = λ id xs x h m. g.subscribed x id (c.subscribed id xs x h m);
}

-- an index that covers two holdings covers their union
pub covers_union : CoversUnions
covers_union h k i c d = record {
  addresses = λ s a e. elim (of_one h k s address (Address (ipv4_octets a)) e) [ inl m ↦ c.addresses s a m | inr m ↦ d.addresses s a m ];
  prefixes = λ s p e. elim (of_one h k s prefix (Prefix p) e) [ inl m ↦ c.prefixes s p m | inr m ↦ d.prefixes s p m ];
  subscribed = λ id xs x e n. elim (of_one h k (gx id) subscribers (Subscribers xs) e) [ inl m ↦ c.subscribed id xs x m n | inr m ↦ d.subscribed id xs x m n ];
}

-- one that lists a session by its facts covers these
pub covers_facts : (o : Operation) (i : IndexValue) → ListsFacts i o.session o.facts → Covers (view (under o.session o.facts)) i
covers_facts o i l = record {
  addresses = λ s a h.
      let w = its_entry ((view (under o.session o.facts)).shows s address) (Address (ipv4_octets a)) h in
      let f = shows_a_fact o.session s o.facts address w.0 w.1 in
      subst (λ (r : Session). In r.id (listed_at i r.kind a)) (sym f.0)
      (l.addresses w.0.0 a (subst (λ (x : Value). In (Field address w.0.0 x) o.facts) w.2 f.1));
  prefixes = λ s p h.
      let w = its_entry ((view (under o.session o.facts)).shows s prefix) (Prefix p) h in
      let f = shows_a_fact o.session s o.facts prefix w.0 w.1 in
      subst (λ (r : Session). In r.id (listed_in i r.kind (network_of p))) (sym f.0)
      (l.prefixes w.0.0 p (subst (λ (x : Value). In (Field prefix w.0.0 x) o.facts) w.2 f.1));
  subscribed = λ id xs x h n.
      let w = its_entry ((view (under o.session o.facts)).shows (gx id) subscribers) (Subscribers xs) h in
      let f = shows_a_fact o.session (gx id) o.facts subscribers w.0 w.1 in
      (l.subscribed id (sym f.0) w.0.0 xs (subst (λ (x : Value). In (Field subscribers w.0.0 x) o.facts) w.2 f.1)).each x n;
}

-- so an index that covers what was held, and lists the session of an operation, covers what is held with it
pub covers_taken : CoversWithMore
covers_taken h o i j c g l = covers_union h (record { facts = under o.session o.facts; clock = o.counter }) j (covers_grow (view h.facts) i j g c) (covers_facts o j l)
