-- What an index lists after more was listed.
use Rattle.std.proofs.Common.{◌≡◌, ℕ, ◌+◌, ◌<◌, add-one, Bool, true, false, List, [], ◌∷◌, ◌++◌, map, length, take, get_or, Result, Ok, Err, OnOk, OnErr, inl, inr, refl, sym, ap, ◌∙◌, subst, if◌then◌else◌}
use Rattle.std.proofs.Math.Seq.{take-suc}
use Rattle.std.specs.Net.Addr.{ipv4_octets}
use Rattle.std.specs.Ordering.{is_eq}
use Rattle.std.specs.declared.cmp.Ordering.{Ordering}
use Rattle.std.specs.declared.net.ipv4_addr.Ipv4Addr.{Ipv4Addr}
use Rattle.pcrf_values.specs.Ascending.{place}
use Rattle.pcrf_values.specs.Orders.{text_cmp}
use Rattle.pcrf_values.specs.Sets.{In}
use Rattle.pcrf_values.specs.declared.tag.Tag.{Tag}
use Rattle.pcrf_values.proofs.OrderLaws.{text_ranked, eq_itself}
use Rattle.pcrf_values.proofs.Plain.{clash}
use Rattle.pcrf_values.proofs.SetLaws.{In-cases}
use Rattle.pcrf_values.specs.Facts.{Fact, Field}
use Rattle.pcrf_values.specs.Places.{address, prefix, subscribers}
use Rattle.pcrf_values.specs.Values.{Subscriber, Address, Subscribers, Prefix}
use Rattle.pcrf_values.specs.Prefixes.{Ipv6Prefix, prefix_cmp}
use Rattle.pcrf_values.specs.Subscribers.{subscriber_cmp}
use Rattle.pcrf_values.proofs.FactLaws.{prefix_ranked, subscriber_ranked}
use Rattle.pcrf_model.specs.Sessions.{Kind, Gx, Af, Session, gx}
use Rattle.bind_index.specs.Lists.{ids_at, with_id}
use Rattle.bind_index.proofs.IdLists.{place_has, place_keeps}
use Rattle.bind_index.specs.Index.{address_cmp, BySubscriber, ByAddress, ByNetwork, IndexValue, listed_at, listed_in, Grows, GrowsUnder, ListedUnder, ListsFacts}
use Rattle.bind_index.specs.Networks.{all_networks, network_of}

-- ---- one list that grows

module _ {K : Type 0} (cmp : K → K → Ordering) (before after : List (K × List (List ℕ))) (key : K) (id : List ℕ)
    (added : (k : K) → ids_at cmp after k ≡ with_id cmp text_cmp before key id k) where
  -- what was listed stays
  pub list_grows : (k : K) (x : List ℕ) → In x (ids_at cmp before k) → In x (ids_at cmp after k)
  list_grows k x i = subst (λ l. In x l) (sym (added k)) (by (is_eq (cmp key k)))
    where
      by : (b : Bool) → In x (if b then place text_cmp id (ids_at cmp before k) else ids_at cmp before k)
      by true = place_keeps text_cmp text_ranked id x (ids_at cmp before k) i
      by false = i

  -- and the one that was added is listed
  pub list_has : is_eq (cmp key key) ≡ true → In id (ids_at cmp after key)
  list_has e = subst (λ l. In id l) (sym (added key)) (subst (λ b. In id (if b then place text_cmp id (ids_at cmp before key) else ids_at cmp before key)) (sym e) (place_has text_cmp text_ranked id (ids_at cmp before key)))

-- ---- an index that grows

-- it grows from itself
pub grows_itself : (i : IndexValue) → Grows i i
grows_itself i = record { addresses = λ k a id h. h; prefixes = λ k n id h. h; subscribed = λ x id h. h }

-- and goes on growing
pub grows_through : (i j k : IndexValue) → Grows i j → Grows j k → Grows i k
grows_through i j k g h = record {
  addresses = λ m a id x. h.addresses m a id (g.addresses m a id x);
  prefixes = λ m n id x. h.prefixes m n id (g.prefixes m n id x);
  subscribed = λ s id x. h.subscribed s id (g.subscribed s id x);
}

-- what is listed under subscribers stays
pub under_grows : (i j : BySubscriber) (id : List ℕ) (xs : List Subscriber) → GrowsUnder i j → ListedUnder i id xs → ListedUnder j id xs
under_grows i j id xs g h = record { each = λ x m. g.each x id (h.each x m) }

-- under none
pub under_none : (i : BySubscriber) (id : List ℕ) → ListedUnder i id []
under_none i id = record { each = λ x m. absurd m }

-- under one more
pub under_more : (i : BySubscriber) (id : List ℕ) (xs : List Subscriber) (y : Subscriber) → ListedUnder i id xs → In id (ids_at subscriber_cmp i y) → ListedUnder i id (xs ++ y ∷ [])
under_more i id xs y h l = record {
  each = λ x m. elim (In-cases x xs (y ∷ []) m) [
    | inl n ↦ h.each x n
    | inr n ↦ elim n [ inl e ↦ subst (λ (z : Subscriber). In id (ids_at subscriber_cmp i z)) (sym e) l | inr k ↦ absurd k ]
  ];
}

-- lists grow from themselves, and go on growing
pub under_itself : (i : BySubscriber) → GrowsUnder i i
under_itself i = record { each = λ x id h. h }

pub under_through : (i j k : BySubscriber) → GrowsUnder i j → GrowsUnder j k → GrowsUnder i k
under_through i j k g h = record { each = λ x id m. h.each x id (g.each x id m) }

-- after one was added
pub under_added : (before after : BySubscriber) (y : Subscriber) (id : List ℕ) → ((x : Subscriber) → ids_at subscriber_cmp after x ≡ with_id subscriber_cmp text_cmp before y id x)
    → GrowsUnder before after × In id (ids_at subscriber_cmp after y)
under_added before after y id added = (record { each = list_grows subscriber_cmp before after y id added }, list_has subscriber_cmp before after y id added (eq_itself subscriber_ranked y))

-- and what is listed by facts
pub facts_grow : (i j : IndexValue) (s : Session) (facts : List Fact) → Grows i j → ListsFacts i s facts → ListsFacts j s facts
facts_grow i j s facts g h = record {
  addresses = λ t a m. g.addresses s.kind a s.id (h.addresses t a m);
  prefixes = λ t p m. g.prefixes s.kind (network_of p) s.id (h.prefixes t p m);
  subscribed = λ id e t xs m. under_grows i.subscribed j.subscribed id xs (record { each = g.subscribed }) (h.subscribed id e t xs m);
}

-- by no fact nothing need be listed
pub no_facts : (i : IndexValue) (s : Session) → ListsFacts i s []
no_facts i s = record { addresses = λ t a m. absurd m; prefixes = λ t p m. absurd m; subscribed = λ id e t xs m. absurd m }

-- by the facts of both
pub both_facts : (i : IndexValue) (s : Session) (xs ys : List Fact) → ListsFacts i s xs → ListsFacts i s ys → ListsFacts i s (xs ++ ys)
both_facts i s xs ys g h = record {
  addresses = λ t a m. elim (In-cases (Field address t (Address (ipv4_octets a))) xs ys m) [ inl n ↦ g.addresses t a n | inr n ↦ h.addresses t a n ];
  prefixes = λ t p m. elim (In-cases (Field prefix t (Prefix p)) xs ys m) [ inl n ↦ g.prefixes t p n | inr n ↦ h.prefixes t p n ];
  subscribed = λ id e t us m. elim (In-cases (Field subscribers t (Subscribers us)) xs ys m) [ inl n ↦ g.subscribed id e t us n | inr n ↦ h.subscribed id e t us n ];
}

-- ---- what the code lists

-- after a call that listed one more, or nothing, what was listed stays
pub result_grows : {K A E : Type 0} (cmp : K → K → Ordering) (before after : List (K × List (List ℕ))) (key : K) (id : List ℕ) (r : Result A E)
    → OnOk r ((k : K) → ids_at cmp after k ≡ with_id cmp text_cmp before key id k) → OnErr r ((k : K) → ids_at cmp after k ≡ ids_at cmp before k)
    → (k : K) (x : List ℕ) → In x (ids_at cmp before k) → In x (ids_at cmp after k)
result_grows cmp before after key id (Ok v) h e k x i = list_grows cmp before after key id h k x i
result_grows cmp before after key id (Err v) h e k x i = subst (λ l. In x l) (sym (e k)) i

-- with other lists of gateways' sessions
pub gateways_grow : (now : IndexValue) (g : ByAddress) → ((a : Ipv4Addr) (x : List ℕ) → In x (ids_at address_cmp now.gateways a) → In x (ids_at address_cmp g a)) → Grows now (record now { gateways = g })
gateways_grow now g h = record { addresses = by; prefixes = λ k n id m. m; subscribed = λ x id m. m }
  where
    by : (k : Kind) (a : Ipv4Addr) (id : List ℕ) → In id (listed_at now k a) → In id (listed_at (record now { gateways = g }) k a)
    by Gx a id m = h a id m
    by Af a id m = m

-- with other lists of calls
pub calls_grow : (now : IndexValue) (g : ByAddress) → ((a : Ipv4Addr) (x : List ℕ) → In x (ids_at address_cmp now.calls a) → In x (ids_at address_cmp g a)) → Grows now (record now { calls = g })
calls_grow now g h = record { addresses = by; prefixes = λ k n id m. m; subscribed = λ x id m. m }
  where
    by : (k : Kind) (a : Ipv4Addr) (id : List ℕ) → In id (listed_at now k a) → In id (listed_at (record now { calls = g }) k a)
    by Gx a id m = m
    by Af a id m = h a id m

-- with other lists by subscriber
pub subscribed_grow : (now : IndexValue) (g : BySubscriber) → GrowsUnder now.subscribed g → Grows now (record now { subscribed = g })
subscribed_grow now g h = record { addresses = λ k a id m. m; prefixes = λ k n id m. m; subscribed = λ x id m. h.each x id m }

-- with other lists of gateways' sessions by network
pub gateway_networks_grow : (now : IndexValue) (g : ByNetwork) → ((n : Ipv6Prefix) (x : List ℕ) → In x (ids_at prefix_cmp now.gateway_networks n) → In x (ids_at prefix_cmp g n)) → Grows now (record now { gateway_networks = g })
gateway_networks_grow now g h = record { addresses = λ k a id m. m; prefixes = by; subscribed = λ x id m. m }
  where
    by : (k : Kind) (n : Ipv6Prefix) (id : List ℕ) → In id (listed_in now k n) → In id (listed_in (record now { gateway_networks = g }) k n)
    by Gx n id m = h n id m
    by Af n id m = m

-- with other lists of calls by network
pub call_networks_grow : (now : IndexValue) (g : ByNetwork) → ((n : Ipv6Prefix) (x : List ℕ) → In x (ids_at prefix_cmp now.call_networks n) → In x (ids_at prefix_cmp g n)) → Grows now (record now { call_networks = g })
call_networks_grow now g h = record { addresses = λ k a id m. m; prefixes = by; subscribed = λ x id m. m }
  where
    by : (k : Kind) (n : Ipv6Prefix) (id : List ℕ) → In id (listed_in now k n) → In id (listed_in (record now { call_networks = g }) k n)
    by Gx n id m = m
    by Af n id m = h n id m

-- a network is at itself
pub network_itself : (n : Ipv6Prefix) → is_eq (prefix_cmp n n) ≡ true
network_itself n = eq_itself prefix_ranked n

-- the prefix of a fact that gives one
abbrev prefix_in : Fact → Ipv6Prefix
prefix_in (Field p t (Prefix q)) = q
prefix_in f = all_networks

-- the octets of a fact that gives an address
abbrev octets_in : Fact → List ℕ
octets_in (Field p t (Address a)) = a
octets_in f = []

-- the subscribers of one that gives them
abbrev subscribers_in : Fact → List Subscriber
subscribers_in (Field p t (Subscribers xs)) = xs
subscribers_in f = []

-- the fact gives a prefix
abbrev gives_prefix : Fact → Bool
gives_prefix (Field p t (Prefix q)) = true
gives_prefix f = false

-- the fact gives an address
abbrev gives_address : Fact → Bool
gives_address (Field p t (Address a)) = true
gives_address f = false

-- by the fact of an address
pub address_fact : (i : IndexValue) (s : Session) (t : Tag) (a : Ipv4Addr) → In s.id (listed_at i s.kind a) → ListsFacts i s (Field address t (Address (ipv4_octets a)) ∷ [])
address_fact i s t a h = record {
  addresses = by;
  prefixes = λ u p m. elim m [ inl q ↦ clash true refl (ap gives_address (sym q)) | inr n ↦ absurd n ];
  subscribed = λ id e u xs m. elim m [ inl q ↦ clash true refl (ap gives_address (sym q)) | inr n ↦ absurd n ];
}
  where
    by : (u : Tag) (b : Ipv4Addr) → In (Field address u (Address (ipv4_octets b))) (Field address t (Address (ipv4_octets a)) ∷ []) → In s.id (listed_at i s.kind b)
    by u b (inl q) =
        let octets : ipv4_octets a ≡ ipv4_octets b = sym (ap octets_in q) in
        let same : a ≡ b = λ j. record { octets = octets j } in
        subst (λ (x : Ipv4Addr). In s.id (listed_at i s.kind x)) same h
    by u b (inr n) = absurd n

-- by the fact of a prefix
pub prefix_fact : (i : IndexValue) (s : Session) (t : Tag) (q : Ipv6Prefix) → In s.id (listed_in i s.kind (network_of q)) → ListsFacts i s (Field prefix t (Prefix q) ∷ [])
prefix_fact i s t q h = record {
  addresses = λ u a m. elim m [ inl e ↦ clash true refl (ap gives_address e) | inr n ↦ absurd n ];
  prefixes = by;
  subscribed = λ id e u xs m. elim m [ inl r ↦ clash true refl (ap gives_prefix (sym r)) | inr n ↦ absurd n ];
}
  where
    by : (u : Tag) (p : Ipv6Prefix) → In (Field prefix u (Prefix p)) (Field prefix t (Prefix q) ∷ []) → In s.id (listed_in i s.kind (network_of p))
    by u p (inl e) = subst (λ (x : Ipv6Prefix). In s.id (listed_in i s.kind (network_of x))) (sym (ap prefix_in e)) h
    by u p (inr n) = absurd n

-- by the fact of a gateway's session's subscribers
pub subscribers_fact : (i : IndexValue) (id : List ℕ) (t : Tag) (xs : List Subscriber) → ListedUnder i.subscribed id xs → ListsFacts i (gx id) (Field subscribers t (Subscribers xs) ∷ [])
subscribers_fact i id t xs h = record {
  addresses = λ u b m. elim m [ inl q ↦ clash true refl (ap gives_address q) | inr n ↦ absurd n ];
  prefixes = λ u p m. elim m [ inl q ↦ clash true refl (ap gives_prefix q) | inr n ↦ absurd n ];
  subscribed = λ id2 e u ys m. elim m [
    | inl q ↦ subst (λ (us : List Subscriber). ListedUnder i.subscribed id2 us) (sym (ap subscribers_in q)) (subst (λ (s : Session). ListedUnder i.subscribed s.id xs) e h)
    | inr n ↦ absurd n
  ];
}

-- lists that are the same
pub under_same : (before after : BySubscriber) → ((x : Subscriber) → ids_at subscriber_cmp after x ≡ ids_at subscriber_cmp before x) → GrowsUnder before after
under_same before after e = record { each = λ x id m. subst (λ l. In id l) (sym (e x)) m }

-- ---- one step of a loop over a list

-- the first members and the next
pub next_taken : {A : Type 0} (xs : List A) (n : ℕ) (x : A) → n < length xs → x ≡ get_or xs n x → take (n + 1) xs ≡ take n xs ++ x ∷ []
next_taken xs n x h e = rw add-one (take-suc xs n x h ∙ ap (λ y. take n xs ++ y ∷ []) (sym e))

-- mapped
map_last : {A B : Type 0} (f : A → B) (xs : List A) (y : A) → map f (xs ++ y ∷ []) ≡ map f xs ++ f y ∷ []
map_last f [] y = refl
map_last f (x ∷ xs) y = ap (λ l. f x ∷ l) (map_last f xs y)

-- the index after one more fact was listed
pub next_fact : {A : Type 0} (f : A → Fact) (i j : IndexValue) (s : Session) (xs : List A) (n : ℕ) (x : A) → n < length xs → x ≡ get_or xs n x
    → ListsFacts i s (map f (take n xs)) → Grows i j → ListsFacts j s (f x ∷ []) → ListsFacts j s (map f (take (n + 1) xs))
next_fact f i j s xs n x h e so_far grows one =
    subst (λ l. ListsFacts j s l) (sym (ap (map f) (next_taken xs n x h e) ∙ map_last f (take n xs) x))
    (both_facts j s (map f (take n xs)) (f x ∷ []) (facts_grow i j s (map f (take n xs)) grows so_far) one)

-- an address is at itself
pub address_itself : (a : Ipv4Addr) → is_eq (address_cmp a a) ≡ true
address_itself a = eq_itself text_ranked (ipv4_octets a)
