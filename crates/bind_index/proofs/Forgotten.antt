-- What an index still lists and covers once a session is forgotten.
use Rattle.std.proofs.Common.{◌≡◌, ℕ, Bool, true, false, not, cond, List, [], ◌∷◌, ◌++◌, Option, Some, None, option_map, ◌⊎◌, ◌||◌, inl, inr, refl, sym, ap, ◌∙◌, subst, if◌then◌else◌}
use Rattle.std.specs.List.{list_any}
use Rattle.std.specs.Net.Addr.{ipv4_octets}
use Rattle.std.specs.Ordering.{is_eq}
use Rattle.std.specs.declared.net.ipv4_addr.Ipv4Addr.{Ipv4Addr}
use Rattle.std.specs.declared.cmp.Ordering.{Ordering}
use Rattle.pcrf_values.specs.Orders.{text_cmp}
use Rattle.pcrf_values.specs.Sets.{In}
use Rattle.pcrf_values.specs.declared.tag.Tag.{Tag}
use Rattle.pcrf_values.proofs.OrderLaws.{text_ranked, eq_is, eq_itself}
use Rattle.pcrf_values.proofs.Plain.{clash, is_false, none_some, some_same}
use Rattle.pcrf_values.proofs.SetLaws.{In-filter, In-left, In-right, In-cases, In-any, any-In}
use Rattle.pcrf_values.specs.Prefixes.{Ipv6Prefix, prefix_cmp}
use Rattle.pcrf_values.specs.Subscribers.{subscriber_cmp}
use Rattle.pcrf_values.specs.Facts.{Fact, End, Removed, Field, Aborted}
use Rattle.pcrf_values.specs.FlowWords.{value_at}
use Rattle.pcrf_values.specs.Held.{entry_shown, is_ended, is_gone, blocks}
use Rattle.pcrf_values.specs.Places.{Place, address, prefix, subscribers}
use Rattle.pcrf_values.specs.Values.{Value, Entry, Subscriber, Address, Subscribers, Prefix}
use Rattle.pcrf_values.proofs.FactLaws.{prefix_ranked, subscriber_ranked}
use Rattle.pcrf_model.specs.Holdings.{SessionFact, facts_on}
use Rattle.pcrf_model.specs.Sessions.{Kind, Gx, Af, Session, gx, af}
use Rattle.pcrf_model.specs.Views.{View, view, value}
use Rattle.bind_index.specs.Lists.{ids_at, without, without_id}
use Rattle.bind_index.specs.Index.{address_cmp, ByAddress, ByNetwork, BySubscriber, IndexValue, listed_at, listed_in, listed_of, Covers}
use Rattle.bind_index.specs.Networks.{all_networks, network_of}
use Rattle.bind_index.specs.Forgetting.{SamePrefixed, SameKeyed, ShowsAddress, ShowsNetwork, ShowsNothing, EndedShowNothing, GivesAddress, GivesNetwork, ForgetsAddress, ForgetsNetwork, ForgetsEach, ForgetsSubscribers}
use Rattle.bind_index.proofs.Covering.{address_itself, network_itself}

-- ---- lists without one

-- any other stays
pub stays : (id x : List ℕ) (ids : List (List ℕ)) → (x ≡ id → ⊥) → In x ids → In x (without text_cmp id ids)
stays id x ids apart i = In-filter (λ y. not (is_eq (text_cmp id y))) x ids i (ap not (is_false _ (λ e. apart (sym (eq_is text_ranked id x e)))))

-- what is left out twice is left out once
pub left_out_once : (id : List ℕ) (ids : List (List ℕ)) → without text_cmp id (without text_cmp id ids) ≡ without text_cmp id ids
left_out_once id [] = refl
left_out_once id (x ∷ xs) = elim (is_eq (text_cmp id x)) as (λ b. is_eq (text_cmp id x) ≡ b → without text_cmp id (without text_cmp id (x ∷ xs)) ≡ without text_cmp id (x ∷ xs)) [
  | true ↦ λ e. simp e (left_out_once id xs)
  | false ↦ λ e. simp e (ap (λ ys. x ∷ ys) (left_out_once id xs))
] refl

-- a subscriber is among others, or it isn't
pub among_or_not : (x : Subscriber) (xs : List Subscriber) → In x xs ⊎ ¬ In x xs
among_or_not x xs = by (list_any (λ y. is_eq (subscriber_cmp x y)) xs) refl
  where
    by : (b : Bool) → list_any (λ y. is_eq (subscriber_cmp x y)) xs ≡ b → In x xs ⊎ ¬ In x xs
    by true e =
        let w = any-In (λ y. is_eq (subscriber_cmp x y)) xs e in
        inl (subst (λ (y : Subscriber). In y xs) (sym (eq_is subscriber_ranked x w.0 w.2)) w.1)
    by false e = inr (λ i. clash _ (In-any (λ y. is_eq (subscriber_cmp x y)) x xs i (eq_itself subscriber_ranked x)) e)

-- ---- what is covered stays so

-- where those under networks stay listed, each that was among them is
pub prefixed_still : (i j : IndexValue) → SamePrefixed i j → (k : Kind) (n : Ipv6Prefix) (id : List ℕ) → In id (listed_in i k n) → In id (listed_in j k n)
prefixed_still i j p Gx n id m = subst (λ (l : ByNetwork). In id (ids_at prefix_cmp l n)) (sym p.gateways) m
prefixed_still i j p Af n id m = subst (λ (l : ByNetwork). In id (ids_at prefix_cmp l n)) (sym p.calls) m

-- so where those under addresses do
keyed_still : (i j : IndexValue) → SameKeyed i j → (k : Kind) (a : Ipv4Addr) (id : List ℕ) → In id (listed_at i k a) → In id (listed_at j k a)
keyed_still i j p Gx a id m = subst (λ (l : ByAddress). In id (ids_at address_cmp l a)) (sym p.gateways) m
keyed_still i j p Af a id m = subst (λ (l : ByAddress). In id (ids_at address_cmp l a)) (sym p.calls) m

-- addresses that are the same
same_address : (a b : Ipv4Addr) → is_eq (address_cmp a b) ≡ true → a ≡ b
same_address a b e = let octets = eq_is text_ranked (ipv4_octets a) (ipv4_octets b) e in λ i. record { octets = octets i }

-- a session under one key fewer
module _ {K : Type 0} (cmp : K → K → Ordering) (exact : (a b : K) → is_eq (cmp a b) ≡ true → a ≡ b) (lists : List (K × List (List ℕ))) (at : K) (id : List ℕ) where
  -- is still found by another session, or another key
  pub still_at : (x : List ℕ) (a : K) → ((x ≡ id) → (a ≡ at) → ⊥) → In x (ids_at cmp lists a) → In x (without_id cmp text_cmp lists at id a)
  still_at x a apart i = by (is_eq (cmp at a)) refl
    where
      by : (b : Bool) → is_eq (cmp at a) ≡ b → In x (if b then without text_cmp id (ids_at cmp lists a) else ids_at cmp lists a)
      by true e = stays id x (ids_at cmp lists a) (λ q. apart q (sym (exact at a e))) i
      by false e = i

-- networks that are the same
same_network : (m n : Ipv6Prefix) → is_eq (prefix_cmp m n) ≡ true → m ≡ n
same_network m n e = eq_is prefix_ranked m n e

-- an index without a gateway's session under an address that it doesn't show covers what it covered
pub gateway_forgotten : (i j : IndexValue) (at : Ipv4Addr) (id : List ℕ) → ((a : Ipv4Addr) → listed_at j Gx a ≡ without_id address_cmp text_cmp i.gateways at id a)
    → j.calls ≡ i.calls → j.subscribed ≡ i.subscribed → SamePrefixed i j → (v : View) → ¬ ShowsAddress v (gx id) at → Covers v i → Covers v j
gateway_forgotten i j at id g c u p v none h = record {
  addresses = λ s a e. by s.kind s.id a e;
  prefixes = λ s q e. prefixed_still i j p s.kind (network_of q) s.id (h.prefixes s q e);
  subscribed = λ n xs x e m. subst (λ (l : BySubscriber). In n (ids_at subscriber_cmp l x)) (sym u) (h.subscribed n xs x e m);
}
  where
    by : (k : Kind) (n : List ℕ) (a : Ipv4Addr) → ShowsAddress v (record { kind = k; id = n }) a → In n (listed_at j k a)
    by Gx n a e = subst (λ (l : List (List ℕ)). In n l) (sym (g a))
        (still_at address_cmp same_address i.gateways at id n a (λ p q. none (subst (λ (m : List ℕ). ShowsAddress v (gx m) at) p (subst (λ (b : Ipv4Addr). ShowsAddress v (gx n) b) q e))) (h.addresses (gx n) a e))
    by Af n a e = subst (λ (l : ByAddress). In n (ids_at address_cmp l a)) (sym c) (h.addresses (af n) a e)

-- so it is without an application function's session
pub call_forgotten : (i j : IndexValue) (at : Ipv4Addr) (id : List ℕ) → ((a : Ipv4Addr) → listed_at j Af a ≡ without_id address_cmp text_cmp i.calls at id a)
    → j.gateways ≡ i.gateways → j.subscribed ≡ i.subscribed → SamePrefixed i j → (v : View) → ¬ ShowsAddress v (af id) at → Covers v i → Covers v j
call_forgotten i j at id c g u p v none h = record {
  addresses = λ s a e. by s.kind s.id a e;
  prefixes = λ s q e. prefixed_still i j p s.kind (network_of q) s.id (h.prefixes s q e);
  subscribed = λ n xs x e m. subst (λ (l : BySubscriber). In n (ids_at subscriber_cmp l x)) (sym u) (h.subscribed n xs x e m);
}
  where
    by : (k : Kind) (n : List ℕ) (a : Ipv4Addr) → ShowsAddress v (record { kind = k; id = n }) a → In n (listed_at j k a)
    by Af n a e = subst (λ (l : List (List ℕ)). In n l) (sym (c a))
        (still_at address_cmp same_address i.calls at id n a (λ p q. none (subst (λ (m : List ℕ). ShowsAddress v (af m) at) p (subst (λ (b : Ipv4Addr). ShowsAddress v (af n) b) q e))) (h.addresses (af n) a e))
    by Gx n a e = subst (λ (l : ByAddress). In n (ids_at address_cmp l a)) (sym g) (h.addresses (gx n) a e)

-- and without one under subscribers, where it shows none
pub subscribers_forgotten : (i j : IndexValue) (id : List ℕ) (xs : List Subscriber) → ForgetsEach i.subscribed j.subscribed id xs
    → j.gateways ≡ i.gateways → j.calls ≡ i.calls → SamePrefixed i j → (v : View) → value v (gx id) subscribers ≡ None → Covers v i → Covers v j
subscribers_forgotten i j id xs f g c p v none h = record {
  addresses = λ s a e. by s.kind s.id a e;
  prefixes = λ s q e. prefixed_still i j p s.kind (network_of q) s.id (h.prefixes s q e);
  subscribed = λ n us x e m. under n x (λ q. none_some (Subscribers us) (sym none ∙ ap (λ (l : List ℕ). value v (gx l) subscribers) (sym q) ∙ e)) (h.subscribed n us x e m);
}
  where
    by : (k : Kind) (n : List ℕ) (a : Ipv4Addr) → ShowsAddress v (record { kind = k; id = n }) a → In n (listed_at j k a)
    by Gx n a e = subst (λ (l : ByAddress). In n (ids_at address_cmp l a)) (sym g) (h.addresses (gx n) a e)
    by Af n a e = subst (λ (l : ByAddress). In n (ids_at address_cmp l a)) (sym c) (h.addresses (af n) a e)

    under : (n : List ℕ) (x : Subscriber) → (n ≡ id → ⊥) → In n (listed_of i x) → In n (listed_of j x)
    under n x apart m = elim (among_or_not x xs) [
      | inl k ↦ subst (λ (l : List (List ℕ)). In n l) (sym (f.gone x k)) (stays id n (listed_of i x) apart m)
      | inr k ↦ subst (λ (l : List (List ℕ)). In n l) (sym (f.others x k)) m
    ]

-- and without a gateway's session under a network of which it shows no prefix
pub gateway_network_forgotten : (i j : IndexValue) (at : Ipv6Prefix) (id : List ℕ) → ((n : Ipv6Prefix) → listed_in j Gx n ≡ without_id prefix_cmp text_cmp i.gateway_networks at id n)
    → j.call_networks ≡ i.call_networks → SameKeyed i j → (v : View) → ¬ ShowsNetwork v (gx id) at → Covers v i → Covers v j
gateway_network_forgotten i j at id g c k v none h = record {
  addresses = λ s a e. keyed_still i j k s.kind a s.id (h.addresses s a e);
  prefixes = λ s q e. by s.kind s.id q e;
  subscribed = λ n xs x e m. subst (λ (l : BySubscriber). In n (ids_at subscriber_cmp l x)) (sym k.subscribed) (h.subscribed n xs x e m);
}
  where
    by : (kind : Kind) (n : List ℕ) (q : Ipv6Prefix) → value v (record { kind = kind; id = n }) prefix ≡ Some (Prefix q) → In n (listed_in j kind (network_of q))
    by Gx n q e = subst (λ (l : List (List ℕ)). In n l) (sym (g (network_of q)))
        (still_at prefix_cmp same_network i.gateway_networks at id n (network_of q)
        (λ p r. none (q, subst (λ (m : List ℕ). value v (gx m) prefix ≡ Some (Prefix q)) p e, r)) (h.prefixes (gx n) q e))
    by Af n q e = subst (λ (l : ByNetwork). In n (ids_at prefix_cmp l (network_of q))) (sym c) (h.prefixes (af n) q e)

-- and without an application function's
pub call_network_forgotten : (i j : IndexValue) (at : Ipv6Prefix) (id : List ℕ) → ((n : Ipv6Prefix) → listed_in j Af n ≡ without_id prefix_cmp text_cmp i.call_networks at id n)
    → j.gateway_networks ≡ i.gateway_networks → SameKeyed i j → (v : View) → ¬ ShowsNetwork v (af id) at → Covers v i → Covers v j
call_network_forgotten i j at id c g k v none h = record {
  addresses = λ s a e. keyed_still i j k s.kind a s.id (h.addresses s a e);
  prefixes = λ s q e. by s.kind s.id q e;
  subscribed = λ n xs x e m. subst (λ (l : BySubscriber). In n (ids_at subscriber_cmp l x)) (sym k.subscribed) (h.subscribed n xs x e m);
}
  where
    by : (kind : Kind) (n : List ℕ) (q : Ipv6Prefix) → value v (record { kind = kind; id = n }) prefix ≡ Some (Prefix q) → In n (listed_in j kind (network_of q))
    by Gx n q e = subst (λ (l : ByNetwork). In n (ids_at prefix_cmp l (network_of q))) (sym g) (h.prefixes (gx n) q e)
    by Af n q e = subst (λ (l : List (List ℕ)). In n l) (sym (c (network_of q)))
        (still_at prefix_cmp same_network i.call_networks at id n (network_of q)
        (λ p r. none (q, subst (λ (m : List ℕ). value v (af m) prefix ≡ Some (Prefix q)) p e, r)) (h.prefixes (af n) q e))

-- a session that shows nothing shows no prefix of a network
pub shows_no_network : (v : View) (s : Session) (n : Ipv6Prefix) → ShowsNothing v s → ¬ ShowsNetwork v s n
shows_no_network v s n none w = none_some (Prefix w.0) (sym (none prefix) ∙ w.1)

-- ---- an ended session shows nothing

-- what ends a session blocks each of its places
end_blocks : (p : Place) (facts : List Fact) → is_ended facts ≡ true → is_gone facts p ≡ true
end_blocks p [] e = absurd (cc)
end_blocks p (End ∷ fs) e = refl
end_blocks p (Removed r ∷ fs) e = either (blocks p (Removed r)) (end_blocks p fs e)
  where
    either : (b : Bool) → is_gone fs p ≡ true → (b || is_gone fs p) ≡ true
    either true h = refl
    either false h = h
end_blocks p (Field q t v ∷ fs) e = end_blocks p fs e
end_blocks p (Aborted ∷ fs) e = end_blocks p fs e

pub ended_show_nothing : EndedShowNothing
unfolding view
ended_show_nothing facts s e p = shut (is_gone (facts_on facts s) p) _ (end_blocks p (facts_on facts s) e)
  where
    shut : (b : Bool) (o : Option Entry) → b ≡ true → option_map (λ (w : Entry). w.1) (cond b None o) ≡ None
    shut true o h = refl
    shut false o h = absurd (cc)

-- ---- what is forgotten by a record

-- under no subscriber
pub each_none : (i : BySubscriber) (id : List ℕ) → ForgetsEach i i id []
each_none i id = record { gone = λ x m. absurd m; others = λ x n. refl }

-- under one more
pub each_more : (i j k : BySubscriber) (id : List ℕ) (xs : List Subscriber) (y : Subscriber) → ForgetsEach i j id xs
    → ((x : Subscriber) → ids_at subscriber_cmp k x ≡ without_id subscriber_cmp text_cmp j y id x) → ForgetsEach i k id (xs ++ y ∷ [])
each_more i j k id xs y f r = record {
  gone = λ x m. r x ∙ out x (is_eq (subscriber_cmp y x)) refl (In-cases x xs (y ∷ []) m);
  others = λ x n. r x ∙ kept x (is_eq (subscriber_cmp y x)) refl n;
}
  where
    out : (x : Subscriber) (b : Bool) → is_eq (subscriber_cmp y x) ≡ b → In x xs ⊎ In x (y ∷ [])
        → (if b then without text_cmp id (ids_at subscriber_cmp j x) else ids_at subscriber_cmp j x) ≡ without text_cmp id (ids_at subscriber_cmp i x)
    out x true e w = elim (among_or_not x xs) [
      | inl m ↦ ap (without text_cmp id) (f.gone x m) ∙ left_out_once id (ids_at subscriber_cmp i x)
      | inr m ↦ ap (without text_cmp id) (f.others x m)
    ]
    out x false e (inl m) = f.gone x m
    out x false e (inr (inl q)) = clash _ (eq_itself subscriber_ranked y) (ap (λ (z : Subscriber). is_eq (subscriber_cmp y z)) (sym q) ∙ e)
    out x false e (inr (inr n)) = absurd n

    kept : (x : Subscriber) (b : Bool) → is_eq (subscriber_cmp y x) ≡ b → ¬ In x (xs ++ y ∷ [])
        → (if b then without text_cmp id (ids_at subscriber_cmp j x) else ids_at subscriber_cmp j x) ≡ ids_at subscriber_cmp i x
    kept x true e n = absurd (n (In-right x xs (y ∷ []) (inl (sym (eq_is subscriber_ranked y x e)))))
    kept x false e n = f.others x (λ m. n (In-left x xs (y ∷ []) m))

-- the value of an entry that shows
its : (facts : List Fact) (p : Place) (t : Tag) (x y : Value) → Some (t, x) ≡ entry_shown facts p → value_at (entry_shown facts) p ≡ Some y → x ≡ y
its facts p t x y s e = some_same x y (ap (option_map (λ (w : Entry). w.1)) s ∙ e)

-- under the address that a record shows
pub address_forgotten : (i j : IndexValue) (s : Session) (facts : List Fact) (t : Tag) (x : Ipv4Addr) → Some (t, Address (ipv4_octets x)) ≡ entry_shown facts address
    → ((a : Ipv4Addr) → listed_at j s.kind a ≡ (if is_eq (address_cmp x a) then without text_cmp s.id (listed_at i s.kind a) else listed_at i s.kind a)) → ForgetsAddress i j s facts
address_forgotten i j s facts t x shows f = record {
  gone = λ a e. f a ∙ out a e (is_eq (address_cmp x a)) refl;
  others = λ a n. f a ∙ kept a n (is_eq (address_cmp x a)) refl;
}
  where
    octets_of : Value → List ℕ
    octets_of (Address o) = o
    octets_of v = []

    out : (a : Ipv4Addr) → GivesAddress facts a → (b : Bool) → is_eq (address_cmp x a) ≡ b
        → (if b then without text_cmp s.id (listed_at i s.kind a) else listed_at i s.kind a) ≡ without text_cmp s.id (listed_at i s.kind a)
    out a e true q = refl
    out a e false q =
        let same : ipv4_octets x ≡ ipv4_octets a = ap octets_of (its facts address t (Address (ipv4_octets x)) (Address (ipv4_octets a)) shows e) in
        clash _ (address_itself x) (ap (λ (o : List ℕ). is_eq (text_cmp (ipv4_octets x) o)) same ∙ q)

    kept : (a : Ipv4Addr) → ¬ GivesAddress facts a → (b : Bool) → is_eq (address_cmp x a) ≡ b
        → (if b then without text_cmp s.id (listed_at i s.kind a) else listed_at i s.kind a) ≡ listed_at i s.kind a
    kept a n true q =
        let here : GivesAddress facts x = sym (ap (option_map (λ (w : Entry). w.1)) shows) in
        absurd (n (subst (λ (b : Ipv4Addr). GivesAddress facts b) (same_address x a q) here))
    kept a n false q = refl

-- under none, where it shows none
pub no_address_forgotten : (i : IndexValue) (s : Session) (facts : List Fact) → None ≡ entry_shown facts address → ForgetsAddress i i s facts
no_address_forgotten i s facts shows = record {
  gone = λ a e. none_some (Address (ipv4_octets a)) (ap (option_map (λ (w : Entry). w.1)) shows ∙ e);
  others = λ a n. refl;
}

-- under the network of the prefix that a record shows
pub network_forgotten : (i j : IndexValue) (s : Session) (facts : List Fact) (t : Tag) (x at : Ipv6Prefix) → Some (t, Prefix x) ≡ entry_shown facts prefix → at ≡ network_of x
    → ((n : Ipv6Prefix) → listed_in j s.kind n ≡ (if is_eq (prefix_cmp at n) then without text_cmp s.id (listed_in i s.kind n) else listed_in i s.kind n)) → ForgetsNetwork i j s facts
network_forgotten i j s facts t x at shows its_network f = record {
  gone = λ n w. f n ∙ out n w (is_eq (prefix_cmp at n)) refl;
  others = λ n none. f n ∙ kept n none (is_eq (prefix_cmp at n)) refl;
}
  where
    prefix_in : Value → Ipv6Prefix
    prefix_in (Prefix q) = q
    prefix_in v = all_networks

    out : (n : Ipv6Prefix) → GivesNetwork facts n → (b : Bool) → is_eq (prefix_cmp at n) ≡ b
        → (if b then without text_cmp s.id (listed_in i s.kind n) else listed_in i s.kind n) ≡ without text_cmp s.id (listed_in i s.kind n)
    out n w true q = refl
    out n w false q =
        let same : x ≡ w.0 = ap prefix_in (its facts prefix t (Prefix x) (Prefix w.0) shows w.1) in
        let here : at ≡ n = its_network ∙ ap network_of same ∙ w.2 in
        clash _ (network_itself at) (ap (λ (o : Ipv6Prefix). is_eq (prefix_cmp at o)) here ∙ q)

    kept : (n : Ipv6Prefix) → ¬ GivesNetwork facts n → (b : Bool) → is_eq (prefix_cmp at n) ≡ b
        → (if b then without text_cmp s.id (listed_in i s.kind n) else listed_in i s.kind n) ≡ listed_in i s.kind n
    kept n none true q =
        absurd (none (x, sym (ap (option_map (λ (w : Entry). w.1)) shows), sym its_network ∙ same_network at n q))
    kept n none false q = refl

-- under none, where it shows none
pub no_network_forgotten : (i : IndexValue) (s : Session) (facts : List Fact) → None ≡ entry_shown facts prefix → ForgetsNetwork i i s facts
no_network_forgotten i s facts shows = record {
  gone = λ n w. none_some (Prefix w.0) (ap (option_map (λ (e : Entry). e.1)) shows ∙ w.1);
  others = λ n none. refl;
}

-- under the subscribers that a record shows
pub subscribers_of_forgotten : (i j : BySubscriber) (id : List ℕ) (facts : List Fact) (t : Tag) (xs : List Subscriber) → Some (t, Subscribers xs) ≡ entry_shown facts subscribers
    → ForgetsEach i j id xs → ForgetsSubscribers i j id facts
subscribers_of_forgotten i j id facts t xs shows f = record {
  gone = λ x w. f.gone x (subst (λ (us : List Subscriber). In x us) (same w.0 w.1) w.2);
  others = λ x n. f.others x (λ m. n (xs, sym (ap (option_map (λ (w : Entry). w.1)) shows), m));
}
  where
    listed_in : Value → List Subscriber
    listed_in (Subscribers us) = us
    listed_in v = []

    same : (us : List Subscriber) → value_at (entry_shown facts) subscribers ≡ Some (Subscribers us) → us ≡ xs
    same us e = sym (ap listed_in (its facts subscribers t (Subscribers xs) (Subscribers us) shows e))

-- under none, where it shows none
pub no_subscribers_forgotten : (i : BySubscriber) (id : List ℕ) (facts : List Fact) → None ≡ entry_shown facts subscribers → ForgetsSubscribers i i id facts
no_subscribers_forgotten i id facts shows = record {
  gone = λ x w. none_some (Subscribers w.0) (ap (option_map (λ (e : Entry). e.1)) shows ∙ w.1);
  others = λ x n. refl;
}
