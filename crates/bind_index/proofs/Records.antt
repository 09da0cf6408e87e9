-- What an index lists of a state's records, one after another, and what it then covers.
use Rattle.std.proofs.Common.{◌≡◌, ℕ, List, [], ◌∷◌, Some, inl, inr, sym, subst}
use Rattle.std.specs.Net.Addr.{ipv4_octets}
use Rattle.std.specs.declared.net.ipv4_addr.Ipv4Addr.{Ipv4Addr}
use Rattle.pcrf_values.specs.Sets.{In}
use Rattle.pcrf_values.specs.Prefixes.{Ipv6Prefix}
use Rattle.pcrf_values.specs.Facts.{Fact}
use Rattle.pcrf_values.specs.Places.{address, prefix, subscribers}
use Rattle.pcrf_values.specs.Values.{Address, Subscribers, Prefix}
use Rattle.pcrf_model.specs.Holdings.{SessionFact, facts_on}
use Rattle.pcrf_model.specs.Sessions.{Kind, Gx, Af, Session, gx, af}
use Rattle.pcrf_model.specs.Views.{view, value}
use Rattle.site_join.specs.States.{Records}
use Rattle.bind_index.specs.Index.{IndexValue, listed_at, listed_in, Covers, Grows, ListsAddress, ListsPrefix, ListsSubscribers, ListsGateway, ListsCall, ListEach}
use Rattle.bind_index.specs.Networks.{network_of}
use Rattle.bind_index.proofs.Alike.{was_there}
use Rattle.bind_index.proofs.Covering.{grows_through, grows_itself, under_grows}
use Rattle.bind_index.proofs.Entries.{AreRecordsOf, has_record}

-- what is listed of one record stays listed
pub address_grows : (i j : IndexValue) (s : Session) (facts : List Fact) → Grows i j → ListsAddress i s facts → ListsAddress j s facts
address_grows i j s facts g h = record { listed = λ a e. g.addresses s.kind a s.id (h.listed a e) }

pub prefix_grows : (i j : IndexValue) (s : Session) (facts : List Fact) → Grows i j → ListsPrefix i s facts → ListsPrefix j s facts
prefix_grows i j s facts g h = record { listed = λ p e. g.prefixes s.kind (network_of p) s.id (h.listed p e) }

subscribers_grow : (i j : IndexValue) (id : List ℕ) (facts : List Fact) → Grows i j → ListsSubscribers i id facts → ListsSubscribers j id facts
subscribers_grow i j id facts g h = record { listed = λ xs e. under_grows i.subscribed j.subscribed id xs (record { each = g.subscribed }) (h.listed xs e) }

-- of a gateway's session
pub gateway_grows : (i j : IndexValue) (id : List ℕ) (facts : List Fact) → Grows i j → ListsGateway i id facts → ListsGateway j id facts
gateway_grows i j id facts g h = record {
  address = address_grows i j (gx id) facts g h.address;
  prefix = prefix_grows i j (gx id) facts g h.prefix;
  subscribers = subscribers_grow i j id facts g h.subscribers;
}

-- and of a call
pub call_grows : (i j : IndexValue) (id : List ℕ) (facts : List Fact) → Grows i j → ListsCall i id facts → ListsCall j id facts
call_grows i j id facts g h = record { address = address_grows i j (af id) facts g h.address; prefix = prefix_grows i j (af id) facts g h.prefix }

-- once those that are left are listed, in this index or in one that has more, all are
pub record EachLeft (Lists : IndexValue → List ℕ → List Fact → Type 0) (i : IndexValue) (left all : Records) : Type 0 where
  pub whole : (j : IndexValue) → Grows i j → ListEach Lists j left → ListEach Lists j all

module _ (Lists : IndexValue → List ℕ → List Fact → Type 0) where
  -- before the first record was listed
  pub each_left : (i : IndexValue) (es : Records) → EachLeft Lists i es es
  each_left i es = record { whole = λ j g h. h }

  -- after the last
  pub each_listed : (i : IndexValue) (es : Records) → EachLeft Lists i [] es → ListEach Lists i es
  each_listed i es l = l.whole i (grows_itself i) (record { each = λ e m. absurd m })

  module _ (grow : (i j : IndexValue) (id : List ℕ) (facts : List Fact) → Grows i j → Lists i id facts → Lists j id facts) where
    -- those of all records
    pub each_grow : (i j : IndexValue) (es : Records) → Grows i j → ListEach Lists i es → ListEach Lists j es
    each_grow i j es g h = record { each = λ e m. grow i j e.0 e.1 g (h.each e m) }

    -- after one more
    pub each_next : (i j : IndexValue) (e : List ℕ × List Fact) (left all : Records) → EachLeft Lists i (e ∷ left) all → Grows i j → Lists j e.0 e.1 → EachLeft Lists j left all
    each_next i j e left all l g one = record { whole = λ k h rest. l.whole k (grows_through i j k g h) (record { each = λ d m. both k h rest d m }) }
      where
        both : (k : IndexValue) → Grows j k → ListEach Lists k left → (d : List ℕ × List Fact) → In d (e ∷ left) → Lists k d.0 d.1
        both k h rest d (inl q) = subst (λ (x : List ℕ × List Fact). Lists k x.0 x.1) (sym q) (grow j k e.0 e.1 h one)
        both k h rest d (inr n) = rest.each d n

-- ---- what is then covered

module _ (facts : List SessionFact) (gxs afs : Records) (g : AreRecordsOf gx facts gxs) (a : AreRecordsOf af facts afs) (i : IndexValue)
    (of_gateways : ListEach ListsGateway i gxs) (of_calls : ListEach ListsCall i afs) where
  -- each session under its address
  at_address : (k : Kind) (id : List ℕ) (x : Ipv4Addr) → value (view facts) (record { kind = k; id = id }) address ≡ Some (Address (ipv4_octets x)) → In id (listed_at i k x)
  unfolding view
  at_address Gx id x h =
      let w = was_there _ ((view facts).shows (gx id) address) (Address (ipv4_octets x)) h in
      (of_gateways.each (id, facts_on facts (gx id)) (has_record facts gxs g id address w.0 w.1)).address.listed x h
  at_address Af id x h =
      let w = was_there _ ((view facts).shows (af id) address) (Address (ipv4_octets x)) h in
      (of_calls.each (id, facts_on facts (af id)) (has_record facts afs a id address w.0 w.1)).address.listed x h

  -- each with a prefix under its network
  has_prefix : (k : Kind) (id : List ℕ) (p : Ipv6Prefix) → value (view facts) (record { kind = k; id = id }) prefix ≡ Some (Prefix p) → In id (listed_in i k (network_of p))
  unfolding view
  has_prefix Gx id p h =
      let w = was_there _ ((view facts).shows (gx id) prefix) (Prefix p) h in
      (of_gateways.each (id, facts_on facts (gx id)) (has_record facts gxs g id prefix w.0 w.1)).prefix.listed p h
  has_prefix Af id p h =
      let w = was_there _ ((view facts).shows (af id) prefix) (Prefix p) h in
      (of_calls.each (id, facts_on facts (af id)) (has_record facts afs a id prefix w.0 w.1)).prefix.listed p h

  -- and each gateway's session under its subscribers
  pub covers_records : Covers (view facts) i
  unfolding view
  covers_records = record {
    addresses = λ s x h. at_address s.kind s.id x h;
    prefixes = λ s p h. has_prefix s.kind s.id p h;
    subscribed = λ id xs x h m.
        let w = was_there _ ((view facts).shows (gx id) subscribers) (Subscribers xs) h in
        ((of_gateways.each (id, facts_on facts (gx id)) (has_record facts gxs g id subscribers w.0 w.1)).subscribers.listed xs h).each x m;
  }
