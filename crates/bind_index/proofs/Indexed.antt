-- The binding is the greatest match among the sessions that an index lists.
use Rattle.std.proofs.Common.{◌≡◌, ℕ, Bool, true, false, List, [], ◌∷◌, ◌++◌, Option, Some, None, ◌⊎◌, inl, inr, refl, sym, ap, ◌∙◌, subst, option_map, if◌then◌else◌}
use Rattle.std.proofs.lemmas.List.Elements.{filter_map-append}
use Rattle.std.specs.List.{cons_option, filter_map}
use Rattle.std.specs.Net.Addr.{ipv4_octets}
use Rattle.std.specs.declared.net.ipv4_addr.Ipv4Addr.{Ipv4Addr}
use Rattle.std.specs.Ordering.{is_lt}
use Rattle.pcrf_values.specs.Sets.{In, best, greatest}
use Rattle.pcrf_values.specs.declared.tag.Tag.{Tag}
use Rattle.pcrf_values.proofs.Plain.{clash, none_some, some_same, came_from}
use Rattle.pcrf_values.proofs.SetLaws.{In-filter_map, In-left, In-right, filter_map-In, greatest-Same}
use Rattle.pcrf_values.specs.Prefixes.{Ipv6Prefix, covers}
use Rattle.pcrf_values.specs.Facts.{Fact}
use Rattle.pcrf_values.specs.Held.{entry_shown}
use Rattle.pcrf_values.specs.Places.{Place, address, prefix}
use Rattle.pcrf_values.specs.Values.{Value, Address, Prefix, Entry}
use Rattle.pcrf_model.specs.Bindings.{Candidate, candidate_cmp, candidate, is_covered, matches, standing, bind}
use Rattle.pcrf_model.specs.Holdings.{SessionFact, facts_on}
use Rattle.pcrf_model.specs.Sessions.{Gx, Session, gx, af}
use Rattle.pcrf_model.specs.Views.{View, view, value}
use Rattle.pcrf_model.proofs.BindLaws.{candidate_ranked, matched, of_gx, live_asking, gx_is}
use Rattle.pcrf_model.proofs.NeighbourLaws.{how_they_meet, live_by_prefix}
use Rattle.bind_index.specs.Index.{IndexValue, Covers, AreAskedFor, IsFoundFor, IsFoundIn, listed_at, listed_in, matches_listed}
use Rattle.bind_index.specs.Networks.{all_networks, network_of, spans_networks}
use Rattle.bind_index.proofs.CoveredNetworks.{covers_in_its_network}
use Rattle.bind_index.specs.Matches.{best_from, match_of}
use Rattle.bind_index.proofs.Alike.{HasRecord, of_gateway, candidate_known, match_is}

-- the value of an entry
abbrev value_of : Option Entry → Option Value
value_of = option_map (λ (e : Entry). e.1)

-- one that matches is the first of the matches from it on
pub more_listed : (asking : List Fact) (facts : List SessionFact) (id : List ℕ) (rest : List (List ℕ)) (m : Candidate) → Some m ≡ match_of asking id (facts_on facts (gx id))
    → m ∷ matches_listed asking facts rest ≡ matches_listed asking facts (id ∷ rest)
more_listed asking facts id rest m h = ap (λ (o : Option Candidate). cons_option o (matches_listed asking facts rest)) h

-- ---- prefixes that meet

-- the prefix that a session asks for, and the one that a match shows
pub record PrefixesMet (v : View) (a s : Session) : Type 0 where
  pub asked : Ipv6Prefix
  pub shown : Ipv6Prefix
  pub asks : value v a prefix ≡ Some (Prefix asked)
  pub shows : value v s prefix ≡ Some (Prefix shown)
  pub covered : covers shown asked ≡ true

-- where no address is asked for, a match shows a prefix for the one that is asked for
pub prefixes_met : (v : View) (a s : Session) → matches v a s ≡ true → value v a address ≡ None → PrefixesMet v a s
prefixes_met v a s m none =
    let w = live_by_prefix v a (live_asking v a s m) none in
    let c = both (value v a prefix) (value v s prefix) w.0 w.1 (matched v a s m).at_prefix in
    record { asked = c.0; shown = c.1; asks = c.2; shows = c.3; covered = c.4 }
  where
    both : (o r : Option Value) (x : Value) → o ≡ Some x → is_covered o r ≡ true
        → (p : Ipv6Prefix) × (q : Ipv6Prefix) × (o ≡ Some (Prefix p)) × (r ≡ Some (Prefix q)) × (covers q p ≡ true)
    both None r x h c = none_some x h
    both (Some (Prefix p)) (Some (Prefix q)) x h c = (p, q, refl, refl, c)
    both (Some y) r x h c = clash false c refl

-- ---- the sessions that are listed

module _ (first : List SessionFact) (asked : List Fact) (facts : List SessionFact) (a : List ℕ) (w : HasRecord first asked facts a) where
  -- what is read of the facts that have the record
  abbrev v : View
  v = view facts

  -- how the code picks candidates
  abbrev listed : List ℕ → Option Candidate
  listed id = match_of asked id (facts_on first (gx id))

  module _ (ids : List (List ℕ)) (covered : (s : Session) → matches v (af a) s ≡ true → In s.id ids) where
    -- each candidate is listed
    forth : (c : Candidate) → In c (filter_map (candidate v (af a)) v.sessions) → In c (filter_map listed ids)
    forth c i =
        let s = filter_map-In (candidate v (af a)) c v.sessions i in
        let fits : matches v (af a) s.0 ≡ true = (came_from (matches v (af a) s.0) (standing v s.0) c s.2).0 in
        In-filter_map listed s.0.id c ids (covered s.0 fits) (match_is first asked facts a w s.0.id ∙ ap (candidate v (af a)) (of_gateway v (af a) s.0 c s.2) ∙ s.2)

    -- and each that is listed and matches a candidate
    back : (c : Candidate) → In c (filter_map listed ids) → In c (filter_map (candidate v (af a)) v.sessions)
    back c i =
        let l = filter_map-In listed c ids i in
        let stands : candidate v (af a) (gx l.0) ≡ Some c = sym (match_is first asked facts a w l.0) ∙ l.2 in
        In-filter_map (candidate v (af a)) (gx l.0) c v.sessions (candidate_known facts (af a) (gx l.0) c stands) stands

    -- so the greatest of both is the same
    greatest_is_bound : option_map (λ (c : Candidate). gx c.1.1) (greatest candidate_cmp (matches_listed asked first ids)) ≡ bind v (af a)
    unfolding bind
    greatest_is_bound = ap (option_map (λ (c : Candidate). gx c.1.1))
        (greatest-Same candidate_cmp candidate_ranked.total candidate_ranked.same (filter_map (candidate v (af a)) v.sessions) (filter_map listed ids) (λ c. (forth c, back c)))

  -- what the record says is what the view says
  says : (p : Place) → value_of (entry_shown asked p) ≡ value v (af a) p
  unfolding view
  says p = ap value_of (w.own.shows p)

  -- each gateway's session says the same by both facts
  gateways_alike : (id : List ℕ) (p : Place) → value (view first) (gx id) p ≡ value v (gx id) p
  unfolding view
  gateways_alike id p = ap value_of ((w.gateways id).shows p)

  module _ (i : IndexValue) (all : Covers (view first) i) (ids : List (List ℕ)) (are : AreAskedFor i asked ids) (s : Session) (m : matches v (af a) s ≡ true) where
    -- what a session that matches shows it shows by the first facts
    there : (p : Place) (x : Value) → value v s p ≡ Some x → value (view first) (gx s.id) p ≡ Some x
    there p x h =
        let named : gx s.id ≡ s = gx_is s s.kind refl (of_gx v (af a) s m) in
        gateways_alike s.id p ∙ ap (λ (r : Session). value v r p) named ∙ h

    -- by an address it is listed under it
    by_address : (x : Value) → value v (af a) address ≡ Some x → value v s address ≡ Some x → In s.id ids
    by_address x h k =
        let b = are.by_address x (says address ∙ h) in
        subst (λ (l : List (List ℕ)). In s.id l) (sym b.2) (all.addresses (gx s.id) b.0 (there address x k ∙ ap Some b.1))

    -- by a prefix alone it is among those of its network, or among those that span networks
    by_prefix : value v (af a) address ≡ None → In s.id ids
    by_prefix none =
        let p = prefixes_met v (af a) s m none in
        let here : In s.id (listed_in i Gx (network_of p.shown)) = all.prefixes (gx s.id) p.shown (there prefix (Prefix p.shown) p.shows) in
        are.by_prefix p.asked (says address ∙ none) (says prefix ∙ p.asks) s.id (elim (covers_in_its_network p.shown p.asked p.covered) [
          | inl e ↦ inl (subst (λ (n : Ipv6Prefix). In s.id (listed_in i Gx n)) e here)
          | inr e ↦ inr (subst (λ (n : Ipv6Prefix). In s.id (listed_in i Gx n)) e here)
        ])

    -- so it is among those that are asked for
    is_listed : In s.id ids
    is_listed = elim (how_they_meet v (af a) s m) [ inl x ↦ by_address x.0 x.1 x.2 | inr x ↦ by_prefix x.0 ]

  -- the session is bound to the greatest of the matches among those that are asked for
  pub listed_is_bound : (i : IndexValue) (found : Option Candidate) → Covers (view first) i → IsFoundFor i asked first found
      → option_map (λ (c : Candidate). gx c.1.1) found ≡ bind v (af a)
  listed_is_bound i found all f = ap (option_map (λ (c : Candidate). gx c.1.1)) f.is ∙ greatest_is_bound f.ids (λ s m. is_listed i all f.ids f.are s m)

-- ---- the greatest of two lists

-- the best of the first and then of the second is the best of both
best_of_both : (below : Candidate → Candidate → Bool) (c : Candidate) (xs ys : List Candidate) → best below (best below c xs) ys ≡ best below c (xs ++ ys)
best_of_both below c [] ys = refl
best_of_both below c (x ∷ xs) ys = best_of_both below (if below c x then x else c) xs ys

-- so with the greatest
greatest_of_both : (xs ys : List Candidate) → best_from (greatest candidate_cmp xs) ys ≡ greatest candidate_cmp (xs ++ ys)
greatest_of_both [] ys = refl
greatest_of_both (x ∷ xs) ys = ap Some (best_of_both (λ m n. is_lt (candidate_cmp m n)) x xs ys)

-- of none that follow the best is the best so far
pub best_of_none : (o : Option Candidate) → o ≡ best_from o []
best_of_none None = refl
best_of_none (Some c) = refl

module _ (i : IndexValue) (asking : List Fact) (facts : List SessionFact) where
  -- the greatest among those that span networks, where these are all
  pub found_in_all : (n : Ipv6Prefix) (ids : List (List ℕ)) (found : Option Candidate) → n ≡ all_networks → ids ≡ listed_in i Gx all_networks
      → found ≡ greatest candidate_cmp (matches_listed asking facts ids) → IsFoundIn i n asking facts found
  found_in_all n ids found all are is = record { ids = ids; has = by; is = is }
    where
      by : (id : List ℕ) → In id (listed_in i Gx all_networks) ⊎ In id (listed_in i Gx n) → In id ids
      by id (inl m) = subst (λ (l : List (List ℕ)). In id l) (sym are) m
      by id (inr m) = subst (λ (l : List (List ℕ)). In id l) (sym are) (subst (λ (k : Ipv6Prefix). In id (listed_in i Gx k)) all m)

  -- and then among those of the network
  pub found_in_both : (n : Ipv6Prefix) (xs ys : List (List ℕ)) (so_far found : Option Candidate) → xs ≡ listed_in i Gx all_networks → ys ≡ listed_in i Gx n
      → so_far ≡ greatest candidate_cmp (matches_listed asking facts xs) → found ≡ best_from so_far (matches_listed asking facts ys) → IsFoundIn i n asking facts found
  found_in_both n xs ys so_far found of_all of_one was is = record {
    ids = xs ++ ys;
    has = by;
    is =
        is
        ∙ ap (λ (o : Option Candidate). best_from o (matches_listed asking facts ys)) was
        ∙ greatest_of_both (matches_listed asking facts xs) (matches_listed asking facts ys)
        ∙ sym (ap (greatest candidate_cmp) (filter_map-append (λ (id : List ℕ). match_of asking id (facts_on facts (gx id))) xs ys));
  }
    where
      by : (id : List ℕ) → In id (listed_in i Gx all_networks) ⊎ In id (listed_in i Gx n) → In id (xs ++ ys)
      by id (inl m) = In-left id xs ys (subst (λ (l : List (List ℕ)). In id l) (sym of_all) m)
      by id (inr m) = In-right id xs ys (subst (λ (l : List (List ℕ)). In id l) (sym of_one) m)

  -- by the address that is asked for
  pub found_by_address : (t : Tag) (at : Ipv4Addr) (ids : List (List ℕ)) (found : Option Candidate) → Some (t, Address (ipv4_octets at)) ≡ entry_shown asking address
      → ids ≡ listed_at i Gx at → found ≡ greatest candidate_cmp (matches_listed asking facts ids) → IsFoundFor i asking facts found
  found_by_address t at ids found shows are is = record {
    ids = ids;
    are = record {
      by_address = λ x e. (at, some_same x (Address (ipv4_octets at)) (sym e ∙ sym (ap value_of shows)), are);
      by_prefix = λ p none e id m. none_some (Address (ipv4_octets at)) (sym none ∙ sym (ap value_of shows));
    };
    is = is;
  }

  -- by the prefix where no address is
  pub found_by_prefix : (t : Tag) (p : Ipv6Prefix) (found : Option Candidate) → None ≡ entry_shown asking address → Some (t, Prefix p) ≡ entry_shown asking prefix
      → IsFoundIn i (network_of p) asking facts found → IsFoundFor i asking facts found
  found_by_prefix t p found none shows f = record {
    ids = f.ids;
    are = record {
      by_address = λ x e. none_some x (ap value_of none ∙ e);
      by_prefix = λ q _ e id m. f.has id (elim m [
        | inl k ↦ inl k
        | inr k ↦ inr (subst (λ (o : Ipv6Prefix). In id (listed_in i Gx (network_of o))) (same q e) k)
      ]);
    };
    is = f.is;
  }
    where
      prefix_in : Value → Ipv6Prefix
      prefix_in (Prefix q) = q
      prefix_in v = all_networks

      same : (q : Ipv6Prefix) → value_of (entry_shown asking prefix) ≡ Some (Prefix q) → q ≡ p
      same q e = ap prefix_in (some_same (Prefix q) (Prefix p) (sym e ∙ sym (ap value_of shows)))

  -- where neither is asked for none is found
  pub found_by_none : None ≡ entry_shown asking address → None ≡ entry_shown asking prefix → IsFoundFor i asking facts None
  found_by_none none no_prefix = record {
    ids = [];
    are = record {
      by_address = λ x e. none_some x (ap value_of none ∙ e);
      by_prefix = λ q _ e id m. none_some (Prefix q) (ap value_of no_prefix ∙ e);
    };
    is = refl;
  }
