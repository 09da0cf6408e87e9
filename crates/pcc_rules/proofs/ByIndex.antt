-- The rules of the calls at a session's address, and of those with a prefix alone, are all rules of flows that it has.
use Rattle.std.proofs.Common.{◌≡◌, ℕ, Bool, true, false, cond, not, List, [], ◌∷◌, ◌++◌, map, Option, Some, None, is_some, option_map, unwrap_or, inl, inr, refl, sym, ap, ◌∙◌, subst}
use Rattle.std.proofs.lemmas.Grind.{flat_map-append}
use Rattle.std.proofs.lemmas.List.{map-append, append_assoc, append-nil}
use Rattle.std.specs.Net.Addr.{ipv4_octets}
use Rattle.std.specs.BTreeMap.{is_at}
use Rattle.std.specs.Map.{lookup}
use Rattle.std.specs.Ordering.{is_eq}
use Rattle.std.specs.declared.net.ipv4_addr.Ipv4Addr.{Ipv4Addr}
use Rattle.pcrf_values.specs.Sets.{In}
use Rattle.pcrf_values.specs.declared.tag.Tag.{Tag}
use Rattle.pcrf_values.proofs.OrderLaws.{eq_is}
use Rattle.pcrf_values.proofs.Plain.{clash, none_some, some_same}
use Rattle.pcrf_values.proofs.SetLaws.{In-cases, In-filter, In-left, In-map, In-right, map-In}
use Rattle.pcrf_values.specs.Prefixes.{Ipv6Prefix, covers, prefix_cmp}
use Rattle.pcrf_values.specs.RuleValues.{RuleValue}
use Rattle.pcrf_values.specs.Facts.{Fact}
use Rattle.pcrf_values.specs.FlowWords.{flows}
use Rattle.pcrf_values.specs.Held.{entry_shown}
use Rattle.pcrf_values.specs.Places.{Place, address, prefix}
use Rattle.pcrf_values.specs.Values.{Value, Address, Entry, Prefix}
use Rattle.pcrf_model.specs.Bindings.{bind, is_bound_to, matches}
use Rattle.pcrf_model.specs.Holdings.{SessionFact, facts_on}
use Rattle.pcrf_model.specs.Sessions.{Af, Session, session_cmp, gx, af}
use Rattle.pcrf_model.specs.Tables.{Tables}
use Rattle.pcrf_model.specs.Views.{View, view, value}
use Rattle.pcrf_model.proofs.BindLaws.{bind-greatest}
use Rattle.pcrf_model.proofs.HoldingLaws.{session_ranked}
use Rattle.pcrf_model.proofs.NeighbourLaws.{shows_a_prefix, shows_the_address}
use Rattle.bind_index.specs.Lists.{ids_at, ids_or_none}
use Rattle.bind_index.specs.Index.{ByNetwork, IndexValue, Covers, listed_at, listed_in}
use Rattle.bind_index.specs.Networks.{network_of, spans_networks}
use Rattle.bind_index.proofs.Indexed.{prefixes_met}
use Rattle.bind_index.proofs.CoveredNetworks.{one_network}
use Rattle.pcc_rules.specs.FlowsAlone.{AreLow, AreLowWhereBound, rules_of_flows, rules_of_sessions}
use Rattle.pcc_rules.specs.Listed.{AddsCalled, AddsRules, record_of, records_of}
use Rattle.pcc_rules.specs.Listing.{keyed}
use Rattle.pcc_rules.proofs.SoFar.{Keyed, SessionsSoFar}
use Rattle.pcc_rules.specs.Calls.{AddsBound, all_ids, has_address, without_address}

-- ---- session by session

module _ (t : Tables) (v : View) (s : Session) where
  -- to the rules found nothing is added
  pub none_added : (found : Keyed) → AddsRules t v s found found []
  none_added found = record { items = sym (append-nil found); low = tt }

  -- of a session that is bound all are added
  pub one_added : (e : List ℕ × List Fact) (before now : Keyed) → is_bound_to v s (af e.0) ≡ true → now ≡ before ++ map keyed (rules_of_flows t e.0 e.1) → AreLow (flows e.1)
      → AddsRules t v s before now (e ∷ [])
  one_added e before now b added low = record {
    items =
        added
        ∙ ap (λ (xs : List RuleValue). before ++ map keyed xs) (sym (append-nil (rules_of_flows t e.0 e.1)))
        ∙ ap (λ (y : Bool). before ++ map keyed (cond y (rules_of_flows t e.0 e.1) [] ++ [])) (sym b);
    low = (λ _. low, tt);
  }

  -- and of one that isn't none
  pub one_passed : (e : List ℕ × List Fact) (found : Keyed) → is_bound_to v s (af e.0) ≡ false → AddsRules t v s found found (e ∷ [])
  one_passed e found b = record {
    items = sym (append-nil found) ∙ ap (λ (y : Bool). found ++ map keyed (cond y (rules_of_flows t e.0 e.1) [] ++ [])) (sym b);
    low = (λ y. clash _ y b, tt);
  }

  -- what is low where bound among some and among others is so among both
  both_low : (es ds : List (List ℕ × List Fact)) → AreLowWhereBound v s es → AreLowWhereBound v s ds → AreLowWhereBound v s (es ++ ds)
  both_low [] ds h k = k
  both_low (e ∷ es) ds h k = (h.0, both_low es ds h.1 k)

  -- the rules of some and then of others are those of both
  both_items : (es ds : List (List ℕ × List Fact)) (before : Keyed)
      → (before ++ map keyed (rules_of_sessions t v s es)) ++ map keyed (rules_of_sessions t v s ds) ≡ before ++ map keyed (rules_of_sessions t v s (es ++ ds))
  both_items es ds before =
      append_assoc before (map keyed (rules_of_sessions t v s es)) (map keyed (rules_of_sessions t v s ds))
      ∙ ap (λ (xs : Keyed). before ++ xs) (sym (map-append keyed (rules_of_sessions t v s es) (rules_of_sessions t v s ds)))
      ∙ ap (λ (xs : List RuleValue). before ++ map keyed xs) (sym (flat_map-append (λ (e : List ℕ × List Fact). cond (is_bound_to v s (af e.0)) (rules_of_flows t e.0 e.1) []) es ds))

  -- so they are added
  pub both_added : (es ds : List (List ℕ × List Fact)) (before between now : Keyed) → AddsRules t v s before between es → AddsRules t v s between now ds → AddsRules t v s before now (es ++ ds)
  both_added es ds before between now h k = record {
    items = k.items ∙ ap (λ (xs : Keyed). xs ++ map keyed (rules_of_sessions t v s ds)) h.items ∙ both_items es ds before;
    low = both_low es ds h.low k.low;
  }

  -- and after those of some the rules go on with those of the others
  pub some_added : (all_before before now : Keyed) (es ds all : List (List ℕ × List Fact)) → AddsRules t v s before now es
      → SessionsSoFar t v s all_before before (es ++ ds) all → SessionsSoFar t v s all_before now ds all
  some_added all_before before now es ds all some h = record {
    items = ap (λ (xs : Keyed). xs ++ map keyed (rules_of_sessions t v s ds)) some.items ∙ both_items es ds before ∙ h.items;
    low = λ l. h.low (both_low es ds some.low l);
  }

  -- so after those of one
  pub next_added : (all_before before now : Keyed) (e : List ℕ × List Fact) (es all : List (List ℕ × List Fact)) → AddsRules t v s before now (e ∷ [])
      → SessionsSoFar t v s all_before before (e ∷ es) all → SessionsSoFar t v s all_before now es all
  next_added all_before before now e es all one h = record {
    items = ap (λ (xs : Keyed). xs ++ map keyed (rules_of_sessions t v s es)) one.items ∙ both_items (e ∷ []) es before ∙ h.items;
    low = λ l. h.low (one.low.0, l);
  }

  -- at the end all were added
  pub all_added : (before now : Keyed) (all : List (List ℕ × List Fact)) → SessionsSoFar t v s before now [] all → AddsRules t v s before now all
  all_added before now all h = record { items = sym (append-nil now) ∙ h.items; low = h.low tt }

-- ---- calls without an address

module _ (t : Tables) (facts : List SessionFact) (s : Session) (all_before before now : Keyed) (id : List ℕ) (ids all : List (List ℕ)) where
  -- one that shows an address is passed over
  pub addressed_next : has_address facts id ≡ true → SessionsSoFar t (view facts) s all_before before (records_of facts (without_address facts (id ∷ ids))) (records_of facts all)
      → SessionsSoFar t (view facts) s all_before before (records_of facts (without_address facts ids)) (records_of facts all)
  addressed_next a h =
      subst (λ (b : Bool). SessionsSoFar t (view facts) s all_before before (records_of facts (cond (not b) (id ∷ without_address facts ids) (without_address facts ids))) (records_of facts all)) a h

  -- one that shows none isn't
  pub unaddressed_next : has_address facts id ≡ false → AddsRules t (view facts) s before now (records_of facts (id ∷ []))
      → SessionsSoFar t (view facts) s all_before before (records_of facts (without_address facts (id ∷ ids))) (records_of facts all)
      → SessionsSoFar t (view facts) s all_before now (records_of facts (without_address facts ids)) (records_of facts all)
  unaddressed_next a one h =
      next_added t (view facts) s all_before before now (record_of facts id) (records_of facts (without_address facts ids)) (records_of facts all) one
      (subst (λ (b : Bool). SessionsSoFar t (view facts) s all_before before (records_of facts (cond (not b) (id ∷ without_address facts ids) (without_address facts ids))) (records_of facts all)) a h)

-- the calls without an address among some and among others are those among both
unaddressed_both : (facts : List SessionFact) (xs ys : List (List ℕ)) → without_address facts (xs ++ ys) ≡ without_address facts xs ++ without_address facts ys
unaddressed_both facts [] ys = refl
unaddressed_both facts (x ∷ xs) ys = by (has_address facts x) (unaddressed_both facts xs ys)
  where
    by : (b : Bool) → without_address facts (xs ++ ys) ≡ without_address facts xs ++ without_address facts ys
        → cond (not b) (x ∷ without_address facts (xs ++ ys)) (without_address facts (xs ++ ys))
        ≡ cond (not b) (x ∷ without_address facts xs) (without_address facts xs) ++ without_address facts ys
    by true rest = rest
    by false rest = ap (λ (l : List (List ℕ)). x ∷ l) rest

-- after the calls of one more network the rules go on with those of the others
pub network_added : (t : Tables) (facts : List SessionFact) (s : Session) (all_before before now : Keyed) (ids left all : List (List ℕ))
    → AddsRules t (view facts) s before now (records_of facts (without_address facts ids))
    → SessionsSoFar t (view facts) s all_before before (records_of facts (without_address facts (ids ++ left))) (records_of facts all)
    → SessionsSoFar t (view facts) s all_before now (records_of facts (without_address facts left)) (records_of facts all)
network_added t facts s all_before before now ids left all one h =
    some_added t (view facts) s all_before before now (records_of facts (without_address facts ids)) (records_of facts (without_address facts left)) (records_of facts all) one
    (subst (λ (es : List (List ℕ × List Fact)). SessionsSoFar t (view facts) s all_before before es (records_of facts all))
    (ap (records_of facts) (unaddressed_both facts ids left) ∙ map-append (record_of facts) (without_address facts ids) (without_address facts left)) h)

-- ---- networks

-- what is listed under a network is among those of all
in_all : (lists : ByNetwork) (n : Ipv6Prefix) (id : List ℕ) → In id (ids_at prefix_cmp lists n) → In id (all_ids lists)
in_all [] n id m = absurd m
in_all (e ∷ es) n id m = by (is_eq (prefix_cmp n e.0)) (in_all es n id) m
  where
    by : (b : Bool) → (In id (ids_at prefix_cmp es n) → In id (all_ids es)) → In id (ids_or_none (cond b (Some e.1) (lookup (is_at (prefix_cmp n)) es))) → In id (e.1 ++ all_ids es)
    by true rest k = In-left id e.1 (all_ids es) k
    by false rest k = In-right id e.1 (all_ids es) (rest k)

-- ---- sessions that are bound

-- the session that is shown
is_one : (s : Session) (o : Option Session) → unwrap_or (option_map (λ x. is_eq (session_cmp x s)) o) false ≡ true → o ≡ Some s
is_one s None h = clash false h refl
is_one s (Some z) h = ap Some (eq_is session_ranked z s h)

-- the value of an entry
abbrev value_of : Option Entry → Option Value
value_of = option_map (λ (e : Entry). e.1)

-- an entry that shows has a value
shown_value : (o : Option Entry) → is_some o ≡ true → (x : Value) × (value_of o ≡ Some x)
shown_value None h = clash false h refl
shown_value (Some e) h = (e.1, refl)

-- and one that doesn't has none
no_value : (o : Option Entry) → is_some o ≡ false → value_of o ≡ None
no_value None h = refl
no_value (Some e) h = clash true refl h

module _ (t : Tables) (facts : List SessionFact) (id : List ℕ) (known : List Fact) (its : known ≡ facts_on facts (gx id)) where
  -- what is read of the facts
  abbrev v : View
  v = view facts

  -- what a session's record says
  own_value : (p : Place) → value_of (entry_shown known p) ≡ value v (gx id) p
  unfolding view
  own_value p = ap (λ (fs : List Fact). value_of (entry_shown fs p)) its

  -- what is bound to it matches
  bound_fits : (a : List ℕ) → is_bound_to v (gx id) (af a) ≡ true → matches v (af a) (gx id) ≡ true
  bound_fits a b = ((bind-greatest facts (af a) (gx id)).0 (is_one (gx id) (bind v (af a)) b)).fits

  -- a call that shows an address
  call_shows : (a : List ℕ) → has_address facts a ≡ true → (x : Value) × (value v (af a) address ≡ Some x)
  unfolding view
  call_shows a h = shown_value (entry_shown (facts_on facts (af a)) address) h

  -- or shows none
  call_shows_none : (a : List ℕ) → has_address facts a ≡ false → value v (af a) address ≡ None
  unfolding view
  call_shows_none a h = no_value (entry_shown (facts_on facts (af a)) address) h

  -- where it is bound the session shows the same address
  same_address : (a : List ℕ) → is_bound_to v (gx id) (af a) ≡ true → has_address facts a ≡ true
      → (x : Value) × (value v (af a) address ≡ Some x) × (value_of (entry_shown known address) ≡ Some x)
  same_address a b h =
      let w = call_shows a h in
      (w.0, w.1, own_value address ∙ shows_the_address v (af a) (gx id) (bound_fits a b) w.0 w.1)

  -- without an address it has no calls that show one
  pub no_address : (found : Keyed) → entry_shown known address ≡ None → AddsBound true t facts (gx id) found found
  no_address found none = record {
    among = [];
    own = λ e i. absurd i;
    has = λ a b h. let w = same_address a b h in none_some w.0 (sym (ap value_of none) ∙ w.2);
    adds = none_added t v (gx id) found;
  }

  -- and without a prefix none that don't
  pub no_prefix : (found : Keyed) → entry_shown known prefix ≡ None → AddsBound false t facts (gx id) found found
  no_prefix found none = record {
    among = [];
    own = λ e i. absurd i;
    has = λ a b h.
        let w = shows_a_prefix v (af a) (gx id) (bound_fits a b) (call_shows_none a h) in
        none_some w.0 (sym (ap value_of none) ∙ own_value prefix ∙ w.1);
    adds = none_added t v (gx id) found;
  }

  -- each of these records is that of its session
  own_records : (ids : List (List ℕ)) (e : List ℕ × List Fact) → In e (records_of facts ids) → facts_on facts (af e.0) ≡ e.1
  own_records ids e m =
      let w = map-In (record_of facts) e ids m in
      ap (λ (z : List ℕ × List Fact). facts_on facts (af z.0)) w.2 ∙ sym (ap (λ (z : List ℕ × List Fact). z.1) w.2)

  -- the rules of calls that show an address and of those that show none are the rules of all
  pub all_called : (before between now : Keyed) → AddsBound true t facts (gx id) before between → AddsBound false t facts (gx id) between now → AddsCalled t facts (gx id) before now
  all_called before between now h k = record {
    among = h.among ++ k.among;
    bound = record {
      own = λ e m. elim (In-cases e h.among k.among m) [ inl i ↦ h.own e i | inr i ↦ k.own e i ];
      has = λ a p x b shows. among a b (has_address facts a) refl;
    };
    adds = both_added t v (gx id) h.among k.among before between now h.adds k.adds;
  }
    where
      among : (a : List ℕ) → is_bound_to v (gx id) (af a) ≡ true → (y : Bool) → has_address facts a ≡ y → In (a, facts_on facts (af a)) (h.among ++ k.among)
      among a b true e = In-left _ h.among k.among (h.has a b e)
      among a b false e = In-right _ h.among k.among (k.has a b e)

  module _ (i : IndexValue) (all : Covers v i) where
    module _ (tag : Tag) (at : Ipv4Addr) (shows : Some (tag, Address (ipv4_octets at)) ≡ entry_shown known address) where
      -- a call that is bound and shows an address is listed under it
      listed : (a : List ℕ) → is_bound_to v (gx id) (af a) ≡ true → has_address facts a ≡ true → In a (listed_at i Af at)
      listed a b h =
          let w = same_address a b h in
          let own : w.0 ≡ Address (ipv4_octets at) = some_same _ _ (sym w.2 ∙ sym (ap value_of shows)) in
          all.addresses (af a) at (w.1 ∙ ap Some own)

      -- so the rules of those that are listed there are the rules of all such
      pub listed_added : (ids : List (List ℕ)) (before now : Keyed) → ids ≡ listed_at i Af at → AddsRules t v (gx id) before now (records_of facts ids) → AddsBound true t facts (gx id) before now
      listed_added ids before now are h = record {
        among = records_of facts ids;
        own = own_records ids;
        has = λ a b e. In-map (record_of facts) a ids (subst (λ (l : List (List ℕ)). In a l) (sym are) (listed a b e));
        adds = h;
      }

      -- none where none is listed
      pub none_listed : (found : Keyed) → [] ≡ listed_at i Af at → AddsBound true t facts (gx id) found found
      none_listed found none = listed_added [] found found none (none_added t v (gx id) found)

    -- the rules of those of some calls that show no address are those of all such, where all that are bound are among them
    pub unaddressed_added : (ids : List (List ℕ)) (before now : Keyed) → ((a : List ℕ) → is_bound_to v (gx id) (af a) ≡ true → has_address facts a ≡ false → In a ids)
        → AddsRules t v (gx id) before now (records_of facts (without_address facts ids)) → AddsBound false t facts (gx id) before now
    unaddressed_added ids before now are h = record {
      among = records_of facts (without_address facts ids);
      own = own_records (without_address facts ids);
      has = λ a b e.
          In-map (record_of facts) a (without_address facts ids) (In-filter (λ (x : List ℕ). not (has_address facts x)) a ids (are a b e) (ap not e));
      adds = h;
    }

    -- a call that is bound and shows no address is listed under a network
    in_networks : (a : List ℕ) → is_bound_to v (gx id) (af a) ≡ true → has_address facts a ≡ false → In a (all_ids i.call_networks)
    in_networks a b h =
        let w = prefixes_met v (af a) (gx id) (bound_fits a b) (call_shows_none a h) in
        in_all i.call_networks (network_of w.asked) a (all.prefixes (af a) w.asked w.asks)

    -- so the rules of those of all networks are the rules of all such
    pub all_networks_added : (before now : Keyed) → AddsRules t v (gx id) before now (records_of facts (without_address facts (all_ids i.call_networks)))
        → AddsBound false t facts (gx id) before now
    all_networks_added before now h = unaddressed_added (all_ids i.call_networks) before now in_networks h

    module _ (tag : Tag) (p : Ipv6Prefix) (shows : Some (tag, Prefix p) ≡ entry_shown known prefix) (one : spans_networks p ≡ false) where
      -- where the session's prefix is of one network, it is listed under that
      in_network : (a : List ℕ) → is_bound_to v (gx id) (af a) ≡ true → has_address facts a ≡ false → In a (listed_in i Af (network_of p))
      in_network a b h =
          let w = prefixes_met v (af a) (gx id) (bound_fits a b) (call_shows_none a h) in
          let same : w.shown ≡ p = ap prefix_in (some_same (Prefix w.shown) (Prefix p) (sym w.shows ∙ sym (own_value prefix) ∙ sym (ap value_of shows))) in
          let met : network_of p ≡ network_of w.asked = one_network p w.asked (subst (λ (q : Ipv6Prefix). covers q w.asked ≡ true) same w.covered) one in
          subst (λ (n : Ipv6Prefix). In a (listed_in i Af n)) (sym met) (all.prefixes (af a) w.asked w.asks)
        where
          prefix_in : Value → Ipv6Prefix
          prefix_in (Prefix q) = q
          prefix_in x = (0, [])

      -- so the rules of those that are listed there are the rules of all such
      pub network_bound : (n : Ipv6Prefix) (ids : List (List ℕ)) (before now : Keyed) → n ≡ network_of p → ids ≡ listed_in i Af n
          → AddsRules t v (gx id) before now (records_of facts (without_address facts ids)) → AddsBound false t facts (gx id) before now
      network_bound n ids before now its_network are h = unaddressed_added ids before now
          (λ a b e. subst (λ (l : List (List ℕ)). In a l) (sym (are ∙ ap (listed_in i Af) its_network)) (in_network a b e)) h

      -- none where there are none
      pub none_bound : (n : Ipv6Prefix) (found : Keyed) → n ≡ network_of p → [] ≡ listed_in i Af n → AddsBound false t facts (gx id) found found
      none_bound n found its_network none = network_bound n [] found found its_network none (none_added t v (gx id) found)
