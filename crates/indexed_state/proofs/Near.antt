-- Which gateways' sessions are near where a user is reached, and what of them is stale and waits.
use Rattle.std.proofs.Common.{◌≡◌, ℕ, Bool, true, false, ◌||◌, List, [], ◌⊎◌, Option, Some, None, inl, inr, refl, sym, ap, ◌∙◌, subst, option_map}
use Rattle.std.specs.List.{list_any}
use Rattle.std.specs.Ordering.{is_eq}
use Rattle.std.specs.declared.net.ipv4_addr.Ipv4Addr.{Ipv4Addr}
use Rattle.pcrf_values.specs.Orders.{text_cmp}
use Rattle.pcrf_values.specs.Sets.{In}
use Rattle.pcrf_values.proofs.OrderLaws.{text_ranked, eq_is, eq_itself}
use Rattle.pcrf_values.proofs.Plain.{clash, none_some, some_same}
use Rattle.pcrf_values.proofs.SetLaws.{In-any, any-In}
use Rattle.pcrf_values.specs.Prefixes.{Ipv6Prefix}
use Rattle.pcrf_values.specs.RuleValues.{RuleValue}
use Rattle.pcrf_values.specs.Values.{Value, Prefix}
use Rattle.pcrf_model.specs.Sessions.{Gx, Session, gx}
use Rattle.pcrf_model.specs.Views.{View}
use Rattle.bind_index.specs.Forgetting.{ShowsNetwork}
use Rattle.bind_index.specs.Index.{IndexValue, listed_at, listed_in}
use Rattle.bind_index.specs.Networks.{all_networks, network_of}
use Rattle.pcc_rules.specs.Cached.{RulesValue, cached_at, AreStale}
use Rattle.rule_delta.specs.Abandoned.{ListedCallsWait}
use Rattle.rule_delta.specs.Waits.{WaitingValue, Keeps, ListedWait, NetworkWaits, WaitsIfDue}
use Rattle.rule_delta.proofs.Waited.{keeps_through, waits_on}
use Rattle.indexed_state.specs.Indexed.{IsNear, IsPrefixOf, IsUnsettled, TouchesAt, TouchesBy, Unsettled, WaitsBy}
use Rattle.indexed_state.specs.declared.reached.Reached.{Reached}
use Rattle.indexed_state.proofs.Reading.{mapped}

-- the prefix of a value
abbrev prefix_in : Value → Ipv6Prefix
prefix_in (Prefix p) = p
prefix_in v = (0, [])

-- the prefix that is shown is that of the code
pub shown_prefix : (o : Option Ipv6Prefix) (p : Ipv6Prefix) → option_map Prefix o ≡ Some (Prefix p) → o ≡ Some p
shown_prefix o p h = let m = mapped Prefix o (Prefix p) h in m.1 ∙ ap Some (ap prefix_in m.2)

-- where what is shown isn't of the network, no prefix of it is
pub not_in : (v : View) (s : Session) (after : Option Ipv6Prefix) (n : Ipv6Prefix) → IsPrefixOf v s after → ((p : Ipv6Prefix) → after ≡ Some p → network_of p ≡ n → ⊥) → ¬ ShowsNetwork v s n
not_in v s after n is other w = other w.0 (shown_prefix after w.0 (is ∙ w.1)) w.2

-- a Session-Id is among others, or it isn't
among_or_not : (x : List ℕ) (xs : List (List ℕ)) → In x xs ⊎ ¬ In x xs
among_or_not x xs = by (list_any (λ y. is_eq (text_cmp x y)) xs) refl
  where
    by : (b : Bool) → list_any (λ y. is_eq (text_cmp x y)) xs ≡ b → In x xs ⊎ ¬ In x xs
    by true e =
        let w = any-In (λ y. is_eq (text_cmp x y)) xs e in
        inl (subst (λ (y : List ℕ). In y xs) (sym (eq_is text_ranked x w.0 w.2)) w.1)
    by false e = inr (λ i. clash _ (In-any (λ y. is_eq (text_cmp x y)) x xs i (eq_itself text_ranked x)) e)

module _ (index : IndexValue) (r : Reached) (id : List ℕ) where
  -- what is near by the address
  abbrev at : Type 0
  at = (a : Ipv4Addr) × (r.address ≡ Some a) × In id (listed_at index Gx a)

  -- and by the prefix
  abbrev by : Type 0
  by = (p : Ipv6Prefix) × (r.prefix ≡ Some p) × (In id (listed_in index Gx (network_of p)) ⊎ In id (listed_in index Gx all_networks))

  by_address : (o : Option Ipv4Addr) → r.address ≡ o → at ⊎ (at → ⊥)
  by_address None e = inr (λ w. none_some w.0 (sym e ∙ w.1))
  by_address (Some a) e = elim (among_or_not id (listed_at index Gx a)) [
    | inl m ↦ inl (a, e, m)
    | inr n ↦ inr (λ w. n (subst (λ (x : Ipv4Addr). In id (listed_at index Gx x)) (some_same w.0 a (sym w.1 ∙ e)) w.2))
  ]

  by_prefix : (o : Option Ipv6Prefix) → r.prefix ≡ o → by ⊎ (by → ⊥)
  by_prefix None e = inr (λ w. none_some w.0 (sym e ∙ w.1))
  by_prefix (Some p) e = elim (among_or_not id (listed_in index Gx (network_of p))) [
    | inl m ↦ inl (p, e, inl m)
    | inr n ↦ elim (among_or_not id (listed_in index Gx all_networks)) [
      | inl m ↦ inl (p, e, inr m)
      | inr k ↦ inr (λ w. elim w.2 [
        | inl m ↦ n (subst (λ (x : Ipv6Prefix). In id (listed_in index Gx (network_of x))) (some_same w.0 p (sym w.1 ∙ e)) m)
        | inr m ↦ k m
      ])
    ]
  ]

  -- it is near, or isn't
  pub near_or_not : IsNear index r id ⊎ (IsNear index r id → ⊥)
  near_or_not = elim (by_address r.address refl) [
    | inl a ↦ inl (inl a)
    | inr a ↦ elim (by_prefix r.prefix refl) [
      | inl p ↦ inl (inr p)
      | inr p ↦ inr (λ w. elim w [ inl m ↦ a m | inr m ↦ p m ])
    ]
  ]

-- ---- one after another

-- a list that is stale stays so where no list is another
stays_stale : (y z : RulesValue) (id : List ℕ) → ((i : List ℕ) (rs : List RuleValue) → cached_at z i ≡ Some rs → cached_at y i ≡ Some rs) → cached_at y id ≡ None → cached_at z id ≡ None
stays_stale y z id same g = of (cached_at z id) refl
  where
    of : (o : Option (List RuleValue)) → cached_at z id ≡ o → cached_at z id ≡ None
    of None e = e
    of (Some rs) e = none_some rs (sym g ∙ same id rs e)

module _ (v : View) (index : IndexValue) (q r : Reached) (x y z : RulesValue) (u m w : WaitingValue) (g : IsUnsettled v index q x y u m) (h : IsUnsettled v index r y z m w) where
  -- what was unsettled at first is so after more was
  pub unsettled_first : IsUnsettled v index q x z u w
  unsettled_first = record {
    gone = λ id n. stays_stale y z id h.same (g.gone id n);
    same = λ id rs e. g.same id rs (h.same id rs e);
    keeps = keeps_through u m w g.keeps h.keeps;
    waits = λ id n. waits_on v m w (gx id) h.keeps (g.waits id n);
  }

  -- and so is what was then
  pub unsettled_then : IsUnsettled v index r x z u w
  unsettled_then = record {
    gone = h.gone;
    same = λ id rs e. g.same id rs (h.same id rs e);
    keeps = keeps_through u m w g.keeps h.keeps;
    waits = h.waits;
  }

-- where no list is kept and all wait, whatever is near is unsettled
pub all_unsettled : (v : View) (index : IndexValue) (r : Reached) (x z : RulesValue) (u w : WaitingValue) → Unsettled z w → IsUnsettled v index r x z u w
all_unsettled v index r x z u w all = record {
  gone = λ id n. all.stale id;
  same = λ id rs e. none_some rs (sym (all.stale id) ∙ e);
  keeps = record { some = λ a. clash w.all all.waits a; stay = λ a. clash w.all all.waits a };
  waits = λ id n. record { there = λ a name e. clash w.all all.waits a };
}

-- by its address and its prefix
pub near_unsettled : (v : View) (index : IndexValue) (r : Reached) (x y z : RulesValue) (u m w : WaitingValue) → TouchesAt x y index r.address → TouchesBy y z index r.prefix
    → Keeps u m → ListedWait v index m r.address → Keeps m w → WaitsBy v index w r.prefix → IsUnsettled v index r x z u w
near_unsettled v index r x y z u m w a b k l n o = record {
  gone = λ id near. elim near [
    | inl e ↦ stays_stale y z id b.same (a.gone e.0 e.1 id e.2)
    | inr e ↦ b.gone e.0 e.1 id e.2
  ];
  same = λ id rs e. a.same id rs (b.same id rs e);
  keeps = keeps_through u m w k n;
  waits = λ id near. elim near [
    | inl e ↦ waits_on v m w (gx id) n (l.each e.0 (gx id) e.1 refl e.2)
    | inr e ↦ o.each e.0 e.1 id e.2
  ];
}

-- ---- by a prefix

-- where there is none nothing is stale
pub none_touched : (kept : RulesValue) (index : IndexValue) → TouchesBy kept kept index None
none_touched kept index = record { gone = λ p e. none_some p e; same = λ id rs e. e }

-- the lists that aren't stale are as they were
pub others_same : (x y : RulesValue) (ids : List (List ℕ)) → AreStale x y ids → (id : List ℕ) (rs : List RuleValue) → cached_at y id ≡ Some rs → cached_at x id ≡ Some rs
others_same x y ids h id rs e = sym (h.others id (λ m. none_some rs (sym (h.gone id m) ∙ e))) ∙ e

-- those of all networks where the prefix spans networks
pub all_touched : (x y : RulesValue) (index : IndexValue) (p n : Ipv6Prefix) → n ≡ all_networks → network_of p ≡ all_networks → AreStale x y (listed_in index Gx n) → TouchesBy x y index (Some p)
all_touched x y index p n is one h = record {
  gone = λ q e id m. elim m [
    | inl k ↦ gone id (subst (λ (o : Ipv6Prefix). In id (listed_in index Gx o)) (ap network_of (sym (some_same p q e)) ∙ one) k)
    | inr k ↦ gone id k
  ];
  same = others_same x y (listed_in index Gx n) h;
}
  where
    gone : (id : List ℕ) → In id (listed_in index Gx all_networks) → cached_at y id ≡ None
    gone id k = h.gone id (subst (λ (o : Ipv6Prefix). In id (listed_in index Gx o)) (sym is) k)

-- and then those of its own
pub both_touched : (x y z : RulesValue) (index : IndexValue) (p m n : Ipv6Prefix) → m ≡ all_networks → n ≡ network_of p → AreStale x y (listed_in index Gx m) → AreStale y z (listed_in index Gx n)
    → TouchesBy x z index (Some p)
both_touched x y z index p m n is own g h = record {
  gone = λ q e id k. elim k [
    | inl j ↦ h.gone id (subst (λ (o : Ipv6Prefix). In id (listed_in index Gx o)) (ap network_of (sym (some_same p q e)) ∙ sym own) j)
    | inr j ↦ stays_stale y z id (others_same y z (listed_in index Gx n) h) (g.gone id (subst (λ (o : Ipv6Prefix). In id (listed_in index Gx o)) (sym is) j))
  ];
  same = λ id rs e. others_same x y (listed_in index Gx m) g id rs (others_same y z (listed_in index Gx n) h id rs e);
}

-- so with those that wait: none where there is no prefix
pub none_waits : (v : View) (index : IndexValue) (w : WaitingValue) → WaitsBy v index w None
none_waits v index w = record { each = λ p e. none_some p e }

pub all_waits : (v : View) (index : IndexValue) (w : WaitingValue) (p n : Ipv6Prefix) → n ≡ all_networks → network_of p ≡ all_networks → NetworkWaits v index w n → WaitsBy v index w (Some p)
all_waits v index w p n is one h = record {
  each = λ q e id m. elim m [
    | inl k ↦ waits id (subst (λ (o : Ipv6Prefix). In id (listed_in index Gx o)) (ap network_of (sym (some_same p q e)) ∙ one) k)
    | inr k ↦ waits id k
  ];
}
  where
    waits : (id : List ℕ) → In id (listed_in index Gx all_networks) → WaitsIfDue v w (gx id)
    waits id k = h.each id (subst (λ (o : Ipv6Prefix). In id (listed_in index Gx o)) (sym is) k)

pub both_wait : (v : View) (index : IndexValue) (u w : WaitingValue) (p m n : Ipv6Prefix) → m ≡ all_networks → n ≡ network_of p → NetworkWaits v index u m → Keeps u w → NetworkWaits v index w n
    → WaitsBy v index w (Some p)
both_wait v index u w p m n is own g k h = record {
  each = λ q e id j. elim j [
    | inl l ↦ h.each id (subst (λ (o : Ipv6Prefix). In id (listed_in index Gx o)) (ap network_of (sym (some_same p q e)) ∙ sym own) l)
    | inr l ↦ waits_on v u w (gx id) k (g.each id (subst (λ (o : Ipv6Prefix). In id (listed_in index Gx o)) (sym is) l))
  ];
}

-- ---- calls

-- those that are listed under an address go on waiting
pub calls_on : (v : View) (index : IndexValue) (u w : WaitingValue) (address : Option Ipv4Addr) → Keeps u w → ListedCallsWait v index u address → ListedCallsWait v index w address
calls_on v index u w address k h = record { each = λ a id e m. waits_on v u w _ k (h.each a id e m) }
