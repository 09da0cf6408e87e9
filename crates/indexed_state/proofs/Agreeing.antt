-- The parts of an indexed state agree after it changed.
use Rattle.std.proofs.Common.{◌≡◌, ℕ, Bool, true, false, ◌||◌, ◌⊎◌, List, [], Option, Some, None, inl, inr, refl, sym, ap, ◌∙◌, subst, option_map}
use Rattle.std.specs.Ordering.{is_eq}
use Rattle.std.specs.declared.net.ipv4_addr.Ipv4Addr.{Ipv4Addr}
use Rattle.pcrf_values.specs.Sets.{In}
use Rattle.pcrf_values.proofs.OrderLaws.{eq_is, eq_itself}
use Rattle.pcrf_values.proofs.Plain.{clash, is_false, split, or_left, or_right, none_some}
use Rattle.pcrf_values.proofs.SetLaws.{Same-back}
use Rattle.pcrf_values.specs.RuleValues.{RuleValue}
use Rattle.pcrf_values.specs.Facts.{Fact}
use Rattle.pcrf_values.specs.Places.{Place, address, prefix, subscribers}
use Rattle.pcrf_values.specs.Prefixes.{Ipv6Prefix}
use Rattle.pcrf_values.specs.Values.{Value, Entry, Subscriber, Subscribers, Prefix}
use Rattle.pcrf_values.proofs.ShownLaws.{members_show_the_same}
use Rattle.pcrf_model.specs.Holdings.{Holding, SessionFact, facts_on, kept_of, with_facts_of}
use Rattle.pcrf_model.specs.Laws.{DifferInOne, HasAddress, NeverMeet}
use Rattle.pcrf_model.specs.Operations.{Operation, with_operation}
use Rattle.pcrf_model.specs.Sessions.{Kind, Gx, Af, Session, gx, is_gx, session_cmp}
use Rattle.pcrf_model.specs.Tables.{Tables}
use Rattle.pcrf_model.specs.Views.{View, view, value}
use Rattle.pcrf_model.specs.Rules.{rules}
use Rattle.pcrf_model.specs.Waiting.{MayWait}
use Rattle.pcrf_model.proofs.HoldingLaws.{session_ranked, replaces_one}
use Rattle.pcrf_model.proofs.NeighbourLaws.{which}
use Rattle.pcrf_model.proofs.TakingLaws.{taking_changes_one}
use Rattle.bind_index.specs.Index.{IndexValue, listed_at, listed_in, listed_of, Covers, Grows, ListsFacts, ListsAddress, ListsPrefix, ListsSubscribers, ListsGateway, ListedUnder}
use Rattle.bind_index.specs.Neighbours.{HasPrefix, NeverCover}
use Rattle.bind_index.specs.Networks.{all_networks, network_of}
use Rattle.bind_index.proofs.Covered.{covers_grow, covers_taken}
use Rattle.bind_index.proofs.CoveredNetworks.{covers_in_its_network, one_network}
use Rattle.bind_index.proofs.Neighbours.{neighbours_alone}
use Rattle.pcc_rules.specs.Cached.{RulesValue, cached_at, AreCached}
use Rattle.pcc_rules.proofs.Keeping.{none_kept}
use Rattle.rule_delta.specs.Waits.{WaitingValue, waiting_of, DueWait, Keeps, WaitsIfDue}
use Rattle.rule_delta.proofs.Waited.{may_wait}
use Rattle.rule_delta.specs.Abandoned.{AbandonedWait, ListedCallsWait, NetworkCallsWait}
use Rattle.rule_delta.proofs.Followed.{call_followed, gateway_followed}
use Rattle.indexed_state.specs.Indexed.{Agree, address_value, IsNear, IsReached, Unsettled, spans}
use Rattle.indexed_state.specs.declared.reached.Reached.{Reached}
use Rattle.indexed_state.proofs.Near.{near_or_not, shown_prefix}
use Rattle.indexed_state.proofs.DueByRules.{by_rules}
use Rattle.indexed_state.proofs.Reading.{mapped}

-- a session of a gateway is of that kind
of_kind : (k : Kind) → is_gx k ≡ true → k ≡ Gx
of_kind Gx h = refl
of_kind Af h = clash false h refl

-- neither of two tests is true
or_not_left : (a b : Bool) → (a || b) ≡ false → a ≡ false
or_not_left a b n = is_false a (λ e. clash (a || b) (or_left a b e) n)

or_not_right : (a b : Bool) → (a || b) ≡ false → b ≡ false
or_not_right a b n = is_false b (λ e. clash (a || b) (or_right a b e) n)

-- with another index that is whole only where it covers
pub agree_index : (t : Tables) (i : ℕ) (h : Holding) (b c : Bool) (old new : IndexValue) (r : RulesValue) (w x : WaitingValue) → (c ≡ true → Covers (view h.facts) new) → Agree t i h b old r w x → Agree t i h c new r w x
agree_index t i h b c old new r w x covers a = record { covers = covers; kept = a.kept; due = a.due; abandoned = a.abandoned }

-- with one that grew
pub agree_grown : (t : Tables) (i : ℕ) (h : Holding) (b : Bool) (old new : IndexValue) (r : RulesValue) (w x : WaitingValue) → Grows old new → Agree t i h b old r w x → Agree t i h b new r w x
agree_grown t i h b old new r w x g a = record { covers = λ e. covers_grow (view h.facts) old new g (a.covers e); kept = a.kept; due = a.due; abandoned = a.abandoned }

-- where all wait, all that are due do
pub all_wait : (t : Tables) (i : ℕ) (v : View) (w : WaitingValue) → w.all ≡ true → DueWait t i v w
all_wait t i v w all = record { listed = λ a. clash w.all all a }

-- and all that are abandoned
pub all_calls_wait : (i : ℕ) (v : View) (x : WaitingValue) → x.all ≡ true → AbandonedWait i v x
all_calls_wait i v x all = record { listed = λ a. clash x.all all a }

-- where no list is kept and all wait, an index is enough
pub agree_anew : (t : Tables) (i : ℕ) (h : Holding) (c : Bool) (index : IndexValue) (r : RulesValue) (w x : WaitingValue) → (c ≡ true → Covers (view h.facts) index)
    → Unsettled r w → x.all ≡ true → Agree t i h c index r w x
agree_anew t i h c index r w x covers all calls = record {
  covers = covers;
  kept = none_kept t (view h.facts) r all.stale;
  due = all_wait t i (view h.facts) w all.waits;
  abandoned = all_calls_wait i (view h.facts) x calls;
}

-- nothing is shown where nothing is held
nothing_shown : (s : Session) (p : Place) → value (view []) s p ≡ None
unfolding view
nothing_shown s p = refl

-- so any index covers it
pub covers_nothing : (index : IndexValue) → Covers (view []) index
covers_nothing index = record {
  addresses = λ s a e. none_some _ (sym (nothing_shown s _) ∙ e);
  prefixes = λ s p e. none_some _ (sym (nothing_shown s _) ∙ e);
  subscribed = λ id xs x e m. none_some _ (sym (nothing_shown (gx id) _) ∙ e);
}

-- ---- one session that changed

-- the holdings before and after, the session, the index before what it shows was listed and after, the lists of rules at first and as they went stale,
-- who waited and who waits for a push and for an abort, and where the user of the session is reached before and after
module _ (t : Tables) (i : ℕ) (h k : Holding) (d : Session) (old new : IndexValue) (first third : RulesValue) (u w x y : WaitingValue) (before after : Reached) where
  -- what the code did
  pub record Followed : Type 0 where
    pub differs : DifferInOne h.facts k.facts d
    pub covers : Covers (view h.facts) old
    pub covered : Covers (view k.facts) new
    pub kept : AreCached t (view h.facts) first
    pub due : DueWait t i (view h.facts) u
    pub grows : Grows old new
    pub was_at : IsReached (view h.facts) d before
    pub is_at : IsReached (view k.facts) d after
    pub gone_before : (id : List ℕ) → IsNear new before id → cached_at third id ≡ None
    pub gone_after : (id : List ℕ) → IsNear new after id → cached_at third id ≡ None
    pub same : (id : List ℕ) (rs : List RuleValue) → cached_at third id ≡ Some rs → cached_at first id ≡ Some rs
    pub keeps : Keeps u w
    pub own : after.address ≡ None → is_gx d.kind ≡ true → WaitsIfDue (view k.facts) w d
    pub near_before : (id : List ℕ) → IsNear new before id → WaitsIfDue (view k.facts) w (gx id)
    pub near_after : (id : List ℕ) → IsNear new after id → WaitsIfDue (view k.facts) w (gx id)
    pub all : is_gx d.kind ≡ true → (spans before.prefix || spans after.prefix) ≡ true → Unsettled third w
    pub abandoned : AbandonedWait i (view h.facts) x
    pub go_on : Keeps x y
    pub own_call : is_gx d.kind ≡ false → WaitsIfDue (view k.facts) y d
    pub near_calls : is_gx d.kind ≡ true → ListedCallsWait (view k.facts) new y before.address
    pub network_calls : is_gx d.kind ≡ true → (p : Ipv6Prefix) → before.prefix ≡ Some p → NetworkCallsWait (view k.facts) new y (network_of p)
    pub all_calls : is_gx d.kind ≡ true → spans before.prefix ≡ true → y.all ≡ true

  module _ (z : Followed) where
    -- a session that has the address is listed under it
    listed : (s : Session) (a : Ipv4Addr) → HasAddress (view h.facts) (view k.facts) s (address_value a) → In s.id (listed_at new s.kind a)
    listed s a (inl e) = z.grows.addresses s.kind a s.id (z.covers.addresses s a e)
    listed s a (inr e) = z.covered.addresses s a e

    -- and one that has the prefix under its network
    listed_by : (s : Session) (p : Ipv6Prefix) → HasPrefix (view h.facts) (view k.facts) s p → In s.id (listed_in new s.kind (network_of p))
    listed_by s p (inl e) = z.grows.prefixes s.kind (network_of p) s.id (z.covers.prefixes s p e)
    listed_by s p (inr e) = z.covered.prefixes s p e

    -- where it neither is near where the user was reached nor where it is, and no prefix of a gateway's session spans networks
    module _ (id : List ℕ) (not_before : IsNear new before id → ⊥) (not_after : IsNear new after id → ⊥)
        (none : is_gx d.kind ≡ true → (spans before.prefix ≡ false) × (spans after.prefix ≡ false)) where
      -- it shows no address of the session that changed
      apart : NeverMeet (view h.facts) (view k.facts) d (gx id)
      apart = record { apart = by }
        where
          its : (a : Ipv4Addr) (q : Value) → address_value a ≡ q → HasAddress (view h.facts) (view k.facts) (gx id) q → In id (listed_at new Gx a)
          its a q e n = listed (gx id) a (subst (λ (o : Value). HasAddress (view h.facts) (view k.facts) (gx id) o) (sym e) n)

          by : (q : Value) → HasAddress (view h.facts) (view k.facts) d q → HasAddress (view h.facts) (view k.facts) (gx id) q → ⊥
          by q (inl f) n = let m = mapped address_value before.address q (z.was_at.at_address ∙ f) in not_before (inl (m.0, m.1, its m.0 q m.2 n))
          by q (inr f) n = let m = mapped address_value after.address q (z.is_at.at_address ∙ f) in not_after (inl (m.0, m.1, its m.0 q m.2 n))

      -- what is near by a prefix
      near_by : (r : Reached) (p q : Ipv6Prefix) → r.prefix ≡ Some p → HasPrefix (view h.facts) (view k.facts) (gx id) q
          → (network_of q ≡ all_networks) ⊎ (network_of q ≡ network_of p) → IsNear new r id
      near_by r p q e n (inl f) = inr (p, e, inr (subst (λ (o : Ipv6Prefix). In id (listed_in new Gx o)) f (listed_by (gx id) q n)))
      near_by r p q e n (inr f) = inr (p, e, inl (subst (λ (o : Ipv6Prefix). In id (listed_in new Gx o)) f (listed_by (gx id) q n)))

      -- where it is reached by a prefix
      at_prefix : (p : Ipv6Prefix) → HasPrefix (view h.facts) (view k.facts) d p → (before.prefix ≡ Some p) ⊎ (after.prefix ≡ Some p)
      at_prefix p (inl f) = inl (shown_prefix before.prefix p (z.was_at.at_prefix ∙ f))
      at_prefix p (inr f) = inr (shown_prefix after.prefix p (z.is_at.at_prefix ∙ f))

      -- its prefixes neither cover those of the session that changed, nor are they covered by them
      never : NeverCover (view h.facts) (view k.facts) d (gx id)
      never = record {
        over = λ p q m n c. elim (at_prefix p m) [
          | inl e ↦ not_before (near_by before p q e n (covers_in_its_network q p c))
          | inr e ↦ not_after (near_by after p q e n (covers_in_its_network q p c))
        ];
        under = λ g p q m n c. elim (at_prefix p m) [
          | inl e ↦ not_before (near_by before p q e n (inr (sym (one_network p q c (sym (ap spans e) ∙ (none g).0)))))
          | inr e ↦ not_after (near_by after p q e n (inr (sym (one_network p q c (sym (ap spans e) ∙ (none g).1)))))
        ];
        itself = λ e. record {
          before = no_prefix_then before (view h.facts) z.was_at (λ p f. not_before (near_by before p p f (inl (its e p before (view h.facts) z.was_at f)) (inr refl)));
          after = no_prefix_then after (view k.facts) z.is_at (λ p f. not_after (near_by after p p f (inr (its e p after (view k.facts) z.is_at f)) (inr refl)));
        };
      }
        where
          -- the session itself shows what it is reached by
          its : gx id ≡ d → (p : Ipv6Prefix) (r : Reached) (v : View) → IsReached v d r → r.prefix ≡ Some p → value v (gx id) prefix ≡ Some (Prefix p)
          its e p r v at f = ap (λ (s : Session). value v s prefix) e ∙ sym at.at_prefix ∙ ap (option_map Prefix) f

          no_prefix_then : (r : Reached) (v : View) → IsReached v d r → ((p : Ipv6Prefix) → r.prefix ≡ Some p → ⊥) → value v d prefix ≡ None
          no_prefix_then r v at n = by r.prefix refl
            where
              by : (o : Option Ipv6Prefix) → r.prefix ≡ o → value v d prefix ≡ None
              by None e = sym at.at_prefix ∙ ap (option_map Prefix) e
              by (Some p) e = absurd (n p e)

      -- so it keeps its rules
      stays : rules t (view h.facts) (gx id) ≡ rules t (view k.facts) (gx id)
      stays = neighbours_alone t h.facts k.facts d (gx id) z.differs apart never

    -- all is unsettled, or no prefix of a gateway's session spans networks
    far : (Unsettled third w) ⊎ (is_gx d.kind ≡ true → (spans before.prefix ≡ false) × (spans after.prefix ≡ false))
    far = elim (split (is_gx d.kind)) [
      | inr c ↦ inr (λ g. clash (is_gx d.kind) g c)
      | inl g ↦ elim (split (spans before.prefix || spans after.prefix)) [
        | inl p ↦ inl (z.all g p)
        | inr n ↦ inr (λ _. (or_not_left (spans before.prefix) (spans after.prefix) n, or_not_right (spans before.prefix) (spans after.prefix) n))
      ]
    ]

    -- so each list is still its session's own, or none is kept
    pub lists_kept : AreCached t (view k.facts) third
    lists_kept = elim far [
      | inl all ↦ none_kept t (view k.facts) third all.stale
      | inr none ↦ record {
        each = λ id rs e. z.kept.each id rs (z.same id rs e)
            ∙ stays id (λ n. none_some rs (sym (z.gone_before id n) ∙ e)) (λ n. none_some rs (sym (z.gone_after id n) ∙ e)) none;
        apart = λ id rs e. z.kept.apart id rs (z.same id rs e);
      }
    ]

    -- and so does the session itself wait, which is listed under the address that it shows
    own_waits : is_gx d.kind ≡ true → WaitsIfDue (view k.facts) w d
    own_waits g = by after.address refl
      where
        by : (o : Option Ipv4Addr) → after.address ≡ o → WaitsIfDue (view k.facts) w d
        by None e = z.own e g
        by (Some a) e =
            let kind = of_kind d.kind g in
            let named : gx d.id ≡ d = λ j. record { kind = sym kind j; id = d.id } in
            let here : In d.id (listed_at new Gx a) = subst (λ (m : Kind). In d.id (listed_at new m a)) kind
            (z.covered.addresses d a (sym z.is_at.at_address ∙ ap (option_map address_value) e)) in
            subst (λ (s : Session). WaitsIfDue (view k.facts) w s) named (z.near_after d.id (inl (a, e, here)))

    -- who isn't the session itself waits, or keeps its rules
    waits_or_stays : w.all ≡ false → (is_gx d.kind ≡ true → (spans before.prefix ≡ false) × (spans after.prefix ≡ false))
        → (s : Session) → MayWait i (view k.facts) (waiting_of w) s ⊎ ((s ≡ d → ⊥) × (rules t (view h.facts) s ≡ rules t (view k.facts) s))
    waits_or_stays some none s = elim (split (is_gx s.kind)) [
      | inr c ↦ inl (may_wait i (view k.facts) w s some (λ g. clash (is_gx s.kind) g c))
      | inl g ↦ elim (which d s) [
        | inl e ↦ inl (subst (λ (r : Session). MayWait i (view k.facts) (waiting_of w) r) (sym e) (may_wait i (view k.facts) w d some own_waits))
        | inr n ↦
            let kind = of_kind s.kind g in
            let named : gx s.id ≡ s = λ j. record { kind = sym kind j; id = s.id } in
            elim (near_or_not new before s.id) [
              | inl m ↦ inl (may_wait i (view k.facts) w s some (λ _. subst (λ (r : Session). WaitsIfDue (view k.facts) w r) named (z.near_before s.id m)))
              | inr b ↦ elim (near_or_not new after s.id) [
                | inl m ↦ inl (may_wait i (view k.facts) w s some (λ _. subst (λ (r : Session). WaitsIfDue (view k.facts) w r) named (z.near_after s.id m)))
                | inr c ↦ inr (n, subst (λ (r : Session). rules t (view h.facts) r ≡ rules t (view k.facts) r) named (stays s.id b c none))
              ]
            ]
      ]
    ]

    -- so all that are due wait
    pub due_wait : DueWait t i (view k.facts) w
    due_wait = elim far [
      | inl all ↦ all_wait t i (view k.facts) w all.waits
      | inr none ↦ record {
        listed = λ some. by_rules t i h.facts k.facts d (waiting_of u) (waiting_of w) z.differs
            (z.due.listed (z.keeps.some some)) (z.keeps.stay some) (waits_or_stays some none);
      }
    ]

    -- and so do all that are abandoned
    pub calls_wait : AbandonedWait i (view k.facts) y
    calls_wait = elim (split (is_gx d.kind)) [
      | inr c ↦ call_followed i h.facts k.facts d x y z.differs z.go_on z.abandoned c (z.own_call c)
      | inl g ↦ elim (split (spans before.prefix)) [
        | inl p ↦ all_calls_wait i (view k.facts) y (z.all_calls g p)
        | inr n ↦ gateway_followed i h.facts k.facts d x y z.differs z.go_on z.abandoned g
            new (covers_grow (view h.facts) old new z.grows z.covers) before.address z.was_at.at_address (z.near_calls g)
            before.prefix z.was_at.at_prefix (λ p e. (sym (ap spans e) ∙ n, z.network_calls g p e))
      ]
    ]

    -- so the parts agree, also with an index that covers without what the session no longer shows
    pub agree_followed : (b : Bool) (index : IndexValue) → (Covers (view k.facts) new → Covers (view k.facts) index) → Agree t i k b index third w y
    agree_followed b index forgets = record { covers = λ _. forgets z.covered; kept = lists_kept; due = due_wait; abandoned = calls_wait }

-- ---- an operation

module _ (h k : Holding) (o : Operation) (old new : IndexValue) (is : k ≡ kept_of (with_operation h o)) where
  -- its session alone has other facts
  pub operation_differs : kept_of h ≡ h → DifferInOne h.facts k.facts o.session
  operation_differs held = subst (λ (m : Holding). DifferInOne h.facts m.facts o.session) (sym is) (taking_changes_one h o held)

  -- the index covers what is held
  pub operation_covered : Covers (view h.facts) old → Grows old new → ListsFacts new o.session o.facts → Covers (view k.facts) new
  operation_covered covers grows lists = subst (λ (m : Holding). Covers (view m.facts) new) (sym is) (covers_taken h o old new covers grows lists)

-- ---- a record that was put in its place

-- one session differs
pub placed_differs : (h k : Holding) (s : Session) (facts : List Fact) (clock : ℕ) → k ≡ with_facts_of h s facts clock → DifferInOne h.facts k.facts s
placed_differs h k s facts clock is = subst (λ (m : Holding). DifferInOne h.facts m.facts s) (sym is)
    (record { elsewhere = λ r n. Same-back (facts_on (with_facts_of h s facts clock).facts r) (facts_on h.facts r) ((replaces_one h s facts clock).elsewhere r n) })

module _ (xs ys : List SessionFact) (id : List ℕ) (index : IndexValue) (differs : DifferInOne xs ys (gx id)) where
  -- another session shows the same
  as_before : (s : Session) (p : Place) → (s ≡ gx id → ⊥) → value (view xs) s p ≡ value (view ys) s p
  unfolding view
  as_before s p n = ap (option_map (λ (e : Entry). e.1)) ((members_show_the_same (facts_on xs s) (facts_on ys s) (differs.elsewhere s n)).shows p)

  -- the session is listed under the address that its record shows
  own_address : (a : Ipv4Addr) → ListsAddress index (gx id) (facts_on ys (gx id)) → value (view ys) (gx id) address ≡ Some (address_value a) → In id (listed_at index Gx a)
  unfolding view
  own_address a l e = l.listed a e

  -- under the network of the prefix that it shows
  own_prefix : (p : Ipv6Prefix) → ListsPrefix index (gx id) (facts_on ys (gx id)) → value (view ys) (gx id) prefix ≡ Some (Prefix p) → In id (listed_in index Gx (network_of p))
  unfolding view
  own_prefix p l e = l.listed p e

  -- and under the subscribers
  own_subscribers : (us : List Subscriber) → ListsSubscribers index id (facts_on ys (gx id)) → value (view ys) (gx id) subscribers ≡ Some (Subscribers us) → ListedUnder index.subscribed id us
  unfolding view
  own_subscribers us l e = l.listed us e

  -- so an index that lists the session by its record still covers
  pub placed_covered : Covers (view xs) index → ListsGateway index id (facts_on ys (gx id)) → Covers (view ys) index
  placed_covered covers lists = record {
    addresses = λ s a e. by s a e (is_eq (session_cmp s (gx id))) refl;
    prefixes = λ s p e. at_prefix s p e (is_eq (session_cmp s (gx id))) refl;
    subscribed = λ other us x e m. of other us x e m (is_eq (session_cmp (gx other) (gx id))) refl;
  }
    where
      by : (s : Session) (a : Ipv4Addr) → value (view ys) s address ≡ Some (address_value a) → (b : Bool) → is_eq (session_cmp s (gx id)) ≡ b → In s.id (listed_at index s.kind a)
      by s a e true q =
          let same = eq_is session_ranked s (gx id) q in
          subst (λ (r : Session). In r.id (listed_at index r.kind a)) (sym same)
          (own_address a lists.address (subst (λ (r : Session). value (view ys) r address ≡ Some (address_value a)) same e))
      by s a e false q = covers.addresses s a (as_before s address (λ n. clash _ (ap (λ (r : Session). is_eq (session_cmp r (gx id))) n ∙ eq_itself session_ranked (gx id)) q) ∙ e)

      at_prefix : (s : Session) (p : Ipv6Prefix) → value (view ys) s prefix ≡ Some (Prefix p) → (b : Bool) → is_eq (session_cmp s (gx id)) ≡ b → In s.id (listed_in index s.kind (network_of p))
      at_prefix s p e true q =
          let same = eq_is session_ranked s (gx id) q in
          subst (λ (r : Session). In r.id (listed_in index r.kind (network_of p))) (sym same)
          (own_prefix p lists.prefix (subst (λ (r : Session). value (view ys) r prefix ≡ Some (Prefix p)) same e))
      at_prefix s p e false q = covers.prefixes s p (as_before s prefix (λ n. clash _ (ap (λ (r : Session). is_eq (session_cmp r (gx id))) n ∙ eq_itself session_ranked (gx id)) q) ∙ e)

      of : (other : List ℕ) (us : List Subscriber) (x : Subscriber) → value (view ys) (gx other) subscribers ≡ Some (Subscribers us) → In x us → (b : Bool) → is_eq (session_cmp (gx other) (gx id)) ≡ b → In other (listed_of index x)
      of other us x e m true q =
          let same = eq_is session_ranked (gx other) (gx id) q in
          subst (λ (r : Session). In r.id (listed_of index x)) (sym same)
          ((own_subscribers us lists.subscribers (subst (λ (r : Session). value (view ys) r subscribers ≡ Some (Subscribers us)) same e)).each x m)
      of other us x e m false q = covers.subscribed other us x (as_before (gx other) subscribers (λ n. clash _ (ap (λ (r : Session). is_eq (session_cmp r (gx id))) n ∙ eq_itself session_ranked (gx id)) q) ∙ e) m

-- no facts show nothing
pub none_listed : (index : IndexValue) (id : List ℕ) → ListsGateway index id []
none_listed index id = record {
  address = record { listed = λ a e. none_some _ e };
  prefix = record { listed = λ p e. none_some _ e };
  subscribers = record { listed = λ us e. none_some _ e };
}
