-- The live sessions that have a subscriber, among those that an index lists, and what it still covers once those are forgotten that don't show one.
use Rattle.std.proofs.Common.{◌≡◌, ℕ, Bool, true, false, ◌&&◌, List, [], ◌∷◌, ◌++◌, Option, Some, ◌⊎◌, ◌||◌, inl, inr, refl, sym, ap, ◌∙◌, subst, map, if◌then◌else◌}
use Rattle.std.specs.Cmp.{first_so, second_so}
use Rattle.std.specs.List.{list_any}
use Rattle.std.specs.Ordering.{is_eq}
use Rattle.std.specs.declared.net.ipv4_addr.Ipv4Addr.{Ipv4Addr}
use Rattle.pcrf_values.specs.Ascending.{Rises}
use Rattle.pcrf_values.specs.Orders.{text_cmp}
use Rattle.pcrf_values.specs.Sets.{In}
use Rattle.pcrf_values.proofs.AscendingLaws.{ascending-ascending, same_ascending, filter_map-ascending}
use Rattle.pcrf_values.proofs.OrderLaws.{text_ranked, eq_is, eq_itself}
use Rattle.pcrf_values.proofs.Plain.{clash, came_from, some_same}
use Rattle.pcrf_values.proofs.SetLaws.{In-left, In-right, In-cases, In-any, any-In, In-filter_map, filter_map-In}
use Rattle.pcrf_values.specs.Subscribers.{subscriber_cmp}
use Rattle.pcrf_values.specs.Facts.{Fact}
use Rattle.pcrf_values.specs.Places.{Place, subscribers}
use Rattle.pcrf_values.specs.Values.{Value, Entry, Subscriber, Subscribers}
use Rattle.pcrf_values.proofs.FactLaws.{subscriber_ranked}
use Rattle.pcrf_model.specs.Bindings.{meets}
use Rattle.pcrf_model.specs.Holdings.{SessionFact, facts_on}
use Rattle.pcrf_model.specs.Live.{is_live}
use Rattle.pcrf_model.specs.Sessions.{Kind, Gx, Af, Session, session_cmp, gx, af, is_gx}
use Rattle.pcrf_model.specs.Views.{View, view, value}
use Rattle.pcrf_model.proofs.BindLaws.{live_reached, gx_is}
use Rattle.pcrf_model.proofs.HoldingLaws.{session_ranked}
use Rattle.pcrf_model.proofs.ViewLaws.{its_session, shows-known}
use Rattle.bind_index.specs.Beside.{beside}
use Rattle.bind_index.specs.Listings.{Question, HasSubscriber, shows_asked, listed, live_sessions, sessions_of}
use Rattle.bind_index.specs.Lists.{ids_at, without, without_id}
use Rattle.bind_index.specs.Forgetting.{SamePrefixed, ShowsAddress, ForgetsUnshown, shows_subscriber}
use Rattle.bind_index.specs.Index.{ByAddress, BySubscriber, IndexValue, Covers, address_cmp, asked_among, listed_at, listed_of}
use Rattle.bind_index.specs.Networks.{network_of}
use Rattle.bind_index.proofs.Forgotten.{among_or_not, left_out_once, prefixed_still, stays}

-- ---- what is shown

-- a value that has the subscriber is a list of some in which it is
shows_it : (x : Subscriber) (o : Option Value) → meets (Some (Subscribers (x ∷ []))) o ≡ true → (us : List Subscriber) × (o ≡ Some (Subscribers us)) × In x us
shows_it x (Some (Subscribers us)) h = by (list_any (λ y. is_eq (subscriber_cmp x y)) us) refl h
  where
    by : (b : Bool) → list_any (λ y. is_eq (subscriber_cmp x y)) us ≡ b → (b || false) ≡ true → (zs : List Subscriber) × (Some (Subscribers us) ≡ Some (Subscribers zs)) × In x zs
    by true e t =
        let w = any-In (λ y. is_eq (subscriber_cmp x y)) us e in
        (us, refl, subst (λ (y : Subscriber). In y us) (sym (eq_is subscriber_ranked x w.0 w.2)) w.1)
    by false e t = clash false t refl
shows_it x o h = clash false h refl

-- and each in the list is had
it_shows : (x : Subscriber) (us : List Subscriber) → In x us → meets (Some (Subscribers (x ∷ []))) (Some (Subscribers us)) ≡ true
it_shows x us m = ap (λ b. b || false) (In-any (λ y. is_eq (subscriber_cmp x y)) x us m (eq_itself subscriber_ranked x))

-- ---- those that have a subscriber

-- what is known of a session that is asked for and listed
record IsAsked (v : View) (q : Question) (s : Session) (id : List ℕ) : Type 0 where
  named : gx id ≡ s
  shows_what : shows_asked q (v.shows s) ≡ true
  shows : (p : Place) × (x : Entry) × (v.shows s p ≡ Some x)

-- so it is
is_asked : (v : View) (q : Question) (s : Session) (id : List ℕ) → listed v q s ≡ Some id → IsAsked v q s id
is_asked v q s id h =
    let c = came_from (is_gx s.kind && is_live v s && shows_asked q (v.shows s)) (Some s.id) id h in
    let lives : (is_gx s.kind && is_live v s) ≡ true = first_so _ _ c.0 in
    let of_gateway : is_gx s.kind ≡ true = first_so _ _ lives in
    let live : is_live v s ≡ true = second_so (is_gx s.kind) _ lives in
    let r = live_reached v s live in
    record {
      named = ap gx (sym (some_same _ _ c.1)) ∙ gx_is s s.kind refl of_gateway;
      shows_what = second_so (is_gx s.kind && is_live v s) _ c.0;
      shows = (r.0, r.2, r.3);
    }

module _ (facts : List SessionFact) (x : Subscriber) (i : IndexValue) (all : Covers (view facts) i) where
  -- what is asked
  abbrev q : Question
  q = HasSubscriber x

  -- what is read of the facts
  abbrev v : View
  v = view facts

  -- those that are listed under the subscriber
  abbrev ids : List (List ℕ)
  ids = listed_of i x

  -- how the code lists
  abbrev of_id : List ℕ → Option (List ℕ)
  of_id id = listed (beside (facts_on facts (gx id)) []) q (gx id)

  -- the session is read alone
  alone : (id : List ℕ) → of_id id ≡ listed v q (gx id)
  unfolding view
  alone id = refl

  -- each that is asked for is listed
  forth : (id : List ℕ) → In id (live_sessions v q) → In id (asked_among q facts ids)
  forth id m =
      let w = filter_map-In (listed v q) id v.sessions m in
      let a = is_asked v q w.0 id w.2 in
      let here : listed v q (gx id) ≡ Some id = ap (listed v q) a.named ∙ w.2 in
      let shown = shows_it x (value v (gx id) subscribers) ((is_asked v q (gx id) id here).shows_what) in
      In-filter_map of_id id id ids (all.subscribed id shown.0 x shown.1 shown.2) (alone id ∙ here)

  -- and each that is listed is asked for
  back : (id : List ℕ) → In id (asked_among q facts ids) → In id (live_sessions v q)
  unfolding view
  back id m =
      let w = filter_map-In of_id id ids m in
      let here : listed v q (gx w.0) ≡ Some id = sym (alone w.0) ∙ w.2 in
      let e = (is_asked v q (gx w.0) id here).shows in
      In-filter_map (listed v q) (gx w.0) id v.sessions (shows-known facts (gx w.0) e.0 e.1 e.2) here

  -- the sessions rise
  sessions_rise : Rises text_cmp (live_sessions v q)
  unfolding view
  sessions_rise = filter_map-ascending session_cmp text_cmp (listed v q) v.sessions
      (λ s t u w _ _ less p o.
      let a = (is_asked v q s u p).named in
      let b = (is_asked v q t w o).named in
      (λ j. session_cmp (a j) (b j)) ∙ less)
      (ascending-ascending session_cmp session_ranked (map its_session facts))

  -- and so do those of an ascending list
  listed_rise : Rises text_cmp ids → Rises text_cmp (asked_among q facts ids)
  listed_rise up = filter_map-ascending text_cmp text_cmp of_id ids
      (λ m n u w _ _ less p o. (λ j. text_cmp (its_id m u p j) (its_id n w o j)) ∙ less)
      up
    where
      its_id : (m : List ℕ) (u : List ℕ) → of_id m ≡ Some u → u ≡ m
      its_id m u h = ap (λ (s : Session). s.id) (is_asked (beside (facts_on facts (gx m)) []) q (gx m) u h).named

  -- so they are the same
  pub listed_are_sessions : Rises text_cmp ids → asked_among q facts ids ≡ sessions_of v x
  listed_are_sessions up = same_ascending text_cmp text_ranked (asked_among q facts ids) (live_sessions v q) (listed_rise up) sessions_rise (λ id. (back id, forth id))

  -- there are none where none are listed
  pub none_listed : [] ≡ ids → [] ≡ sessions_of v x
  none_listed e = ap (asked_among q facts) e ∙ listed_are_sessions (subst (λ (l : List (List ℕ)). Rises text_cmp l) e tt)

-- ---- those that no longer have one

-- taken out from under none
pub unshown_none : (i : BySubscriber) (id : List ℕ) (facts : List Fact) → ForgetsUnshown i i id [] facts
unshown_none i id facts = record { gone = λ x m s. absurd m; shown = λ x s. refl; others = λ x n. refl }

-- from under one more, unless it shows it
pub unshown_more : (i j k : BySubscriber) (id : List ℕ) (xs : List Subscriber) (y : Subscriber) (facts : List Fact) → ForgetsUnshown i j id xs facts
    → ((x : Subscriber) → ids_at subscriber_cmp k x ≡ (if shows_subscriber facts y then ids_at subscriber_cmp j x else without_id subscriber_cmp text_cmp j y id x))
    → ForgetsUnshown i k id (xs ++ y ∷ []) facts
unshown_more i j k id xs y facts f r = record {
  gone = λ x m s. r x ∙ out x s (shows_subscriber facts y) refl (In-cases x xs (y ∷ []) m);
  shown = λ x s. r x ∙ kept x s (shows_subscriber facts y) refl ∙ f.shown x s;
  others = λ x n. r x ∙ same x n (shows_subscriber facts y) ∙ f.others x (λ m. n (In-left x xs (y ∷ []) m));
}
  where
    -- what is under a subscriber then
    now : Bool → Subscriber → List (List ℕ)
    now b x = if b then ids_at subscriber_cmp j x else without_id subscriber_cmp text_cmp j y id x

    without_now : (x : Subscriber) → (b : Bool) → is_eq (subscriber_cmp y x) ≡ b → shows_subscriber facts x ≡ false → In x xs ⊎ In x (y ∷ [])
        → (if b then without text_cmp id (ids_at subscriber_cmp j x) else ids_at subscriber_cmp j x) ≡ without text_cmp id (ids_at subscriber_cmp i x)
    without_now x true e s w = elim (among_or_not x xs) [
      | inl m ↦ ap (without text_cmp id) (f.gone x m s) ∙ left_out_once id (ids_at subscriber_cmp i x)
      | inr m ↦ ap (without text_cmp id) (f.others x m)
    ]
    without_now x false e s (inl m) = f.gone x m s
    without_now x false e s (inr (inl p)) = clash _ (eq_itself subscriber_ranked y) (ap (λ (z : Subscriber). is_eq (subscriber_cmp y z)) (sym p) ∙ e)
    without_now x false e s (inr (inr n)) = absurd n

    out : (x : Subscriber) → shows_subscriber facts x ≡ false → (b : Bool) → shows_subscriber facts y ≡ b → In x xs ⊎ In x (y ∷ [])
        → (if b then ids_at subscriber_cmp j x else without_id subscriber_cmp text_cmp j y id x) ≡ without text_cmp id (ids_at subscriber_cmp i x)
    out x s true e (inl m) = f.gone x m s
    out x s true e (inr (inl p)) = clash _ e (ap (shows_subscriber facts) (sym p) ∙ s)
    out x s true e (inr (inr n)) = absurd n
    out x s false e w = without_now x (is_eq (subscriber_cmp y x)) refl s w

    apart : (x : Subscriber) → (is_eq (subscriber_cmp y x) ≡ true → ⊥) → (b : Bool) → is_eq (subscriber_cmp y x) ≡ b
        → (if b then without text_cmp id (ids_at subscriber_cmp j x) else ids_at subscriber_cmp j x) ≡ ids_at subscriber_cmp j x
    apart x n true e = absurd (n e)
    apart x n false e = refl

    kept : (x : Subscriber) → shows_subscriber facts x ≡ true → (b : Bool) → shows_subscriber facts y ≡ b
        → (if b then ids_at subscriber_cmp j x else without_id subscriber_cmp text_cmp j y id x) ≡ ids_at subscriber_cmp j x
    kept x s true e = refl
    kept x s false e = apart x (λ t. clash _ s (ap (shows_subscriber facts) (sym (eq_is subscriber_ranked y x t)) ∙ e)) (is_eq (subscriber_cmp y x)) refl

    same : (x : Subscriber) → ¬ In x (xs ++ y ∷ []) → (b : Bool)
        → (if b then ids_at subscriber_cmp j x else without_id subscriber_cmp text_cmp j y id x) ≡ ids_at subscriber_cmp j x
    same x n true = refl
    same x n false = apart x (λ t. n (In-right x xs (y ∷ []) (inl (sym (eq_is subscriber_ranked y x t))))) (is_eq (subscriber_cmp y x)) refl

-- an index from which a session was taken out from under subscribers that it doesn't show covers what it covered
pub unshown_forgotten : (i j : IndexValue) (id : List ℕ) (xs : List Subscriber) (facts : List SessionFact) → ForgetsUnshown i.subscribed j.subscribed id xs (facts_on facts (gx id))
    → j.gateways ≡ i.gateways → j.calls ≡ i.calls → SamePrefixed i j → Covers (view facts) i → Covers (view facts) j
unfolding view
unshown_forgotten i j id xs facts f g c p h = record {
  addresses = λ s a e. at s.kind s.id a e;
  prefixes = λ s q e. prefixed_still i j p s.kind (network_of q) s.id (h.prefixes s q e);
  subscribed = λ n us x e m. under n us x e m (shows_subscriber (facts_on facts (gx id)) x) refl (h.subscribed n us x e m);
}
  where
    at : (k : Kind) (n : List ℕ) (a : Ipv4Addr) → ShowsAddress (view facts) (record { kind = k; id = n }) a → In n (listed_at j k a)
    at Gx n a e = subst (λ (l : ByAddress). In n (ids_at address_cmp l a)) (sym g) (h.addresses (gx n) a e)
    at Af n a e = subst (λ (l : ByAddress). In n (ids_at address_cmp l a)) (sym c) (h.addresses (af n) a e)

    -- the session itself would show it
    itself : (us : List Subscriber) (x : Subscriber) → value (view facts) (gx id) subscribers ≡ Some (Subscribers us) → In x us → shows_subscriber (facts_on facts (gx id)) x ≡ true
    itself us x e m = ap (meets (Some (Subscribers (x ∷ [])))) e ∙ it_shows x us m

    under : (n : List ℕ) (us : List Subscriber) (x : Subscriber) → value (view facts) (gx n) subscribers ≡ Some (Subscribers us) → In x us
        → (b : Bool) → shows_subscriber (facts_on facts (gx id)) x ≡ b → In n (listed_of i x) → In n (listed_of j x)
    under n us x e m true s k = subst (λ (l : List (List ℕ)). In n l) (sym (f.shown x s)) k
    under n us x e m false s k = elim (among_or_not x xs) [
      | inl w ↦ subst (λ (l : List (List ℕ)). In n l) (sym (f.gone x w s))
          (stays id n (listed_of i x) (λ p. clash _ (itself us x (ap (λ (l : List ℕ). value (view facts) (gx l) subscribers) (sym p) ∙ e) m) s) k)
      | inr w ↦ subst (λ (l : List (List ℕ)). In n l) (sym (f.others x w)) k
    ]
