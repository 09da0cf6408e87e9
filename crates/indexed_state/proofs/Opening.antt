-- A gateway's session of which nothing was known, and to which no call can be bound: what its rules are, and that the parts agree once it came.
use Rattle.std.proofs.Common.{◌≡◌, ℕ, Bool, true, false, cond, is_some, is_err, Result, Ok, Err, OnOk, List, [], ◌++◌, map, Option, Some, None, option_map, option_and_then, unwrap_or, inl, inr, refl, sym, ap, ◌∙◌, subst}
use Rattle.std.proofs.lemmas.List.{append-nil}
use Rattle.std.specs.Ordering.{is_eq}
use Rattle.pcrf_values.specs.Ascending.{ascending}
use Rattle.pcrf_values.specs.Orders.{text_cmp}
use Rattle.pcrf_values.specs.Sets.{In, Distinct}
use Rattle.pcrf_values.proofs.OrderLaws.{text_ranked, eq_is, eq_itself}
use Rattle.pcrf_values.proofs.Plain.{clash, is_false, none_some, some_same, split}
use Rattle.pcrf_values.specs.Prefixes.{Ipv6Prefix, covers}
use Rattle.pcrf_values.specs.RuleValues.{RuleValue}
use Rattle.pcrf_values.specs.Facts.{Fact}
use Rattle.pcrf_values.specs.FlowWords.{value_at}
use Rattle.pcrf_values.specs.Held.{entry_shown}
use Rattle.pcrf_values.specs.Live.{gx_is_live}
use Rattle.pcrf_values.specs.Places.{Place, address, prefix, apn}
use Rattle.pcrf_values.specs.Values.{Value, Entry, Prefix}
use Rattle.pcrf_model.specs.Bindings.{matches, is_bound_to}
use Rattle.pcrf_model.specs.Differences.{rule_name_of}
use Rattle.pcrf_model.specs.Holdings.{Holding, SessionFact, facts_on}
use Rattle.pcrf_model.specs.Laws.{DifferInOne}
use Rattle.pcrf_model.specs.Live.{is_live}
use Rattle.pcrf_model.specs.Rules.{apn_of, operator_rule, operator_rules, rules}
use Rattle.pcrf_model.specs.Sessions.{Kind, Gx, Af, Session, gx, af, is_gx}
use Rattle.pcrf_model.specs.Tables.{ApnRow, Tables, apn_row}
use Rattle.pcrf_model.specs.Views.{View, view, value, as_text}
use Rattle.pcrf_model.proofs.BindLaws.{bind-greatest, gx_is, matched}
use Rattle.pcrf_model.proofs.NeighbourLaws.{how_they_meet, said, which}
use Rattle.bind_index.specs.Beside.{beside}
use Rattle.site_join.specs.States.{record_facts}
use Rattle.bind_index.specs.Index.{IndexValue, Covers, Grows, ListsGateway, listed_at, listed_in}
use Rattle.bind_index.specs.Networks.{network_of, spans_networks}
use Rattle.bind_index.proofs.Covered.{covers_grow}
use Rattle.bind_index.proofs.CoveredNetworks.{one_network}
use Rattle.bind_index.proofs.Indexed.{prefixes_met}
use Rattle.pcc_rules.specs.Listed.{HasBound}
use Rattle.pcc_rules.specs.Listing.{RowNamesApart, keyed, keyed_cmp, unkeyed}
use Rattle.pcc_rules.proofs.Derived.{derived_is, derived_apart}
use Rattle.pcc_rules.specs.Cached.{RulesValue, cached_at, AreCached}
use Rattle.rule_delta.specs.Waits.{WaitingValue, waiting_of, Keeps, WaitsIfDue}
use Rattle.rule_delta.proofs.Waited.{keeps_itself, may_wait}
use Rattle.rule_delta.proofs.Followed.{gateway_followed}
use Rattle.indexed_state.specs.Alike.{ShowAlike}
use Rattle.indexed_state.specs.Indexed.{Agree, address_value}
use Rattle.indexed_state.specs.Opened.{IsAlone, KeepsOne, NoCallAt, NoCallIn, OpensAlone}
use Rattle.indexed_state.proofs.Agreeing.{placed_covered}
use Rattle.indexed_state.proofs.DueByRules.{by_rules}
use Rattle.indexed_state.proofs.Unmatched.{NoneMatches, is_bound, others_keep}

-- ---- what was answered

-- where nothing is there no facts are
pub nothing_there : {A : Type 0} (f : A → List Fact) (o : Option A) → is_some o ≡ false → record_facts (option_map f o) ≡ []
nothing_there f None e = refl
nothing_there f (Some x) e = clash true refl e

-- what holds of a call that isn't refused
pub not_refused : {A E : Type 0} (r : Result A E) (P : Type 0) → OnOk r P → is_err r ≡ false → P
not_refused (Ok x) P h e = h
not_refused (Err x) P h e = clash true refl e

-- where rules are kept of a session, just those are
pub kept_one : (before after : RulesValue) (id : List ℕ) (rs : List RuleValue)
    → ((q : List ℕ) → cached_at after q ≡ cond (is_eq (text_cmp id q)) (Some rs) (cached_at before q)) → KeepsOne before after id rs
kept_one before after id rs keeps = record {
  own = λ xs e. some_same xs rs (sym e ∙ keeps id ∙ ap (λ (b : Bool). cond b (Some rs) (cached_at before id)) (eq_itself text_ranked id));
  others = λ q n. keeps q ∙ ap (λ (b : Bool). cond b (Some rs) (cached_at before q)) (is_false (is_eq (text_cmp id q)) (λ same. n (sym (eq_is text_ranked id q same))));
}

-- ---- records that show alike

-- each shows alike with itself
pub alike_itself : (known : List Fact) → ShowAlike known known
alike_itself known = record { lives = refl; at_address = refl; at_prefix = refl; at_apn = refl; of_subscribers = refl }

-- and with what the next one shows alike with
pub alike_through : (xs ys zs : List Fact) → ShowAlike xs ys → ShowAlike ys zs → ShowAlike xs zs
alike_through xs ys zs g h = record {
  lives = g.lives ∙ h.lives;
  at_address = g.at_address ∙ h.at_address;
  at_prefix = g.at_prefix ∙ h.at_prefix;
  at_apn = g.at_apn ∙ h.at_apn;
  of_subscribers = g.of_subscribers ∙ h.of_subscribers;
}

-- so a session that opens alone by a record does so by each that shows alike
pub opens_alike : (t : Tables) (h : Holding) (id : List ℕ) (known other : List Fact) (rs : List RuleValue) → ShowAlike known other → OpensAlone t h id known rs → OpensAlone t h id other rs
opens_alike t h id known other rs alike o = record {
  unknown = o.unknown;
  alone = λ k differs shows. o.alone k differs (alike_through known other (facts_on k.facts (gx id)) alike shows);
}

-- ---- who can be bound

-- the value of an entry
abbrev value_of : Option Entry → Option Value
value_of = option_map (λ (e : Entry). e.1)

-- a session asks for what is of an application function
of_call : (s : Session) (k : Kind) → s.kind ≡ k → is_gx k ≡ false → s.kind ≡ Af
of_call s Gx e h = clash true refl h
of_call s Af e h = e

-- what a session's facts show is what is read of it
own_value : (facts : List SessionFact) (s : Session) (p : Place) → value (view facts) s p ≡ value_at (entry_shown (facts_on facts s)) p
unfolding view
own_value facts s p = refl

module _ (h k : Holding) (id : List ℕ) (known : List Fact) (differs : DifferInOne h.facts k.facts (gx id)) (alike : ShowAlike known (facts_on k.facts (gx id)))
    (index : IndexValue) (covers : Covers (view h.facts) index) (at : NoCallAt index known) (by : NoCallIn index known) where
  -- what is read before and after
  abbrev v : View
  v = view h.facts

  abbrev w : View
  w = view k.facts

  -- who asks for a gateway's session is another, and shows what it showed
  asking_shows : (a : Session) (p : Place) → is_gx a.kind ≡ false → value v a p ≡ value w a p
  asking_shows a p asks =
      let other : a ≡ gx id → ⊥ = λ e. clash (is_gx a.kind) (ap (λ (s : Session). is_gx s.kind) e) asks in
      ap (option_map (λ (e : Entry). e.1)) ((said h.facts k.facts (gx id) a differs other).shows p)

  -- the session shows the address of the record
  own_address : value w (gx id) address ≡ value_at (entry_shown known) address
  own_address = own_value k.facts (gx id) address ∙ sym (ap value_of alike.at_address)

  -- and its prefix
  own_prefix : value w (gx id) prefix ≡ value_at (entry_shown known) prefix
  own_prefix = own_value k.facts (gx id) prefix ∙ sym (ap value_of alike.at_prefix)

  -- so no session can be bound to it
  pub no_call_matches : NoneMatches (view k.facts) (gx id)
  no_call_matches a m =
      let asks = (matched w a (gx id) m).asks in
      let call : a.kind ≡ Af = of_call a a.kind refl asks in
      elim (how_they_meet w a (gx id) m) [
        | inl x ↦
            let n = at.none x.0 (sym own_address ∙ x.2) in
            let listed = covers.addresses a n.0 (asking_shows a address asks ∙ x.1 ∙ ap Some n.1) in
            subst (λ (l : List (List ℕ)). In a.id l) (ap (λ (d : Kind). listed_at index d n.0) call ∙ n.2) listed
        | inr n ↦
            let p = prefixes_met w a (gx id) m n.0 in
            let b = by.none p.shown (sym own_prefix ∙ p.shows) in
            let listed = covers.prefixes a p.asked (asking_shows a prefix asks ∙ p.asks) in
            let met : network_of p.shown ≡ network_of p.asked = one_network p.shown p.asked p.covered b.0 in
            subst (λ (l : List (List ℕ)). In a.id l)
            (ap (λ (d : Kind). listed_in index d (network_of p.asked)) call ∙ sym (ap (listed_in index Af) met) ∙ b.1) listed
      ]

-- ---- its rules

module _ (t : Tables) (facts : List SessionFact) (id : List ℕ) (known : List Fact) (alike : ShowAlike known (facts_on facts (gx id))) (live : gx_is_live known ≡ true)
    (none : NoneMatches (view facts) (gx id)) where
  -- its own facts
  abbrev own : List Fact
  own = facts_on facts (gx id)

  -- no call that is bound to it is left out
  nobody : HasBound facts (gx id) []
  nobody = record {
    own = λ e i. absurd i;
    has = λ a p x b shows. absurd (none (af a) ((bind-greatest facts (af a) (gx id)).0 (is_bound (view facts) (gx id) (af a) b)).fits);
  }

  -- the access point of the record has the same rules
  same_operator : operator_rules t (beside known []) (gx []) ≡ operator_rules t (beside (facts_on facts (gx id)) []) (gx [])
  same_operator =
      ap (λ (o : Option Value). unwrap_or (option_map (λ (r : ApnRow). map operator_rule r.rules) (option_and_then (apn_row t) (option_and_then as_text o))) []) alike.at_apn

  -- and is the same
  same_row : apn_of t (beside (facts_on facts (gx id)) []) (gx []) ≡ apn_of t (beside known []) (gx [])
  same_row = ap (λ (o : Option Value). option_and_then (apn_row t) (option_and_then as_text o)) (sym alike.at_apn)

  lives : gx_is_live (facts_on facts (gx id)) ≡ true
  lives = sym alike.lives ∙ live

  -- so the session's rules are those of its access point
  pub operators_alone : rules t (view facts) (gx id) ≡ map unkeyed (ascending keyed_cmp (map keyed (operator_rules t (beside known []) (gx []))))
  operators_alone = sym (derived_is t facts id [] nobody (facts_on facts (gx id)) refl lives (map keyed (operator_rules t (beside known []) (gx [])))
      (ap (map keyed) same_operator ∙ sym (append-nil (map keyed (operator_rules t (beside (facts_on facts (gx id)) []) (gx []))))))

  -- and no two have one name
  pub operators_apart : RowNamesApart t (beside known []) (gx []) → Distinct (map rule_name_of (rules t (view facts) (gx id)))
  operators_apart apart = derived_apart t facts id [] nobody (facts_on facts (gx id)) refl lives tt (λ row e. apart row (sym same_row ∙ e))

-- a session opens alone where no call is listed where its user is reached
pub opens_alone : (t : Tables) (h : Holding) (id : List ℕ) (known : List Fact) (index : IndexValue) (rs : List RuleValue)
    → facts_on h.facts (gx id) ≡ [] → gx_is_live known ≡ true → Covers (view h.facts) index → NoCallAt index known → NoCallIn index known
    → rs ≡ map unkeyed (ascending keyed_cmp (map keyed (operator_rules t (beside known []) (gx [])))) → RowNamesApart t (beside known []) (gx []) → OpensAlone t h id known rs
opens_alone t h id known index rs unknown live covers at by is apart = record {
  unknown = unknown;
  alone = λ k differs alike.
      let none = no_call_matches h k id known differs alike index covers at by in
      let has : rules t (view k.facts) (gx id) ≡ rs = operators_alone t k.facts id known alike live none ∙ sym is in
      record {
        unmatched = none;
        has = has;
        apart = subst (λ (xs : List RuleValue). Distinct (map rule_name_of xs)) has (operators_apart t k.facts id known alike live none apart);
      };
}

-- ---- once it came

-- a session of which nothing is known shows nothing
unknown_shows : (facts : List SessionFact) (s : Session) (p : Place) → facts_on facts s ≡ [] → value (view facts) s p ≡ None
unknown_shows facts s p none = own_value facts s p ∙ ap (λ (fs : List Fact). value_at (entry_shown fs) p) none

-- and isn't live
unknown_dead : (facts : List SessionFact) (id : List ℕ) → facts_on facts (gx id) ≡ [] → is_live (view facts) (gx id) ≡ false
unfolding view
unknown_dead facts id none = ap gx_is_live none

module _ (t : Tables) (i : ℕ) (h k : Holding) (id : List ℕ) (rs : List RuleValue) (unknown : facts_on h.facts (gx id) ≡ []) (differs : DifferInOne h.facts k.facts (gx id)) (now : IsAlone t k id rs) where
  -- nobody could be bound to it before
  none_before : NoneMatches (view h.facts) (gx id)
  none_before a m = clash (is_live (view h.facts) (gx id)) (matched (view h.facts) a (gx id) m).lives (unknown_dead h.facts id unknown)

  -- so every other session keeps its rules
  others_stay : (s : Session) → (s ≡ gx id → ⊥) → rules t (view h.facts) s ≡ rules t (view k.facts) s
  others_stay s other = others_keep t h.facts k.facts (gx id) s differs refl none_before now.unmatched other

  -- and each list that is kept is that of its session
  lists_kept : (before after : RulesValue) → KeepsOne before after id rs → AreCached t (view h.facts) before → AreCached t (view k.facts) after
  lists_kept before after keeps kept = record {
    each = λ q xs e. (there q xs e (is_eq (text_cmp q id)) refl).0;
    apart = λ q xs e. (there q xs e (is_eq (text_cmp q id)) refl).1;
  }
    where
      there : (q : List ℕ) (xs : List RuleValue) → cached_at after q ≡ Some xs → (b : Bool) → is_eq (text_cmp q id) ≡ b → (xs ≡ rules t (view k.facts) (gx q)) × Distinct (map rule_name_of xs)
      there q xs e true same =
          let its : q ≡ id = eq_is text_ranked q id same in
          let is : xs ≡ rs = keeps.own xs (ap (cached_at after) (sym its) ∙ e) in (
            is ∙ sym now.has ∙ ap (λ (n : List ℕ). rules t (view k.facts) (gx n)) (sym its),
            subst (λ (ys : List RuleValue). Distinct (map rule_name_of ys)) (sym is) now.apart,
          )
      there q xs e false n =
          let other : q ≡ id → ⊥ = λ its. clash (is_eq (text_cmp q id)) (ap (λ (m : List ℕ). is_eq (text_cmp q m)) (sym its) ∙ eq_itself text_ranked q) n in
          let was : cached_at before q ≡ Some xs = sym (keeps.others q other) ∙ e in (
            kept.each q xs was ∙ others_stay (gx q) (λ its. other (ap (λ (s : Session). s.id) its)),
            kept.apart q xs was,
          )

  -- so the parts agree, where the index is whole and lists the session, which waits
  pub agree_opened : (old new : IndexValue) (b c : Bool) (before after : RulesValue) (u w x : WaitingValue) → Covers (view h.facts) old → Grows old new → ListsGateway new id (facts_on k.facts (gx id))
      → KeepsOne before after id rs → Keeps u w → WaitsIfDue (view k.facts) w (gx id) → Agree t i h b old before u x → Agree t i k c new after w x
  agree_opened old new b c before after u w x covers grows lists keeps stay waits a = record {
    covers = λ _. placed_covered h.facts k.facts id new differs (covers_grow (view h.facts) old new grows covers) lists;
    kept = lists_kept before after keeps a.kept;
    due = record {
      listed = λ all. by_rules t i h.facts k.facts (gx id) (waiting_of u) (waiting_of w) differs (a.due.listed (stay.some all)) (stay.stay all) (λ s. elim (split (is_gx s.kind)) [
        | inr f ↦ inl (may_wait i (view k.facts) w s all (λ g. clash (is_gx s.kind) g f))
        | inl g ↦ elim (which (gx id) s) [
          | inl e ↦ inl (may_wait i (view k.facts) w s all (λ _. subst (λ (r : Session). WaitsIfDue (view k.facts) w r) (sym e) waits))
          | inr n ↦ inr (n, others_stay s n)
        ]
      ]);
    };
    abandoned = gateway_followed i h.facts k.facts (gx id) x x differs (keeps_itself x) a.abandoned refl
        old covers None (sym (unknown_shows h.facts (gx id) address unknown)) (record { each = λ p q e m. none_some p e })
        None (sym (unknown_shows h.facts (gx id) prefix unknown)) (λ p e. none_some p e);
  }
