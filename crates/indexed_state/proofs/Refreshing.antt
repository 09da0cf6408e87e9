-- Where each fact that comes refreshes what a gateway's session shows, it shows alike with them and without, and its gateway was told the same.
use Rattle.std.proofs.Common.{◌≡◌, ℕ, max, Bool, true, false, cond, not, ◌&&◌, ◌||◌, List, [], ◌∷◌, ◌++◌, Option, Some, None, is_some, inl, inr, refl, sym, ap, ◌∙◌, subst, option_map, filter}
use Rattle.std.proofs.lemmas.List.{append-nil}
use Rattle.std.proofs.lemmas.List.Elements.{filter_map-append}
use Rattle.std.proofs.lemmas.List.Folds.{list_any-append}
use Rattle.std.specs.Ordering.{is_eq}
use Rattle.std.specs.List.{list_any, list_all, filter_map, cons_option}
use Rattle.pcrf_values.specs.FlowWords.{value_at}
use Rattle.pcrf_values.specs.Sets.{In, Same, greatest}
use Rattle.pcrf_values.specs.declared.tag.Tag.{Tag}
use Rattle.pcrf_values.specs.Places.{Place, SessionField, FramedIpAddress, FramedIpv6Prefix, CalledStationId, SubscriptionIds, place_cmp, OfSession, OfComponent, OfFlow, OfRuleName, address, prefix, apn, subscribers}
use Rattle.pcrf_values.specs.Values.{Value, Entry, entry_cmp}
use Rattle.pcrf_values.specs.Facts.{Fact, End, Removed, Field, Aborted, fact_cmp, is_shaded_by}
use Rattle.pcrf_values.specs.Held.{kept_set, kept_list, join_of, ends, is_ended, blocks, is_gone, entry_at, entry_shown}
use Rattle.pcrf_values.specs.Held as held
use Rattle.pcrf_values.specs.Live.{Shows, shows_at, gx_places, is_reached, gx_has_what_it_needs, gx_is_live}
use Rattle.pcrf_values.specs.ToldWords.{ToldEntry, told_entry, told_entries, told_rule, told_rules}
use Rattle.pcrf_values.proofs.Plain.{clash, is_false, both, some_is, some_same, none_some}
use Rattle.pcrf_values.proofs.OrderLaws.{eq_is}
use Rattle.pcrf_values.proofs.SetLaws.{In-left, In-cases, any-none, both_top, In-filter, filter-In}
use Rattle.pcrf_values.proofs.AscendingLaws.{filter-ascending, ascending-ascending, same_ascending}
use Rattle.pcrf_values.proofs.FactLaws.{place_ranked, entry_ranked, fact_ranked}
use Rattle.pcrf_values.proofs.JoinedLaws.{kept-In, In-kept, sorted-In, held_twice}
use Rattle.pcrf_values.proofs.ShownLaws.{fact_gives_value, fact_there, value_is_greatest, shown-held, is_ended-held}
use Rattle.pcrf_model.specs.Holdings.{Holding, facts_on, kept_of}
use Rattle.pcrf_model.specs.Laws.{DifferInOne}
use Rattle.pcrf_model.specs.Operations.{Operation, with_operation}
use Rattle.pcrf_model.specs.Sessions.{Session}
use Rattle.pcrf_model.proofs.TakingLaws.{taking_changes_one}
use Rattle.indexed_state.specs.Alike.{ShowAlike, Refreshes, stays}
use Rattle.indexed_state.proofs.PlacedRecord.{held-append, put_known}
use Rattle.indexed_state.proofs.ListedRecords.{only_some}

-- ---- an operation that is taken

module _ (h k : Holding) (o : Operation) (kept : kept_of h ≡ h) (taken : k ≡ kept_of (with_operation h o)) (s : Session) (session : o.session ≡ s) where
  -- it changes its session alone
  pub taken_differs : DifferInOne h.facts k.facts s
  taken_differs =
      subst (λ (m : Holding). DifferInOne h.facts m.facts s) (sym taken)
      (subst (λ (r : Session). DifferInOne h.facts (kept_of (with_operation h o)).facts r) session (taking_changes_one h o kept))

  -- which has what is kept of its facts and of the operation's
  pub taken_known : join_of (facts_on h.facts s) (kept_list o.facts) ≡ facts_on k.facts s
  taken_known =
      put_known h o kept (max h.clock o.counter) refl s session (join_of (facts_on h.facts s) (kept_list o.facts)) refl
      ∙ ap (λ (m : Holding). facts_on m.facts s) (sym taken)

-- ---- plain steps

-- both parts of what holds together
both_true : (a b : Bool) → (a && b) ≡ true → (a ≡ true) × (b ≡ true)
both_true true b h = (refl, h)
both_true false b h = clash false h refl

or_no : (b : Bool) → (b || false) ≡ b
or_no true = refl
or_no false = refl

-- what shows isn't gone
not_gone : (b : Bool) (x : Option Entry) (e : Entry) → cond b None x ≡ Some e → (b ≡ false) × (x ≡ Some e)
not_gone true x e h = none_some e h
not_gone false x e h = (refl, h)

-- what facts say at a place, where none says anything there
none_taken : (p : Place) (fs : List Fact) → ((f : Fact) → In f fs → entry_at p f ≡ None) → filter_map (entry_at p) fs ≡ []
none_taken p [] quiet = refl
none_taken p (f ∷ fs) quiet =
    ap (λ (o : Option Entry). cons_option o (filter_map (entry_at p) fs)) (quiet f (inl refl))
    ∙ none_taken p fs (λ g i. quiet g (inr i))

-- fields at one place are one field
same_session : {a b : SessionField} → OfSession a ≡ OfSession b → a ≡ b
same_session {a} {b} h = cc

-- a fact that tells of a rule stands at its name
record TellsName (f : Fact) : Type 0 where
  name : List ℕ
  tag : Tag
  value : Value
  is : f ≡ Field (OfRuleName name) tag value

tells_name : (f : Fact) → is_some (told_entry f) ≡ true → TellsName f
tells_name End h = clash false h refl
tells_name (Removed r) h = clash false h refl
tells_name Aborted h = clash false h refl
tells_name (Field (OfSession s) t x) h = clash false h refl
tells_name (Field (OfComponent c s) t x) h = clash false h refl
tells_name (Field (OfFlow c n s) t x) h = clash false h refl
tells_name (Field (OfRuleName n) t x) h = record { name = n; tag = t; value = x; is = refl }

-- what a fact that refreshes is
record IsField (own : List Fact) (f : Fact) : Type 0 where
  at : SessionField
  tag : Tag
  value : Value
  is : f ≡ Field (OfSession at) tag value
  said : stays (entry_shown own) at value

its_field : (own : List Fact) (f : Fact) → Refreshes own f → IsField own f
its_field own End h = absurd h
its_field own (Removed r) h = absurd h
its_field own Aborted h = absurd h
its_field own (Field (OfSession s) t x) h = record { at = s; tag = t; value = x; is = refl; said = h }
its_field own (Field (OfComponent c s) t x) h = absurd h
its_field own (Field (OfFlow c n s) t x) h = absurd h
its_field own (Field (OfRuleName n) t x) h = absurd h

module _ (own ts : List Fact) (each : (f : Fact) → In f ts → Refreshes own f) where
  -- each of them
  field : (f : Fact) → In f ts → IsField own f
  field f i = its_field own f (each f i)

  -- a test that none of them passes
  any_same : (test : Fact → Bool) → ((f : Fact) → In f ts → test f ≡ false) → list_any test (own ++ ts) ≡ list_any test own
  any_same test none = list_any-append test own ts ∙ ap (λ b. list_any test own || b) (any-none test ts none) ∙ or_no (list_any test own)

  -- so the same places are gone
  gone : (p : Place) → is_gone (own ++ ts) p ≡ is_gone own p
  gone p = any_same (blocks p) (λ f i. ap (blocks p) (field f i).is)

  -- and it is ended just where it was
  ended : is_ended (own ++ ts) ≡ is_ended own
  ended = any_same ends (λ f i. ap ends (field f i).is)

  -- a place of which they say nothing shows what it showed
  quiet_same : (p : Place) → ((f : Fact) → In f ts → entry_at p f ≡ None) → entry_shown (own ++ ts) p ≡ entry_shown own p
  quiet_same p quiet =
      let all = filter_map-append (entry_at p) own ts
      ∙ ap (λ (es : List Entry). filter_map (entry_at p) own ++ es) (none_taken p ts quiet)
      ∙ append-nil (filter_map (entry_at p) own) in
      λ i. cond (gone p i) None (greatest entry_cmp (all i))

  -- as of a field of which none may say anything
  quiet_field : (q : SessionField) → ((x : Value) → stays (entry_shown own) q x → ⊥) → (f : Fact) → In f ts → entry_at (OfSession q) f ≡ None
  quiet_field q never f i =
      let g = field f i in
      ap (entry_at (OfSession q)) g.is
      ∙ ap (λ b. cond b (Some (g.tag, g.value)) None) (is_false (is_eq (place_cmp (OfSession q) (OfSession g.at)))
      (λ e. never g.value (subst (λ (s : SessionField). stays (entry_shown own) s g.value) (sym (same_session (eq_is place_ranked (OfSession q) (OfSession g.at) e))) g.said)))

  -- what shows goes on to show
  goes_on : (p : Place) (e : Entry) → entry_shown own p ≡ Some e → (d : Entry) × (entry_shown (own ++ ts) p ≡ Some d)
  goes_on p e h =
      let there = fact_there own p e h in
      let more = fact_gives_value (own ++ ts) p e.0 e.1 (In-left (Field p e.0 e.1) own ts there) in
      let open_ = gone p ∙ (not_gone (is_gone own p) (held.greatest_entry own p) e h).0 in
      (more.0, ap (λ b. cond b None (held.greatest_entry (own ++ ts) p)) open_ ∙ more.1)

  -- so does what is there
  there_on : (p : Place) → shows_at (entry_shown own) p ≡ true → shows_at (entry_shown (own ++ ts)) p ≡ true
  there_on p h =
      let e = some_is (entry_shown own p) h in
      ap is_some (goes_on p e.0 e.1).1

  all_on : (ps : List Place) → list_all (shows_at (entry_shown own)) ps ≡ true → list_all (shows_at (entry_shown (own ++ ts))) ps ≡ true
  all_on [] h = refl
  all_on (p ∷ ps) h =
      let parts = both_true (shows_at (entry_shown own) p) (list_all (shows_at (entry_shown own)) ps) h in
      both (shows_at (entry_shown (own ++ ts)) p) (list_all (shows_at (entry_shown (own ++ ts))) ps) (there_on p parts.0) (all_on ps parts.1)

  -- the value stays at a field of which they say what shows
  value_stays : (q : SessionField) → shows_at (entry_shown own) (OfSession q) ≡ true
      → ((x : Value) → stays (entry_shown own) q x → value_at (entry_shown own) (OfSession q) ≡ Some x)
      → value_at (entry_shown own) (OfSession q) ≡ value_at (entry_shown (own ++ ts)) (OfSession q)
  value_stays q shown says =
      let p = OfSession q in
      let e = some_is (entry_shown own p) shown in
      let d = goes_on p e.0 e.1 in
      let was = ap (option_map (λ (x : Entry). x.1)) e.1 in
      let ours = value_is_greatest own p e.0 (not_gone (is_gone own p) (held.greatest_entry own p) e.0 e.1).1 in
      let all = value_is_greatest (own ++ ts) p d.0 (not_gone (is_gone (own ++ ts) p) (held.greatest_entry (own ++ ts) p) d.0 d.1).1 in
      let same : e.0.1 ≡ d.0.1 = elim (In-cases (Field p d.0.0 d.0.1) own ts all.there) [
        | inl i ↦ ap (λ (x : Entry). x.1) (both_top entry_cmp entry_ranked.total entry_ranked.same e.0 d.0 (ours.none_above d.0.0 d.0.1 i) (all.none_above e.0.0 e.0.1 (In-left (Field p e.0.0 e.0.1) own ts ours.there)))
        | inr i ↦ some_same e.0.1 d.0.1 (sym was ∙ says d.0.1 (each (Field p d.0.0 d.0.1) i))
      ] in
      was ∙ ap Some same ∙ sym (ap (option_map (λ (x : Entry). x.1)) d.1)

  -- ---- what is kept of all
  abbrev kept_both : List Fact
  kept_both = join_of own (kept_list ts)

  kept_is : kept_both ≡ kept_list (own ++ ts)
  kept_is = held-append own ts

  -- shows what all do
  shows_as : (p : Place) → entry_shown (own ++ ts) p ≡ entry_shown kept_both p
  shows_as p = sym (ap (λ (fs : List Fact). entry_shown fs p) kept_is ∙ shown-held (own ++ ts) p)

  -- and is ended where it was
  ended_as : is_ended own ≡ is_ended kept_both
  ended_as = sym (ap is_ended kept_is ∙ is_ended-held (own ++ ts) ∙ ended)

  at_address : entry_shown own address ≡ entry_shown kept_both address
  at_address = sym (quiet_same address (quiet_field FramedIpAddress (λ x h. h))) ∙ shows_as address

  at_prefix : entry_shown own prefix ≡ entry_shown kept_both prefix
  at_prefix = sym (quiet_same prefix (quiet_field FramedIpv6Prefix (λ x h. h))) ∙ shows_as prefix

  -- so of a live session all that is read stays
  pub refreshed_alike : gx_is_live own ≡ true → ShowAlike own (join_of own (kept_list ts))
  refreshed_alike live =
      let first = both_true (not (is_ended own)) (gx_has_what_it_needs (entry_shown own)) live in
      let needs = both_true (is_reached (entry_shown own)) (list_all (shows_at (entry_shown own)) gx_places) first.1 in
      let named = both_true (shows_at (entry_shown own) apn) _ needs.1 in
      let known = both_true (shows_at (entry_shown own) subscribers) _ named.1 in
      let shows : entry_shown (own ++ ts) ≡ entry_shown kept_both = λ i p. shows_as p i in
      let reached : is_reached (entry_shown own) ≡ is_reached (entry_shown kept_both) = λ i. is_some (at_address i) || (is_some (at_prefix i) || false) in
      let all = ap (λ (s : Shows). list_all (shows_at s) gx_places) (sym shows) ∙ all_on gx_places needs.1 in
      let still = both (not (is_ended kept_both)) (gx_has_what_it_needs (entry_shown kept_both)) (ap not (sym ended_as) ∙ first.0)
      (both (is_reached (entry_shown kept_both)) (list_all (shows_at (entry_shown kept_both)) gx_places) (sym reached ∙ needs.0) all) in
      record {
        lives = live ∙ sym still;
        at_address = at_address;
        at_prefix = at_prefix;
        at_apn = value_stays CalledStationId named.0 (λ x h. h) ∙ ap (λ (s : Shows). value_at s apn) shows;
        of_subscribers = value_stays SubscriptionIds known.0 (λ x h. h) ∙ ap (λ (s : Shows). value_at s subscribers) shows;
      }

  -- ---- what was told
  abbrev is_told : Fact → Bool
  is_told f = is_some (told_entry f)

  -- none of them tells anything
  tells_none : {P : Type 0} (f : Fact) → In f ts → is_told f ≡ true → P
  tells_none f i h = clash (is_told f) h (ap is_told (field f i).is)

  -- none of them overshadows what tells something
  none_shades : (f g : Fact) → is_told f ≡ true → In g ts → is_shaded_by f g ≡ false
  none_shades f g h i =
      let t = tells_name f h in
      let s = field g i in
      λ k. is_shaded_by (t.is k) (s.is k)

  -- so the same is told
  same_told : Same (filter is_told (kept_list (own ++ ts))) (filter is_told (kept_list own))
  same_told f = (
    λ i.
        let a = filter-In is_told f (kept_list (own ++ ts)) i in
        let k = kept-In f (own ++ ts) ((sorted-In (kept_set (own ++ ts)) f).0 a.0) in
        let here : In f own = elim (In-cases f own ts k.0) [ inl j ↦ j | inr j ↦ tells_none f j a.1 ] in
        In-filter is_told f (kept_list own) ((sorted-In (kept_set own) f).1 (In-kept f own here (λ g j. k.1 g (In-left g own ts j)))) a.1,
    λ i.
        let a = filter-In is_told f (kept_list own) i in
        let k = kept-In f own ((sorted-In (kept_set own) f).0 a.0) in
        let open_ : (g : Fact) → In g (own ++ ts) → is_shaded_by f g ≡ false = λ g j. elim (In-cases g own ts j) [ inl m ↦ k.1 g m | inr m ↦ none_shades f g a.1 m ] in
        In-filter is_told f (kept_list (own ++ ts)) ((sorted-In (kept_set (own ++ ts)) f).1 (In-kept f (own ++ ts) (In-left f own ts k.0) open_)) a.1,
  )

  facts_told : filter is_told (kept_list (own ++ ts)) ≡ filter is_told (kept_list own)
  facts_told = same_ascending fact_cmp fact_ranked (filter is_told (kept_list (own ++ ts))) (filter is_told (kept_list own))
      (filter-ascending fact_cmp is_told (kept_list (own ++ ts)) (ascending-ascending fact_cmp fact_ranked (kept_set (own ++ ts))))
      (filter-ascending fact_cmp is_told (kept_list own) (ascending-ascending fact_cmp fact_ranked (kept_set own)))
      same_told

  -- and so are the rules
  pub refreshed_told : told_rules own ≡ told_rules (join_of own (kept_list ts))
  refreshed_told =
      let entries : filter_map told_entry (kept_list own) ≡ filter_map told_entry (kept_list (own ++ ts)) =
      sym (only_some told_entry (kept_list own))
      ∙ ap (filter_map told_entry) (sym facts_told)
      ∙ only_some told_entry (kept_list (own ++ ts)) in
      let kept = sym (ap kept_list kept_is ∙ held_twice (own ++ ts)) in
      ap (filter_map told_rule) (entries ∙ ap (filter_map told_entry) kept)
