-- What the gateway of a session was told is read of the facts of the session alone.
use Rattle.std.proofs.Common.{◌≡◌, ℕ, false, cond, ◌&&◌, List, Some, None, refl, sym, ap, ◌∙◌, subst, Ordering, Less, Equal, Greater}
use Rattle.std.specs.Ordering.{is_lt, ordering_then}
use Rattle.std.specs.Cmp.{tied_itself}
use Rattle.pcrf_values.specs.Ascending.{Rises}
use Rattle.pcrf_values.specs.Orders.{text_cmp}
use Rattle.pcrf_values.specs.Sets.{In, Same}
use Rattle.pcrf_values.specs.declared.tag.Tag.{Tag}
use Rattle.pcrf_values.proofs.Plain.{clash, is_false, none_some, some_same}
use Rattle.pcrf_values.proofs.OrderLaws.{text_ranked, eq_itself}
use Rattle.pcrf_values.proofs.SetLaws.{any-In, both_top, filter_map-In, In-filter_map}
use Rattle.pcrf_values.proofs.AscendingLaws.{filter_map-ascending, ascending-ascending, same_ascending}
use Rattle.pcrf_values.specs.RuleValues.{rule_cmp}
use Rattle.pcrf_values.specs.Places.{Place, OfSession, OfComponent, OfFlow, OfRuleName}
use Rattle.pcrf_values.specs.Values.{Number, Text, Address, Subscribers, Filters, Untold, Told, Prefix, Entry, entry_cmp}
use Rattle.pcrf_values.specs.Facts.{Fact, End, Removed, Field, Aborted, fact_cmp, is_shaded_by}
use Rattle.pcrf_values.specs.Held.{kept_set, kept_list, blocks, is_gone, greatest_entry, entry_shown}
use Rattle.pcrf_values.specs.ToldWords.{ToldEntry, ToldRule, told_entry, told_entries, told_rule}
use Rattle.pcrf_values.specs.ToldWords as words
use Rattle.pcrf_values.proofs.FactLaws.{place_ranked, entry_ranked, fact_ranked}
use Rattle.pcrf_values.proofs.JoinedLaws.{kept-In, sorted-In}
use Rattle.pcrf_values.proofs.ShownLaws.{field_blocked, fact_gives_value, value_is_greatest, shown-held, fact_there}
use Rattle.pcrf_model.specs.Sessions.{Session}
use Rattle.pcrf_model.specs.Holdings.{SessionFact, facts_on}
use Rattle.pcrf_model.specs.Views.{view}
use Rattle.pcrf_model.specs.Differences.{told_cmp, told_rules_of}
use Rattle.pcrf_model.proofs.DifferenceLaws.{told_ranked}
use Rattle.pcrf_model.proofs.ToldLaws.{told_is_told, told-shows, In-told}
use Rattle.pcrf_model.proofs.ViewLaws.{sessions_alone}
use Rattle.gx_records.specs.GxFacts.{told_value}

-- a field that is kept shows
pub kept_shows : (facts : List Fact) (p : Place) (e : Entry) → In (Field p e.0 e.1) (kept_list facts) → entry_shown facts p ≡ Some e
kept_shows facts p e i =
    let k = kept-In (Field p e.0 e.1) facts ((sorted-In (kept_set facts) (Field p e.0 e.1)).0 i) in
    let open_ : is_gone facts p ≡ false = is_false (is_gone facts p) (λ t. let r = any-In (blocks p) facts t in clash (is_shaded_by (Field p e.0 e.1) r.0) (field_blocked p e r.0 r.2) (k.1 r.0 r.1)) in
    let w = fact_gives_value facts p e.0 e.1 k.0 in
    let g = value_is_greatest facts p w.0 w.1 in
    let not_below : is_lt (entry_cmp e w.0) ≡ false = ap (λ b. b && is_lt (entry_cmp e w.0)) (sym (eq_itself place_ranked p)) ∙ k.1 (Field p w.0.0 w.0.1) g.there in
    let same : e ≡ w.0 = both_top entry_cmp entry_ranked.total entry_ranked.same e w.0 not_below (g.none_above e.0 e.1 k.0) in
    ap (λ b. cond b None (greatest_entry facts p)) open_ ∙ w.1 ∙ ap Some (sym same)

-- what tells of a rule stands at its name
entry_fact : (f : Fact) (a : ToldEntry) → told_entry f ≡ Some a → f ≡ Field (OfRuleName a.0) a.1.0 (told_value a.1.1)
entry_fact End a h = none_some a h
entry_fact (Removed r) a h = none_some a h
entry_fact Aborted a h = none_some a h
entry_fact (Field (OfSession s) t x) a h = none_some a h
entry_fact (Field (OfComponent c s) t x) a h = none_some a h
entry_fact (Field (OfFlow c n s) t x) a h = none_some a h
entry_fact (Field (OfRuleName n) t (Number x)) a h = none_some a h
entry_fact (Field (OfRuleName n) t (Text x)) a h = none_some a h
entry_fact (Field (OfRuleName n) t (Address x)) a h = none_some a h
entry_fact (Field (OfRuleName n) t (Subscribers x)) a h = none_some a h
entry_fact (Field (OfRuleName n) t (Filters x)) a h = none_some a h
entry_fact (Field (OfRuleName n) t (Prefix x)) a h = none_some a h
entry_fact (Field (OfRuleName n) t Untold) a h = ap (λ (z : ToldEntry). Field (OfRuleName z.0) z.1.0 (told_value z.1.1)) (some_same (n, (t, None)) a h)
entry_fact (Field (OfRuleName n) t (Told r)) a h = ap (λ (z : ToldEntry). Field (OfRuleName z.0) z.1.0 (told_value z.1.1)) (some_same (n, (t, Some r)) a h)

-- what tells of a rule to have tells of that rule
entry_rule : (a : ToldEntry) (u : ToldRule) → told_rule a ≡ Some u → a ≡ (u.0, (a.1.0, Some u.1))
entry_rule (n, (t, None)) u h = none_some u h
entry_rule (n, (t, Some r)) u h = ap (λ (z : ToldRule). (z.0, (t, Some z.1))) (some_same (n, r) u h)

module _ (facts : List Fact) where
  -- what is told stands at its name among what is kept
  entry_there : (f : Fact) (a : ToldEntry) → In f (kept_list facts) → told_entry f ≡ Some a → In (Field (OfRuleName a.0) a.1.0 (told_value a.1.1)) (kept_list facts)
  entry_there f a i h = subst (λ (g : Fact). In g (kept_list facts)) (entry_fact f a h) i

  -- by name
  abbrev name_cmp : ToldEntry → ToldEntry → Ordering
  name_cmp a b = text_cmp a.0 b.0

  -- as facts are in order, so are the names of what they tell
  name_order : (n m : List ℕ) (x y : Entry) → In (Field (OfRuleName n) x.0 x.1) (kept_list facts) → In (Field (OfRuleName m) y.0 y.1) (kept_list facts)
      → fact_cmp (Field (OfRuleName n) x.0 x.1) (Field (OfRuleName m) y.0 y.1) ≡ Less → text_cmp n m ≡ Less
  name_order n m x y i j l = elim (text_cmp n m) as (λ r. text_cmp n m ≡ r → ordering_then r (entry_cmp x y) ≡ Less → r ≡ Less) [
    | Less ↦ λ _ _. refl
    | Equal ↦ λ e k. clash (is_lt (entry_cmp x y)) (ap is_lt k) (ap is_lt (ap (entry_cmp x) (sym (same (text_ranked.same n m e))) ∙ tied_itself entry_ranked.total x))
    | Greater ↦ λ _ k. k
  ] refl l
    where
      same : n ≡ m → x ≡ y
      same e = some_same x y (sym (kept_shows facts (OfRuleName n) x i) ∙ ap (λ (z : List ℕ). entry_shown facts (OfRuleName z)) e ∙ kept_shows facts (OfRuleName m) y j)

  -- what is told of rules is in order by name
  entries_rise : Rises name_cmp (told_entries facts)
  entries_rise = filter_map-ascending fact_cmp name_cmp told_entry (kept_list facts)
      (λ f g a b i j l p o.
      name_order a.0 b.0 (a.1.0, told_value a.1.1) (b.1.0, told_value b.1.1) (entry_there f a i p) (entry_there g b j o)
      ((λ k. fact_cmp (sym (entry_fact f a p) k) (sym (entry_fact g b o) k)) ∙ l))
      (ascending-ascending fact_cmp fact_ranked (kept_set facts))

  -- and so are the rules that were told
  rules_rise : Rises told_cmp (words.told_rules facts)
  rules_rise = filter_map-ascending name_cmp told_cmp told_rule (told_entries facts)
      (λ a b u w i j l p o.
      ap (λ r. ordering_then r (rule_cmp u.1 w.1)) ((λ k. text_cmp (sym (entry_rule a u p) k).0 (sym (entry_rule b w o) k).0) ∙ l))
      entries_rise

  -- what was told shows at its name
  told_is_shown : (u : ToldRule) → In u (words.told_rules facts) → (g : Tag) × (entry_shown facts (OfRuleName u.0) ≡ Some (g, Told u.1))
  told_is_shown u i =
      let r = filter_map-In told_rule u (told_entries facts) i in
      let f = filter_map-In told_entry r.0 (kept_list facts) r.1 in
      let here = subst (λ (a : ToldEntry). In (Field (OfRuleName a.0) a.1.0 (told_value a.1.1)) (kept_list facts)) (entry_rule r.0 u r.2) (entry_there f.0 r.0 f.1 f.2) in
      (r.0.1.0, kept_shows facts (OfRuleName u.0) (r.0.1.0, Told u.1) here)

  -- what shows at a name was told
  shown_is_told : (u : ToldRule) (g : Tag) → entry_shown facts (OfRuleName u.0) ≡ Some (g, Told u.1) → In u (words.told_rules facts)
  shown_is_told u g h =
      let here = fact_there (kept_list facts) (OfRuleName u.0) (g, Told u.1) (shown-held facts (OfRuleName u.0) ∙ h) in
      In-filter_map told_rule (u.0, (g, Some u.1)) u (told_entries facts)
      (In-filter_map told_entry (Field (OfRuleName u.0) g (Told u.1)) (u.0, (g, Some u.1)) (kept_list facts) here refl) refl

module _ (facts : List SessionFact) (s : Session) where
  -- the session's own facts
  abbrev own : List Fact
  own = facts_on facts s

  -- the same was told
  told_the_same : Same (words.told_rules own) (told_rules_of (view facts) s)
  told_the_same u = (
    λ i. let r = told_is_shown own u i in In-told facts s u.0 r.0 u.1 ((sessions_alone facts s).shows (OfRuleName u.0) ∙ r.1),
    λ i. let r = told-shows facts s u i in shown_is_told own u r.0 (sym ((sessions_alone facts s).shows (OfRuleName u.0)) ∙ r.1),
  )

  -- in the same order
  pub told_alone : words.told_rules own ≡ told_rules_of (view facts) s
  told_alone = same_ascending told_cmp told_ranked (words.told_rules own) (told_rules_of (view facts) s)
      (rules_rise own)
      (subst (λ (us : List ToldRule). Rises told_cmp us) (told_is_told facts s).in_order (ascending-ascending told_cmp told_ranked (told_rules_of (view facts) s)))
      told_the_same
