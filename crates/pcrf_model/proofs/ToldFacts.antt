-- What one session shows once more was told of it: its fields stay, and each name that was told shows what was told of it last.
use Rattle.std.proofs.Common.{◌≡◌, ℕ, Bool, true, false, cond, List, ◌++◌, map, ◌⊎◌, Some, None, inl, inr, sym, ap, ◌∙◌, subst, Less}
use Rattle.std.specs.Ordering.{is_lt, ordering_then}
use Rattle.std.specs.Cmp.{both_ways}
use Rattle.std.specs.List.{list_any, filter_map}
use Rattle.pcrf_values.specs.Sets.{In, Same}
use Rattle.pcrf_values.specs.Tags.{tag_cmp}
use Rattle.pcrf_values.specs.declared.tag.Tag.{Tag}
use Rattle.pcrf_values.proofs.Plain.{clash, is_false}
use Rattle.pcrf_values.proofs.OrderLaws.{eq_is}
use Rattle.pcrf_values.proofs.Greatest.{greatest_is, greatest_some}
use Rattle.pcrf_values.proofs.SetLaws.{In-left, In-right, In-cases, In-any, any-In, In-map, map-In, In-filter_map, filter_map-In, greatest-Same}
use Rattle.pcrf_values.specs.RuleValues.{RuleValue, DeltaValue}
use Rattle.pcrf_values.specs.Places.{Place, OfSession, OfComponent, OfFlow, OfRuleName}
use Rattle.pcrf_values.specs.Values.{Value, Untold, Told, value_cmp, Entry, entry_cmp}
use Rattle.pcrf_values.specs.Facts.{Fact, Field}
use Rattle.pcrf_values.specs.Held.{ends, is_ended, blocks, is_gone, entry_at, greatest_entry, entry_shown}
use Rattle.pcrf_values.proofs.FactLaws.{place_ranked, entry_ranked}
use Rattle.pcrf_values.proofs.ShownLaws.{field_entry, entry_field}
use Rattle.pcrf_model.specs.Differences.{rule_name_of}
use Rattle.pcrf_model.specs.Making.{told_facts}

-- the place is that of a rule's name
abbrev pub is_told : Place → Bool
is_told (OfSession f) = false
is_told (OfComponent c f) = false
is_told (OfFlow c n f) = false
is_told (OfRuleName n) = true

-- the fact tells something of a rule's name
pub record Tells (f : Fact) : Type 0 where
  pub name : List ℕ
  pub tag : Tag
  pub value : Value
  pub is : f ≡ Field (OfRuleName name) tag value

-- fields that are the same agree in all parts
pub same_field : (p q : Place) (t u : Tag) (x y : Value) → Field p t x ≡ Field q u y → (p ≡ q) × (t ≡ u) × (x ≡ y)
same_field p q t u x y h = (cc, cc, cc)

-- names at one place are one
pub same_name : {a b : List ℕ} → OfRuleName a ≡ OfRuleName b → a ≡ b
same_name {a} {b} h = cc

module _ (xs ts : List Fact) (tells : (f : Fact) → In f ts → Tells f) where
  -- a test that none of them passes
  pub any_same : (test : Fact → Bool) → ((f : Fact) → In f ts → test f ≡ false) → list_any test (xs ++ ts) ≡ list_any test xs
  any_same test none = both_ways _ _
      (λ h. let r = any-In test (xs ++ ts) h in elim (In-cases r.0 xs ts r.1) [
        | inl i ↦ In-any test r.0 xs i r.2
        | inr i ↦ clash (test r.0) r.2 (none r.0 i)
      ])
      (λ h. let r = any-In test xs h in In-any test r.0 (xs ++ ts) (In-left r.0 xs ts r.1) r.2)

  -- so the same places are gone
  pub gone_same : (p : Place) → is_gone (xs ++ ts) p ≡ is_gone xs p
  gone_same p = any_same (blocks p) (λ f i. ap (blocks p) (tells f i).is)

  -- and it is ended just where it was
  pub ended_same : is_ended (xs ++ ts) ≡ is_ended xs
  ended_same = any_same ends (λ f i. ap ends (tells f i).is)

  -- a place of which they say nothing shows what it showed
  pub shown_same : (p : Place) → ((f : Fact) → In f ts → entry_at p f ≡ None) → entry_shown (xs ++ ts) p ≡ entry_shown xs p
  shown_same p quiet = λ i. cond (gone_same p i) None (values i)
    where
      no_some : {P : Type 0} (e : Entry) → None ≡ Some e → P
      no_some e h = cc

      same : Same (filter_map (entry_at p) xs) (filter_map (entry_at p) (xs ++ ts))
      same e = (
        λ h. let r = filter_map-In (entry_at p) e xs h in In-filter_map (entry_at p) r.0 e (xs ++ ts) (In-left r.0 xs ts r.1) r.2,
        λ h. let r = filter_map-In (entry_at p) e (xs ++ ts) h in elim (In-cases r.0 xs ts r.1) [
          | inl i ↦ In-filter_map (entry_at p) r.0 e xs i r.2
          | inr i ↦ no_some e (sym (quiet r.0 i) ∙ r.2)
        ],
      )

      values : greatest_entry (xs ++ ts) p ≡ greatest_entry xs p
      values = greatest-Same entry_cmp entry_ranked.total entry_ranked.same (filter_map (entry_at p) xs) (filter_map (entry_at p) (xs ++ ts)) same

  -- of a place that is no rule's name they say nothing
  quiet_field : (p : Place) → is_told p ≡ false → (f : Fact) → In f ts → entry_at p f ≡ None
  quiet_field p h f i = ap (entry_at p) g.is ∙ ap (λ b. cond b (Some (g.tag, g.value)) None) (is_false _ (λ e. clash (is_told p) (ap is_told (eq_is place_ranked p (OfRuleName g.name) e)) h))
    where
      g : Tells f
      g = tells f i

  -- so fields show what they showed
  pub field_shows : (p : Place) → is_told p ≡ false → entry_shown (xs ++ ts) p ≡ entry_shown xs p
  field_shows p h = shown_same p (quiet_field p h)

-- ---- telling a difference

-- each new fact tells a name that is removed, or a rule that is installed
pub told-In : (g : Tag) (d : DeltaValue) (f : Fact) → In f (told_facts g d) → ((n : List ℕ) × In n d.removed × (f ≡ Field (OfRuleName n) g Untold)) ⊎ ((r : RuleValue) × In r d.installed × (f ≡ Field (OfRuleName r.name) g (Told r)))
told-In g d f i = elim (In-cases f (map (λ n. Field (OfRuleName n) g Untold) d.removed) (map (λ (r : RuleValue). Field (OfRuleName r.name) g (Told r)) d.installed) i) [
  | inl j ↦ inl (map-In (λ n. Field (OfRuleName n) g Untold) f d.removed j)
  | inr j ↦ inr (map-In (λ (r : RuleValue). Field (OfRuleName r.name) g (Told r)) f d.installed j)
]

-- each tells something
pub told-tells : (g : Tag) (d : DeltaValue) (f : Fact) → In f (told_facts g d) → Tells f
told-tells g d f i = elim (told-In g d f i) [
  | inl r ↦ record { name = r.0; tag = g; value = Untold; is = r.2 }
  | inr r ↦ record { name = r.0.name; tag = g; value = Told r.0; is = r.2 }
]

-- what is to be told is apart: no two rules of a name, and no name both removed and installed
pub record IsApart (d : DeltaValue) : Type 0 where
  pub one_each : (a b : RuleValue) → In a d.installed → In b d.installed → a.name ≡ b.name → a ≡ b
  pub not_both : (n : List ℕ) → In n d.removed → In n (map rule_name_of d.installed) → ⊥

-- a fact on one name says nothing of another
other_name : (n m : List ℕ) (u : Tag) (x : Value) → (m ≡ n → ⊥) → entry_at (OfRuleName n) (Field (OfRuleName m) u x) ≡ None
other_name n m u x h = ap (λ b. cond b (Some (u, x)) None) (is_false _ (λ e. h (sym (same_name (eq_is place_ranked (OfRuleName n) (OfRuleName m) e)))))

module _ (xs : List Fact) (g : Tag) (d : DeltaValue) where
  -- the facts that tell it
  abbrev ts : List Fact
  ts = told_facts g d

  -- all that they say is under the one tag
  tagged : (n : List ℕ) (t : Tag) (y : Value) → In (Field (OfRuleName n) t y) ts → t ≡ g
  tagged n t y j = elim (told-In g d (Field (OfRuleName n) t y) j) [
    | inl q ↦ (same_field _ _ t g y Untold q.2).1
    | inr q ↦ (same_field _ _ t g y (Told q.0) q.2).1
  ]

  -- what they say of a name
  of_name : (n : List ℕ) (y : Value) → In (Field (OfRuleName n) g y) ts → ((In n d.removed) × (y ≡ Untold)) ⊎ ((r : RuleValue) × In r d.installed × (n ≡ r.name) × (y ≡ Told r))
  of_name n y j = elim (told-In g d (Field (OfRuleName n) g y) j) [
    | inl q ↦ let f = same_field (OfRuleName n) (OfRuleName q.0) g g y Untold q.2 in inl (subst (λ (m : List ℕ). In m d.removed) (sym (same_name f.0)) q.1, f.2)
    | inr q ↦ let f = same_field (OfRuleName n) (OfRuleName q.0.name) g g y (Told q.0) q.2 in inr (q.0, q.1, same_name f.0, f.2)
  ]

  module _ (older : (m : List ℕ) (u : Tag) (x : Value) → In (Field (OfRuleName m) u x) xs → tag_cmp u g ≡ Less) (open_ : (n : List ℕ) → is_gone xs (OfRuleName n) ≡ false) where
    -- what is told now shows, for its tag is above all before
    shows_new : (n : List ℕ) (x : Value) → In (Field (OfRuleName n) g x) ts → ((y : Value) → In (Field (OfRuleName n) g y) ts → y ≡ x) → entry_shown (xs ++ ts) (OfRuleName n) ≡ Some (g, x)
    shows_new n x i only =
        let p : Place = OfRuleName n in
        let es : List Entry = filter_map (entry_at p) (xs ++ ts) in
        let here : In (g, x) es = In-filter_map (entry_at p) (Field p g x) (g, x) (xs ++ ts) (In-right (Field p g x) xs ts i) (field_entry p (g, x)) in
        let c = greatest_some entry_cmp entry_ranked es (g, x) here in
        let top = greatest_is entry_cmp entry_ranked es c.0 c.1 in
        let r = filter_map-In (entry_at p) c.0 (xs ++ ts) top.0 in
        let is : r.0 ≡ Field p c.0.0 c.0.1 = entry_field p r.0 c.0 r.2 in
        let same : c.0 ≡ (g, x) = elim (In-cases r.0 xs ts r.1) [
          | inl j ↦
              let l = older n c.0.0 c.0.1 (subst (λ (f : Fact). In f xs) is j) in
              clash _ (ap is_lt (ap (λ o. ordering_then o (value_cmp c.0.1 x)) l)) (top.1 (g, x) here)
          | inr j ↦ from_new c.0 (subst (λ (f : Fact). In f ts) is j)
        ] in
        ap (λ b. cond b None (greatest_entry (xs ++ ts) p)) (gone_same xs ts (told-tells g d) p ∙ open_ n) ∙ c.1 ∙ ap Some same
      where
        from_new : (c : Entry) → In (Field (OfRuleName n) c.0 c.1) ts → c ≡ (g, x)
        from_new c j =
            let a = tagged n c.0 c.1 j in
            let b = only c.1 (subst (λ (t : Tag). In (Field (OfRuleName n) t c.1) ts) a j) in
            λ i. (a i, b i)

    module _ (its : IsApart d) where
      -- a removed name shows that nothing is told
      pub shows_untold : (n : List ℕ) → In n d.removed → entry_shown (xs ++ ts) (OfRuleName n) ≡ Some (g, Untold)
      shows_untold n i = shows_new n Untold
          (In-left (Field (OfRuleName n) g Untold) (map (λ n. Field (OfRuleName n) g Untold) d.removed) (map (λ (r : RuleValue). Field (OfRuleName r.name) g (Told r)) d.installed) (In-map (λ n. Field (OfRuleName n) g Untold) n d.removed i))
          (λ y j. elim (of_name n y j) [
            | inl q ↦ q.1
            | inr q ↦ absurd (its.not_both n i (subst (λ (m : List ℕ). In m (map rule_name_of d.installed)) (sym q.2) (In-map rule_name_of q.0 d.installed q.1)))
          ])

      -- an installed rule shows
      pub shows_told : (r : RuleValue) → In r d.installed → entry_shown (xs ++ ts) (OfRuleName r.name) ≡ Some (g, Told r)
      shows_told r i = shows_new r.name (Told r)
          (In-right (Field (OfRuleName r.name) g (Told r)) (map (λ n. Field (OfRuleName n) g Untold) d.removed) (map (λ (r : RuleValue). Field (OfRuleName r.name) g (Told r)) d.installed) (In-map (λ (r : RuleValue). Field (OfRuleName r.name) g (Told r)) r d.installed i))
          (λ y j. elim (of_name r.name y j) [
            | inl q ↦ absurd (its.not_both r.name q.0 (In-map rule_name_of r d.installed i))
            | inr q ↦ q.3 ∙ ap Told (sym (its.one_each r q.0 i q.1 q.2))
          ])

  -- any other name shows what it showed
  pub shows_old : (n : List ℕ) → (In n d.removed → ⊥) → (In n (map rule_name_of d.installed) → ⊥) → entry_shown (xs ++ ts) (OfRuleName n) ≡ entry_shown xs (OfRuleName n)
  shows_old n a b = shown_same xs ts (told-tells g d) (OfRuleName n) (λ f i. elim (told-In g d f i) [
    | inl r ↦ ap (entry_at (OfRuleName n)) r.2 ∙ other_name n r.0 g Untold (λ e. a (subst (λ (m : List ℕ). In m d.removed) e r.1))
    | inr r ↦ ap (entry_at (OfRuleName n)) r.2 ∙ other_name n r.0.name g (Told r.0) (λ e. b (subst (λ (m : List ℕ). In m (map rule_name_of d.installed)) e (In-map rule_name_of r.0 d.installed r.1)))
  ])
