-- What shows is the same on the kept facts, and on the same set of facts.
use Rattle.std.proofs.Common.{◌≡◌, Bool, true, false, cond, List, [], ◌∷◌, ◌⊎◌, Option, Some, None, inl, inr, refl, sym, ap, ◌∙◌, subst}
use Rattle.std.specs.Ordering.{is_eq, is_lt}
use Rattle.std.specs.Cmp.{second_so}
use Rattle.std.specs.List.{list_any, filter_map}
use Rattle.pcrf_values.proofs.Plain.{clash, is_false, some_same, none_some}
use Rattle.pcrf_values.specs.Sets.{In, Same, greatest}
use Rattle.pcrf_values.specs.Places.{Place, place_cmp, covers}
use Rattle.pcrf_values.specs.Values.{Value, Entry, entry_cmp}
use Rattle.pcrf_values.specs.Facts.{Fact, End, Removed, Field, Aborted, is_shaded_by}
use Rattle.pcrf_values.specs.FactLaws.{ShowTheSame, IsGreatestAt}
use Rattle.pcrf_values.specs.declared.tag.Tag.{Tag}
use Rattle.pcrf_values.proofs.Greatest.{greatest_is, greatest_some}
use Rattle.pcrf_values.specs.Held.{kept_set, kept_list, removal, ends, is_ended, blocks, is_gone, entry_at, greatest_entry, entry_shown, aborts}
use Rattle.pcrf_values.proofs.SetLaws.{In-any, any-In, any-Same, top_of, any-maximal, greatest_reached, greatest-Same, In-filter_map, filter_map-In, filter_map-Same}
use Rattle.pcrf_values.proofs.OrderLaws.{eq_is, eq_itself}
use Rattle.pcrf_values.proofs.FactLaws.{place_ranked, entry_ranked, covers_more, same_place, shaded_irr, shaded_trans}
use Rattle.pcrf_values.proofs.JoinedLaws.{kept-In, sorted-In, held-Same, held_twice}

-- what blocks a place blocks it from above too
pub blocks_up : (p : Place) (f g : Fact) → blocks p f ≡ true → is_shaded_by f g ≡ true → blocks p g ≡ true
blocks_up p End g b s = clash false s refl
blocks_up p (Removed q) End b s = refl
blocks_up p (Removed q) (Removed r) b s = covers_more q r p b s
blocks_up p (Removed q) (Field r t v) b s = clash false s refl
blocks_up p (Removed q) Aborted b s = clash false s refl
blocks_up p f g b s = clash false b refl

-- the end is above all
ends_up : (f g : Fact) → ends f ≡ true → is_shaded_by f g ≡ true → ends g ≡ true
ends_up End g b s = clash false s refl
ends_up f g b s = clash false b refl

-- what overshadows a field at a place and is no field there blocks the place
pub blocks_field : (p : Place) (e : Entry) (g : Fact) → is_shaded_by (Field p e.0 e.1) g ≡ true → blocks p g ≡ false → (d : Entry) × (g ≡ Field p d.0 d.1) × (is_lt (entry_cmp e d) ≡ true)
blocks_field p e End s b = clash true refl b
blocks_field p e (Removed r) s b = clash (covers r p) s b
blocks_field p e Aborted s b = clash false s refl
blocks_field p e (Field q u w) s b = ((u, w), ap (λ (x : Place). Field x u w) (sym (same_place p q e.0 u e.1 w s)), second_so (is_eq (place_cmp p q)) _ s)

-- and what blocks a place overshadows each field there
pub field_blocked : (p : Place) (e : Entry) (g : Fact) → blocks p g ≡ true → is_shaded_by (Field p e.0 e.1) g ≡ true
field_blocked p e End b = refl
field_blocked p e (Removed r) b = b
field_blocked p e f b = clash false b refl

-- what is gone is so by what is kept
pub is_gone-kept : (facts : List Fact) (p : Place) → is_gone (kept_set facts) p ≡ is_gone facts p
is_gone-kept facts p = any-maximal is_shaded_by shaded_irr shaded_trans (blocks p) (blocks_up p) facts

-- and so is the end
pub is_ended-kept : (facts : List Fact) → is_ended (kept_set facts) ≡ is_ended facts
is_ended-kept facts = any-maximal is_shaded_by shaded_irr shaded_trans ends ends_up facts

-- the end is told by the members alone
pub is_ended-Same : (xs ys : List Fact) → Same xs ys → is_ended xs ≡ is_ended ys
is_ended-Same = any-Same ends

-- the value depends on the members alone
pub greatest_entry-Same : (xs ys : List Fact) (p : Place) → Same xs ys → greatest_entry xs p ≡ greatest_entry ys p
greatest_entry-Same xs ys p s = sym (greatest-Same entry_cmp entry_ranked.total entry_ranked.same (filter_map (entry_at p) xs) (filter_map (entry_at p) ys) (filter_map-Same (entry_at p) xs ys s))

-- and so does what shows
pub shown-Same : (xs ys : List Fact) (p : Place) → Same xs ys → entry_shown xs p ≡ entry_shown ys p
shown-Same xs ys p s = λ i. cond (any-Same (blocks p) xs ys s i) None (greatest_entry-Same xs ys p s i)

-- an entry at a place is that of a field there
some_entry : (b : Bool) (x e : Entry) → cond b (Some x) None ≡ Some e → (b ≡ true) × (x ≡ e)
some_entry true x e h = (refl, cc)
some_entry false x e h = cc

-- and the field has that entry
pub field_entry : (p : Place) (e : Entry) → entry_at p (Field p e.0 e.1) ≡ Some e
field_entry p e = ap (λ b. cond b (Some (e.0, e.1)) None) (eq_itself place_ranked p)

-- an entry at a place makes the fact a field there
pub entry_field : (p : Place) (f : Fact) (e : Entry) → entry_at p f ≡ Some e → f ≡ Field p e.0 e.1
entry_field p End e h = cc
entry_field p (Removed r) e h = cc
entry_field p Aborted e h = cc
entry_field p (Field q t v) e h =
    let k = some_entry (is_eq (place_cmp p q)) (t, v) e h in
    let same : q ≡ p = sym (eq_is place_ranked p q k.0) in
    λ i. Field (same i) (k.1 i).0 (k.1 i).1

module _ (facts : List Fact) (p : Place) (open_ : is_gone facts p ≡ false) where
  -- no fact blocks the place
  none_blocks : (g : Fact) → In g facts → blocks p g ≡ false
  none_blocks g i = is_false (blocks p g) (λ t. clash (is_gone facts p) (In-any (blocks p) g facts i t) open_)

  -- an entry is reached by what is kept on top of its fact
  reached : (m : Fact) (e : Entry) → In m (kept_set facts) → (Field p e.0 e.1 ≡ m) ⊎ (is_shaded_by (Field p e.0 e.1) m ≡ true)
      → (d : Entry) × In d (filter_map (entry_at p) (kept_set facts)) × ((e ≡ d) ⊎ (is_lt (entry_cmp e d) ≡ true))
  reached m e j (inl q) = (e, In-filter_map (entry_at p) m e (kept_set facts) j (ap (entry_at p) (sym q) ∙ field_entry p e), inl refl)
  reached m e j (inr s) =
      let r = blocks_field p e m s (none_blocks m (kept-In m facts j).0) in
      (r.0, In-filter_map (entry_at p) m r.0 (kept_set facts) j (ap (entry_at p) r.1 ∙ field_entry p r.0), inr r.2)

  -- the value is that of what is kept
  greatest_entry-kept : greatest_entry (kept_set facts) p ≡ greatest_entry facts p
  greatest_entry-kept = greatest_reached entry_cmp entry_ranked.total entry_ranked.same _ _
      (λ e i. let r = filter_map-In (entry_at p) e (kept_set facts) i in In-filter_map (entry_at p) r.0 e facts (kept-In r.0 facts r.1).0 r.2)
      (λ e i.
      let r = filter_map-In (entry_at p) e facts i in
      let t = top_of is_shaded_by shaded_irr shaded_trans r.0 facts r.1 in
      reached t.0 e t.1 (subst (λ (f : Fact). (f ≡ t.0) ⊎ (is_shaded_by f t.0 ≡ true)) (entry_field p r.0 e r.2) t.2))

-- what shows is the same on what is kept
pub shown-kept : (facts : List Fact) (p : Place) → entry_shown (kept_set facts) p ≡ entry_shown facts p
shown-kept facts p =
    ap (λ b. cond b None (greatest_entry (kept_set facts) p)) (is_gone-kept facts p)
    ∙ (elim (is_gone facts p) as (λ b. is_gone facts p ≡ b → cond b None (greatest_entry (kept_set facts) p) ≡ cond b None (greatest_entry facts p)) [
      | true ↦ λ _. refl
      | false ↦ λ f. greatest_entry-kept facts p f
    ]) refl

-- and on that in order
pub shown-held : (facts : List Fact) (p : Place) → entry_shown (kept_list facts) p ≡ entry_shown facts p
shown-held facts p = shown-Same (kept_list facts) (kept_set facts) p (sorted-In (kept_set facts)) ∙ shown-kept facts p

-- and the end too
pub is_ended-held : (facts : List Fact) → is_ended (kept_list facts) ≡ is_ended facts
is_ended-held facts = is_ended-Same (kept_list facts) (kept_set facts) (sorted-In (kept_set facts)) ∙ is_ended-kept facts

-- ---- what shows where all facts are kept
-- one entry is the greatest
greatest_one : (es : List Entry) (e : Entry) → In e es → ((d : Entry) → In d es → d ≡ e) → greatest entry_cmp es ≡ Some e
greatest_one es e i one = sym (greatest_reached entry_cmp entry_ranked.total entry_ranked.same es (e ∷ []) (λ d j. subst (λ (x : Entry). In x es) (elim j [ inl q ↦ sym q | inr k ↦ absurd k ]) i) (λ d j. (e, inl refl, inl (one d j))))

-- no entry, no greatest
greatest_none : (es : List Entry) → ((d : Entry) → In d es → ⊥) → greatest entry_cmp es ≡ None
greatest_none [] h = refl
greatest_none (e ∷ es) h = absurd (h e (inl refl))

-- the facts at a place are just these
pub record StandsAlone (facts : List Fact) (p : Place) (o : Option Entry) : Type 0 where
  pub stands : (e : Entry) → o ≡ Some e → In (Field p e.0 e.1) facts
  pub alone : (e : Entry) → In (Field p e.0 e.1) facts → o ≡ Some e

-- no entry
abbrev the_none : Option Entry
the_none = None

-- nothing, either way
either_way : (b : Bool) → cond b (the_none) the_none ≡ the_none
either_way true = refl
either_way false = refl

-- where all facts are kept, what stands at a place shows
pub shown_alone : (facts : List Fact) (p : Place) (o : Option Entry) → Same facts (kept_set facts) → StandsAlone facts p o → entry_shown facts p ≡ o
shown_alone facts p (Some e) s a =
    let here = a.stands e refl in
    let open_ : is_gone facts p ≡ false = is_false (is_gone facts p) (λ t. let r = any-In (blocks p) facts t in clash (is_shaded_by (Field p e.0 e.1) r.0) (field_blocked p e r.0 r.2) ((kept-In (Field p e.0 e.1) facts ((s (Field p e.0 e.1)).0 here)).1 r.0 r.1)) in
    ap (λ b. cond b None (greatest_entry facts p)) open_
    ∙ greatest_one (filter_map (entry_at p) facts) e (In-filter_map (entry_at p) (Field p e.0 e.1) e facts here (field_entry p e))
    (λ d i. let r = filter_map-In (entry_at p) d facts i in some_same d e (sym (a.alone d (subst (λ (f : Fact). In f facts) (entry_field p r.0 d r.2) r.1))))
shown_alone facts p None s a =
    let none : greatest_entry facts p ≡ None = greatest_none (filter_map (entry_at p) facts) (λ d i. let r = filter_map-In (entry_at p) d facts i in none_some d (a.alone d (subst (λ (f : Fact). In f facts) (entry_field p r.0 d r.2) r.1))) in
    ap (cond (is_gone facts p) None) none ∙ either_way (is_gone facts p)

-- ---- all that is read of one session

-- the same members show the same
pub members_show_the_same : (xs ys : List Fact) → Same xs ys → ShowTheSame xs ys
members_show_the_same xs ys s = record {
  shows = λ p. shown-Same xs ys p s;
  ended = is_ended-Same xs ys s;
  removals = ap (filter_map removal) (held-Same xs ys s);
  aborts = ap (list_any aborts) (held-Same xs ys s);
}

-- what is kept shows the same
pub held_shows_the_same : (facts : List Fact) → ShowTheSame (kept_list facts) facts
held_shows_the_same facts = record {
  shows = λ p. shown-held facts p;
  ended = is_ended-held facts;
  removals = ap (filter_map removal) (held_twice facts);
  aborts = ap (list_any aborts) (held_twice facts);
}

-- the value is of a fact, and none is above it
pub value_is_greatest : (facts : List Fact) (p : Place) (e : Entry) → greatest_entry facts p ≡ Some e → IsGreatestAt facts p e
value_is_greatest facts p e h =
    let g = greatest_is entry_cmp entry_ranked (filter_map (entry_at p) facts) e h in
    let r = filter_map-In (entry_at p) e facts g.0 in
    record {
      there = subst (λ (f : Fact). In f facts) (entry_field p r.0 e r.2) r.1;
      none_above = λ t x i. g.1 (t, x) (In-filter_map (entry_at p) (Field p t x) (t, x) facts i (field_entry p (t, x)));
    }

-- a fact gives one
pub fact_gives_value : (facts : List Fact) (p : Place) (t : Tag) (x : Value) → In (Field p t x) facts → (e : Entry) × (greatest_entry facts p ≡ Some e)
fact_gives_value facts p t x i = greatest_some entry_cmp entry_ranked (filter_map (entry_at p) facts) (t, x) (In-filter_map (entry_at p) (Field p t x) (t, x) facts i (field_entry p (t, x)))

-- what shows is a value
not_gone : (b : Bool) (x : Option Entry) (e : Entry) → cond b None x ≡ Some e → (b ≡ false) × (x ≡ Some e)
not_gone true x e h = absurd (cc)
not_gone false x e h = (refl, h)

-- where a place shows, a fact stands
pub fact_there : (facts : List Fact) (p : Place) (e : Entry) → entry_shown facts p ≡ Some e → In (Field p e.0 e.1) facts
fact_there facts p e h = (value_is_greatest facts p e (not_gone (is_gone facts p) (greatest_entry facts p) e h).1).there
