-- Where a gateway was told more of one session nothing else is read otherwise.
use Rattle.std.proofs.Common.{◌≡◌, ℕ, false, not, ◌&&◌, List, [], ◌∷◌, ◌++◌, map, Some, inl, inr, refl, sym, ap, ◌∙◌, subst, Ordering, append-nil}
use Rattle.std.specs.Ordering.{on}
use Rattle.pcrf_values.specs.Ascending.{Rises}
use Rattle.pcrf_values.specs.Sets.{In}
use Rattle.pcrf_values.proofs.Plain.{none_some, some_same}
use Rattle.pcrf_values.proofs.OrderLaws.{IsRanked, on_ranked}
use Rattle.pcrf_values.proofs.SetLaws.{In-left, In-cases, In-filter_map, filter_map-In}
use Rattle.pcrf_values.proofs.AscendingLaws.{filter_map-ascending, ascending-ascending, same_ascending}
use Rattle.pcrf_values.specs.Places.{Place, OfSession, OfComponent, OfFlow, OfRuleName, Removable, Component}
use Rattle.pcrf_values.specs.Facts.{Fact, Removed, fact_cmp, is_shaded_by}
use Rattle.pcrf_values.specs.Held.{aborts, is_aborted, kept_set, kept_list, removal, removed_parts, entry_shown}
use Rattle.pcrf_values.proofs.AbortLaws.{aborted_until_the_end}
use Rattle.pcrf_values.proofs.FactLaws.{fact_ranked}
use Rattle.pcrf_values.proofs.JoinedLaws.{kept-In, In-kept, sorted-In}
use Rattle.pcrf_model.specs.Sessions.{Session}
use Rattle.pcrf_model.specs.Holdings.{SessionFact, under, facts_on}
use Rattle.pcrf_model.specs.Views.{View, view}
use Rattle.pcrf_model.specs.Live.{is_live, is_partial, home}
use Rattle.pcrf_model.specs.Bindings.{matches, bind}
use Rattle.pcrf_model.specs.Tables.{Tables}
use Rattle.pcrf_model.specs.Rules.{rules}
use Rattle.pcrf_model.specs.Differences.{told_cmp, told_rules_of, difference}
use Rattle.pcrf_model.specs.Laws.{ReadsAllButTold}
use Rattle.pcrf_model.proofs.HoldingLaws.{facts_on-In, under-In}
use Rattle.pcrf_model.proofs.ViewLaws.{its_session, sessions_alone}
use Rattle.pcrf_model.proofs.ToldLaws.{told-shows, In-told, told_is_told}
use Rattle.pcrf_model.proofs.ToldFacts.{is_told, Tells, any_same, ended_same}
use Rattle.pcrf_model.proofs.DifferenceLaws.{told_ranked}
use Rattle.pcrf_model.proofs.TellingLaws.{fields_of, rules-fields_of, facts_after, field_same, same_ended, fields_same}

-- a list without a member is empty
pub no_member : {A : Type 0} (xs : List A) → ((x : A) → In x xs → ⊥) → xs ≡ []
no_member [] none = refl
no_member (x ∷ xs) none = absurd (none x (inl refl))

-- a place that is no rule's name tells of none
not_told : (p : Place) → ((n : List ℕ) → p ≡ OfRuleName n → ⊥) → is_told p ≡ false
not_told (OfSession f) other = refl
not_told (OfComponent c f) other = refl
not_told (OfFlow c n f) other = refl
not_told (OfRuleName n) other = absurd (other n refl)

-- ---- what is removed

-- parts that are removed stand as the facts that say so
abbrev removed_cmp : Removable → Removable → Ordering
removed_cmp = on Removed fact_cmp

-- what a fact removes, anything where it removes nothing
part_of : Fact → Removable
part_of (Removed r) = r
part_of f = Component 0

-- they are ranked
removed_ranked : IsRanked removed_cmp
unfolding part_of
removed_ranked = on_ranked Removed part_of (λ r. refl) fact_ranked

-- a removal is one
removal_is : (f : Fact) (r : Removable) → removal f ≡ Some r → f ≡ Removed r
removal_is (Removed q) r h = ap Removed (some_same q r h)
removal_is f r h = none_some r h

-- removed parts are in order
parts_rise : (facts : List Fact) → Rises removed_cmp (removed_parts facts)
parts_rise facts = filter_map-ascending fact_cmp removed_cmp removal (kept_list facts)
    (λ x y r q i j less e h. (λ k. fact_cmp (sym (removal_is x r e) k) (sym (removal_is y q h) k)) ∙ less)
    (ascending-ascending fact_cmp fact_ranked (kept_set facts))

-- a removal that none overshadows is a removed part
part_there : (facts : List Fact) (r : Removable) → In (Removed r) facts
    → ((g : Fact) → In g facts → is_shaded_by (Removed r) g ≡ false) → In r (removed_parts facts)
part_there facts r i clear =
    In-filter_map removal (Removed r) r (kept_list facts)
    ((sorted-In (kept_set facts) (Removed r)).1 (In-kept (Removed r) facts i clear)) refl

-- and each removed part is one
there_part : (facts : List Fact) (r : Removable) → In r (removed_parts facts)
    → In (Removed r) facts × ((g : Fact) → In g facts → is_shaded_by (Removed r) g ≡ false)
there_part facts r i =
    let f = filter_map-In removal r (kept_list facts) i in
    let is : f.0 ≡ Removed r = removal_is f.0 r f.2 in
    let kept = kept-In f.0 facts ((sorted-In (kept_set facts) f.0).0 f.1) in
    subst (λ (x : Fact). In x facts × ((g : Fact) → In g facts → is_shaded_by x g ≡ false)) is kept

-- ---- facts that tell

module _ (xs ts : List Fact) (tells : (f : Fact) → In f ts → Tells f) where
  -- none of them removes anything
  none_removes : (r : Removable) → In (Removed r) ts → ⊥
  none_removes r i =
      let t = tells (Removed r) i in
      none_some r (sym (ap removal t.is))

  -- or overshadows what does
  none_shades : (r : Removable) (g : Fact) → In g ts → is_shaded_by (Removed r) g ≡ false
  none_shades r g i = ap (is_shaded_by (Removed r)) (tells g i).is

  -- so the same is removed
  parts_same : removed_parts (xs ++ ts) ≡ removed_parts xs
  parts_same = same_ascending removed_cmp removed_ranked _ _ (parts_rise (xs ++ ts)) (parts_rise xs) (λ r. (
    λ i.
        let w = there_part (xs ++ ts) r i in
        part_there xs r (elim (In-cases (Removed r) xs ts w.0) [
          | inl j ↦ j
          | inr j ↦ absurd (none_removes r j)
        ]) (λ g j. w.1 g (In-left g xs ts j)),
    λ i.
        let w = there_part xs r i in
        part_there (xs ++ ts) r (In-left (Removed r) xs ts w.0) (λ g j. elim (In-cases g xs ts j) [
          | inl k ↦ w.1 g k
          | inr k ↦ none_shades r g k
        ]),
  ))

  -- and the same was aborted
  aborted_same : is_aborted (xs ++ ts) ≡ is_aborted xs
  aborted_same =
      let ended = ended_same xs ts tells in
      let noted = any_same xs ts tells aborts (λ f i. ap aborts (tells f i).is) in
      aborted_until_the_end (xs ++ ts)
      ∙ (λ i. not (ended i) && noted i)
      ∙ sym (aborted_until_the_end xs)

-- ---- what is read

module _ (xs : List SessionFact) (s : Session) (ts : List Fact) (tells : (f : Fact) → In f ts → Tells f)
    (known : In s (map its_session xs)) where
  -- before
  abbrev v : View
  v = view xs

  -- after
  abbrev w : View
  w = view (xs ++ under s ts)

  -- what a session has more
  abbrev more : Session → List Fact
  more r = facts_on (under s ts) r

  -- it tells
  more_tells : (r : Session) (f : Fact) → In f (more r) → Tells f
  more_tells r f i = tells f (under-In s (r, f) ts (facts_on-In (under s ts) r f i)).1

  -- another session has nothing more
  none_more : (r : Session) → (r ≡ s → ⊥) → facts_on (xs ++ under s ts) r ≡ facts_on xs r
  none_more r other =
      facts_after xs s ts tells r
      ∙ ap (λ (l : List Fact). facts_on xs r ++ l) (no_member (more r) (λ f i. other (under-In s (r, f) ts (facts_on-In (under s ts) r f i)).0))
      ∙ append-nil (facts_on xs r)

  -- so it shows the same
  same_elsewhere : (r : Session) (p : Place) → (r ≡ s → ⊥) → w.shows r p ≡ v.shows r p
  same_elsewhere r p other =
      (sessions_alone (xs ++ under s ts) r).shows p
      ∙ ap (λ (l : List Fact). entry_shown l p) (none_more r other)
      ∙ sym ((sessions_alone xs r).shows p)

  -- whatever is read of the fields is the same
  alike_in : {A : Type 0} (read : View → A) → read (fields_of w) ≡ read (fields_of v)
  alike_in read = ap read (fields_same xs s ts tells known)

  -- what is removed
  same_removals : (r : Session) → w.removals r ≡ v.removals r
  same_removals r =
      (sessions_alone (xs ++ under s ts) r).removals
      ∙ ap removed_parts (facts_after xs s ts tells r)
      ∙ parts_same (facts_on xs r) (more r) (more_tells r)
      ∙ sym (sessions_alone xs r).removals

  -- who was aborted
  same_aborts : (r : Session) → w.aborted r ≡ v.aborted r
  same_aborts r =
      (sessions_alone (xs ++ under s ts) r).aborts
      ∙ ap is_aborted (facts_after xs s ts tells r)
      ∙ aborted_same (facts_on xs r) (more r) (more_tells r)
      ∙ sym (sessions_alone xs r).aborts

  -- the rules
  same_lists : (t : Tables) (r : Session) → rules t w r ≡ rules t v r
  same_lists t r = sym (rules-fields_of t w r) ∙ alike_in (λ (z : View). rules t z r) ∙ rules-fields_of t v r

  -- told entries are in order
  told_rises : (facts : List SessionFact) (r : Session) → Rises told_cmp (told_rules_of (view facts) r)
  told_rises facts r = subst (Rises told_cmp) (told_is_told facts r).in_order (ascending-ascending told_cmp told_ranked (told_rules_of (view facts) r))

  -- and those of another session are the same
  same_entries : (r : Session) → (r ≡ s → ⊥) → told_rules_of w r ≡ told_rules_of v r
  same_entries r other = same_ascending told_cmp told_ranked _ _ (told_rises (xs ++ under s ts) r) (told_rises xs r) (λ u. (
    λ i. let k = told-shows (xs ++ under s ts) r u i in In-told xs r u.0 k.0 u.1 (sym (same_elsewhere r (OfRuleName u.0) other) ∙ k.1),
    λ i. let k = told-shows xs r u i in In-told (xs ++ under s ts) r u.0 k.0 u.1 (same_elsewhere r (OfRuleName u.0) other ∙ k.1),
  ))

  -- so all reads the same but what the gateway of the session was told
  pub all_but_told : ReadsAllButTold w v s
  unfolding bind
  all_but_told = record {
    fields = λ r p other. field_same xs s ts tells r p (not_told p other);
    elsewhere = same_elsewhere;
    ends = same_ended xs s ts tells;
    removals = same_removals;
    aborts = same_aborts;
    lives = λ r. alike_in (λ (z : View). is_live z r);
    partials = λ r. alike_in (λ (z : View). is_partial z r);
    homes = λ r. alike_in (λ (z : View). home z r);
    candidates = λ a r. alike_in (λ (z : View). matches z a r);
    bindings = λ a. alike_in (λ (z : View). bind z a);
    lists = same_lists;
    entries = same_entries;
    differences = λ t r other i. difference (same_entries r other i) (same_lists t r i);
  }

-- where nothing changed it does
pub but_told_itself : (v : View) (s : Session) → ReadsAllButTold v v s
but_told_itself v s = record {
  fields = λ r p other. refl;
  elsewhere = λ r p other. refl;
  ends = λ r. refl;
  removals = λ r. refl;
  aborts = λ r. refl;
  lives = λ r. refl;
  partials = λ r. refl;
  homes = λ r. refl;
  candidates = λ a r. refl;
  bindings = λ a. refl;
  lists = λ t r. refl;
  entries = λ r other. refl;
  differences = λ t r other. refl;
}
