-- The keys under which the facts of a session, of a component and of a flow fall into parts.
use Rattle.std.proofs.lemmas.Bool.Decides.{nat_tests}
use Rattle.std.proofs.Common.{◌≡◌, ℕ, true, false, nat_eq, ◌⊎◌, Option, Some, None, inl, inr, refl, ap, ◌∙◌, subst, arith}
use Rattle.std.specs.Cmp.{first_so, second_so}
use Rattle.pcrf_values.specs.Places.{SessionField, ComponentField, FlowField, Place, OfSession, OfComponent, OfFlow, OfRuleName, Removable, Component, Flow, contains, covers}
use Rattle.pcrf_values.specs.Facts.{Fact, End, Removed, Field, Aborted, is_shaded_by}
use Rattle.pcrf_values.proofs.Plain.{clash, none_some}
use Rattle.pcrf_values.proofs.FactLaws.{same_place}
use Rattle.pcrf_values.proofs.PartLaws.{IsRising}

-- numbers that pass the test are one
pub number_is : (c d : ℕ) → nat_eq c d ≡ true → c ≡ d
number_is c d h = grind (arith, nat_tests)

-- and one passes
pub number_itself : (c : ℕ) → nat_eq c c ≡ true
number_itself c = grind (arith, nat_tests)

-- a key by places and by removals
abbrev pub key_by : {K : Type 0} → (Place → Option K) → (Removable → Option K) → Fact → Option K
key_by places removals End = None
key_by places removals (Removed r) = removals r
key_by places removals (Field p t v) = places p
key_by places removals Aborted = None

-- such a key rises where it does by what a removal contains and covers
pub key_rises : {K : Type 0} (places : Place → Option K) (removals : Removable → Option K)
    → ((s r : Removable) (k : K) → contains s r ≡ true → removals s ≡ Some k → removals r ≡ Some k)
    → ((s : Removable) (p : Place) (k : K) → covers s p ≡ true → removals s ≡ Some k → places p ≡ Some k)
    → IsRising is_shaded_by (key_by places removals)
key_rises {K} places removals f g = record { rise = rise }
  where
    rise : (a b : Fact) (k : K) → is_shaded_by a b ≡ true → key_by places removals b ≡ Some k → key_by places removals a ≡ Some k
    rise a End k h e = none_some k e
    rise a Aborted k h e = none_some k e
    rise End (Removed s) k h e = clash false h refl
    rise (Removed r) (Removed s) k h e = f s r k h e
    rise (Field p t v) (Removed s) k h e = g s p k h e
    rise Aborted (Removed s) k h e = clash false h refl
    rise Aborted (Field q u w) k h e = clash false h refl
    rise End (Field q u w) k h e = clash false h refl
    rise (Removed r) (Field q u w) k h e = clash false h refl
    rise (Field p t v) (Field q u w) k h e = ap places (same_place p q t u v w h) ∙ e

-- ---- the keys within a session with components: its fields, and the numbers of components
abbrev pub session_place : Place → Option (SessionField ⊎ ℕ)
session_place (OfSession f) = Some (inl f)
session_place (OfComponent c f) = Some (inr c)
session_place (OfFlow c n f) = Some (inr c)
session_place (OfRuleName t) = None

-- by component
abbrev pub session_removal : Removable → Option (SessionField ⊎ ℕ)
session_removal (Component c) = Some (inr c)
session_removal (Flow c n) = Some (inr c)

-- of a fact
abbrev pub session_key : Fact → Option (SessionField ⊎ ℕ)
session_key = key_by session_place session_removal

-- one component
same_component : {F : Type 0} (c d : ℕ) (k : F ⊎ ℕ) → nat_eq c d ≡ true → Some (inr c) ≡ Some k → Some (inr d) ≡ Some k
same_component c d k h e = subst (λ (x : ℕ). Some (inr x) ≡ Some k) (number_is c d h) e

-- what a removal contains
session_contains : (s r : Removable) (k : SessionField ⊎ ℕ) → contains s r ≡ true → session_removal s ≡ Some k → session_removal r ≡ Some k
session_contains (Component c) (Component d) k h e = clash false h refl
session_contains (Component c) (Flow d n) k h e = same_component c d k h e
session_contains (Flow c n) (Component d) k h e = clash false h refl
session_contains (Flow c n) (Flow d m) k h e = clash false h refl

-- what a removal covers
session_covers : (s : Removable) (p : Place) (k : SessionField ⊎ ℕ) → covers s p ≡ true → session_removal s ≡ Some k → session_place p ≡ Some k
session_covers (Component c) (OfSession f) k h e = clash false h refl
session_covers (Component c) (OfComponent d f) k h e = same_component c d k h e
session_covers (Component c) (OfFlow d n f) k h e = same_component c d k h e
session_covers (Component c) (OfRuleName t) k h e = clash false h refl
session_covers (Flow c n) (OfSession f) k h e = clash false h refl
session_covers (Flow c n) (OfComponent d f) k h e = clash false h refl
session_covers (Flow c n) (OfFlow d m f) k h e = same_component c d k (first_so _ _ h) e
session_covers (Flow c n) (OfRuleName t) k h e = clash false h refl

-- so keys within a session rise
pub session_rises : IsRising is_shaded_by session_key
session_rises = key_rises session_place session_removal session_contains session_covers

-- ---- the keys within a component: its fields, and the numbers of flows
abbrev pub component_place : Place → Option (ComponentField ⊎ ℕ)
component_place (OfSession f) = None
component_place (OfComponent c f) = Some (inl f)
component_place (OfFlow c n f) = Some (inr n)
component_place (OfRuleName t) = None

-- by flow
abbrev pub component_removal : Removable → Option (ComponentField ⊎ ℕ)
component_removal (Component c) = None
component_removal (Flow c n) = Some (inr n)

-- of a fact
abbrev pub component_key : Fact → Option (ComponentField ⊎ ℕ)
component_key = key_by component_place component_removal

-- what a removal contains
component_contains : (s r : Removable) (k : ComponentField ⊎ ℕ) → contains s r ≡ true → component_removal s ≡ Some k → component_removal r ≡ Some k
component_contains (Component c) r k h e = none_some k e
component_contains (Flow c n) (Component d) k h e = clash false h refl
component_contains (Flow c n) (Flow d m) k h e = clash false h refl

-- what a removal covers
component_covers : (s : Removable) (p : Place) (k : ComponentField ⊎ ℕ) → covers s p ≡ true → component_removal s ≡ Some k → component_place p ≡ Some k
component_covers (Component c) p k h e = none_some k e
component_covers (Flow c n) (OfSession f) k h e = clash false h refl
component_covers (Flow c n) (OfComponent d f) k h e = clash false h refl
component_covers (Flow c n) (OfFlow d m f) k h e = same_component n m k (second_so (nat_eq c d) _ h) e
component_covers (Flow c n) (OfRuleName t) k h e = clash false h refl

-- so keys within a component rise
pub component_rises : IsRising is_shaded_by component_key
component_rises = key_rises component_place component_removal component_contains component_covers

-- ---- the keys within a flow: its fields
abbrev pub flow_place : Place → Option (FlowField ⊎ ℕ)
flow_place (OfSession f) = None
flow_place (OfComponent c f) = None
flow_place (OfFlow c n f) = Some (inl f)
flow_place (OfRuleName t) = None

-- no removal is within a flow
abbrev pub flow_removal : Removable → Option (FlowField ⊎ ℕ)
flow_removal r = None

-- of a fact
abbrev pub flow_key : Fact → Option (FlowField ⊎ ℕ)
flow_key = key_by flow_place flow_removal

-- keys within a flow rise
pub flow_rises : IsRising is_shaded_by flow_key
flow_rises = key_rises flow_place flow_removal (λ s r k h e. none_some k e) (λ s p k h e. none_some k e)
