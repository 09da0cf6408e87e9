-- What is read of a letter is what its version has.
use Rattle.std.proofs.Common.{◌≡◌, ℕ, zero, suc, Bool, true, false, cond, ◌==◌, List, [], ◌∷◌, ◌⊎◌, inl, inr, Option, Some, None, refl, ap, ◌∙◌, subst}
use Rattle.std.specs.List.{list_all}
use Rattle.pcrf_values.proofs.Plain.{both, some_same}
use Rattle.pcrf_values.specs.declared.tag.Tag.{Tag}
use Rattle.pcrf_values.specs.Places.{SessionField, session_fields, session_field_number, Place, OfSession, OfComponent, OfFlow, OfRuleName, Component, Flow}
use Rattle.pcrf_values.specs.Values.{Value}
use Rattle.pcrf_values.specs.Facts.{Fact, End, Removed, Field, Aborted}
use Rattle.fact_codec.specs.Reading.{Reader, go_on, give, given, many, row_with, byte, word}
use Rattle.fact_codec.specs.Said.{has_field, has_fact, passed, session_value, session_said, session_field, component_said, component_fact, flow_said, flow_fact, component_removed, flow_removed, told_said, told_field, gx_fact, af_fact, facts, tag, untagged, with_tag, held_gx_fact, held_af_fact}
use Rattle.fact_codec.proofs.HeldAgain.{same_had}

-- ---- steps of reading

-- one after the other
pub steps : {A B : Type 0} (o : Option (A × List ℕ)) (g : A → Reader B) (y : B × List ℕ) → go_on o g ≡ Some y → (x : A × List ℕ) × (o ≡ Some x) × (g x.0 x.1 ≡ Some y)
steps None g y h = absurd cc
steps (Some x) g y h = (x, refl, h)

-- what is given at the end
pub gives : {A : Type 0} (x : A) (bytes : List ℕ) (y : A × List ℕ) → give x bytes ≡ Some y → x ≡ y.0
gives {A} x bytes y h = ap (λ (z : A × List ℕ). z.0) (some_same (x, bytes) y h)

-- what passes
passes : {A : Type 0} (b : Bool) (x : A) (bytes : List ℕ) (y : A × List ℕ) → passed b x bytes ≡ Some y → (b ≡ true) × (x ≡ y.0)
passes true x bytes y h = (refl, gives x bytes y h)
passes false x bytes y h = absurd cc

-- one of two readers
pub either_reads : {A : Type 0} (b : Bool) (r s : Reader A) (bytes : List ℕ) (y : A × List ℕ) → cond b r s bytes ≡ Some y → (r bytes ≡ Some y) ⊎ (s bytes ≡ Some y)
either_reads true r s bytes y h = inl h
either_reads false r s bytes y h = inr h

-- so many of what passes
pub many_had : {A : Type 0} (r : Reader A) (ok : A → Bool) → ((bytes : List ℕ) (y : A × List ℕ) → r bytes ≡ Some y → ok y.0 ≡ true)
    → (n : ℕ) (bytes : List ℕ) (y : List A × List ℕ) → many r n bytes ≡ Some y → list_all ok y.0 ≡ true
unfolding many
many_had r ok each zero bytes y h = subst (λ l. list_all ok l ≡ true) (gives [] bytes y h) refl
many_had r ok each (suc n) bytes y h =
    let a = steps (r bytes) _ y h in
    let b = steps (many r n a.0.1) _ y a.2 in
    subst (λ l. list_all ok l ≡ true) (gives (a.0.0 ∷ b.0.0) b.0.1 y b.2) (both (ok a.0.0) _ (each bytes a.0 a.1) (many_had r ok each n a.0.1 b.0 b.1))

-- ---- facts
module _ (v : ℕ) where
  -- the fact that was given at the end
  at_end : (f : Fact) (bytes : List ℕ) (y : Fact × List ℕ) → has_fact v f ≡ true → give f bytes ≡ Some y → has_fact v y.0 ≡ true
  at_end f bytes y had h = subst (λ (g : Fact). has_fact v g ≡ true) (gives f bytes y h) had

  -- a field of a session
  session_said_had : (least most : ℕ) (bytes : List ℕ) (y : (SessionField × Value) × List ℕ) → session_said v least most bytes ≡ Some y → has_field v y.0.0 ≡ true
  unfolding session_said
  session_said_had least most bytes y h =
      let a = steps (byte bytes) _ y h in
      let b = steps (given (row_with session_field_number session_fields a.0.0) a.0.1) _ y a.2 in
      let c = steps (passed (has_field v b.0.0) b.0.0 b.0.1) _ y b.2 in
      let d = steps (session_value least most c.0.0 c.0.1) _ y c.2 in
      let p = passes (has_field v b.0.0) b.0.0 b.0.1 c.0 c.1 in
      let same = ap (λ (z : SessionField × Value). z.0) (gives (c.0.0, d.0.0) d.0.1 y d.2) in
      subst (λ (f : SessionField). has_field v f ≡ true) (p.1 ∙ same) p.0

  session_field_had : (least most : ℕ) (t : Tag) (bytes : List ℕ) (y : Fact × List ℕ) → session_field v least most t bytes ≡ Some y → has_fact v y.0 ≡ true
  session_field_had least most t bytes y h =
      let a = steps (session_said v least most bytes) _ y h in
      at_end (Field (OfSession a.0.0.0) t a.0.0.1) a.0.1 y (session_said_had least most bytes a.0 a.1) a.2

  -- of a gateway's session
  pub gx_fact_had : (t u : Tag) (bytes : List ℕ) (y : Fact × List ℕ) → gx_fact v t u bytes ≡ Some y → has_fact v y.0 ≡ true
  unfolding gx_fact
  gx_fact_had t u bytes y h =
      let a = steps (byte bytes) _ y h in
      elim (either_reads (a.0.0 == 1) _ _ a.0.1 y a.2) [
        | inl i ↦ at_end End a.0.1 y refl i
        | inr i ↦ elim (either_reads (a.0.0 == 2) _ _ a.0.1 y i) [
          | inl j ↦ session_field_had 1 2 t a.0.1 y j
          | inr j ↦ elim (either_reads (a.0.0 == 7) _ _ a.0.1 y j) [
            | inl k ↦ (let b = steps (told_said a.0.1) _ y k in at_end (Field (OfRuleName b.0.0.0) u b.0.0.1) b.0.1 y refl b.2)
            | inr k ↦ absurd cc
          ]
        ]
      ]

  component_had : (t : Tag) (bytes : List ℕ) (y : Fact × List ℕ) → component_fact t bytes ≡ Some y → has_fact v y.0 ≡ true
  component_had t bytes y h =
      let a = steps (word bytes) _ y h in
      let b = steps (component_said a.0.1) _ y a.2 in
      at_end (Field (OfComponent a.0.0 b.0.0.0) t b.0.0.1) b.0.1 y refl b.2

  flow_had : (t : Tag) (bytes : List ℕ) (y : Fact × List ℕ) → flow_fact t bytes ≡ Some y → has_fact v y.0 ≡ true
  flow_had t bytes y h =
      let a = steps (word bytes) _ y h in
      let b = steps (word a.0.1) _ y a.2 in
      let d = steps (flow_said b.0.1) _ y b.2 in
      at_end (Field (OfFlow a.0.0 b.0.0 d.0.0.0) t d.0.0.1) d.0.1 y refl d.2

  removed_had : (bytes : List ℕ) (y : Fact × List ℕ) → (component_removed bytes ≡ Some y) ⊎ (flow_removed bytes ≡ Some y) → has_fact v y.0 ≡ true
  removed_had bytes y (inl h) = let a = steps (word bytes) _ y h in at_end (Removed (Component a.0.0)) a.0.1 y refl a.2
  removed_had bytes y (inr h) =
      let a = steps (word bytes) _ y h in
      let b = steps (word a.0.1) _ y a.2 in
      at_end (Removed (Flow a.0.0 b.0.0)) b.0.1 y refl b.2

  -- of an application function's session
  pub af_fact_had : (t : Tag) (bytes : List ℕ) (y : Fact × List ℕ) → af_fact v t bytes ≡ Some y → has_fact v y.0 ≡ true
  unfolding af_fact
  af_fact_had t bytes y h =
      let a = steps (byte bytes) _ y h in
      let rest = a.0.1 in
      elim (either_reads (a.0.0 == 1) _ _ rest y a.2) [
        | inl i ↦ at_end End rest y refl i
        | inr i ↦ elim (either_reads (a.0.0 == 2) _ _ rest y i) [
          | inl j ↦ session_field_had 0 0 t rest y j
          | inr j ↦ elim (either_reads (a.0.0 == 3) _ _ rest y j) [
            | inl k ↦ removed_had rest y (inl k)
            | inr k ↦ elim (either_reads (a.0.0 == 4) _ _ rest y k) [
              | inl l ↦ removed_had rest y (inr l)
              | inr l ↦ elim (either_reads (a.0.0 == 5) _ _ rest y l) [
                | inl m ↦ component_had t rest y m
                | inr m ↦ elim (either_reads (a.0.0 == 6) _ _ rest y m) [
                  | inl n ↦ flow_had t rest y n
                  | inr n ↦ elim (either_reads (a.0.0 == 8) _ _ rest y n) [
                    | inl o ↦ (let p = passes (has_fact v Aborted) Aborted rest y o in subst (λ (f : Fact). has_fact v f ≡ true) p.1 p.0)
                    | inr o ↦ absurd cc
                  ]
                ]
              ]
            ]
          ]
        ]
      ]

  -- with a tag of its own
  with_tag_had : (f : Fact) (bytes : List ℕ) (y : Fact × List ℕ) → has_fact v f ≡ true → with_tag f bytes ≡ Some y → has_fact v y.0 ≡ true
  with_tag_had End bytes y had h = at_end End bytes y had h
  with_tag_had (Removed r) bytes y had h = at_end (Removed r) bytes y had h
  with_tag_had Aborted bytes y had h = at_end Aborted bytes y had h
  with_tag_had (Field p t x) bytes y had h =
      let a = steps (tag bytes) _ y h in
      at_end (Field p a.0.0 x) a.0.1 y (same_had v p a.0.0 t x ∙ had) a.2

  pub held_gx_fact_had : (bytes : List ℕ) (y : Fact × List ℕ) → held_gx_fact v bytes ≡ Some y → has_fact v y.0 ≡ true
  unfolding held_gx_fact
  held_gx_fact_had bytes y h =
      let a = steps (gx_fact v untagged untagged bytes) _ y h in
      with_tag_had a.0.0 a.0.1 y (gx_fact_had untagged untagged bytes a.0 a.1) a.2

  pub held_af_fact_had : (bytes : List ℕ) (y : Fact × List ℕ) → held_af_fact v bytes ≡ Some y → has_fact v y.0 ≡ true
  unfolding held_af_fact
  held_af_fact_had bytes y h =
      let a = steps (af_fact v untagged bytes) _ y h in
      with_tag_had a.0.0 a.0.1 y (af_fact_had untagged bytes a.0 a.1) a.2

  -- and as many as the number before them says
  pub facts_had : (r : Reader Fact) → ((bytes : List ℕ) (y : Fact × List ℕ) → r bytes ≡ Some y → has_fact v y.0 ≡ true)
      → (bytes : List ℕ) (y : List Fact × List ℕ) → facts r bytes ≡ Some y → list_all (has_fact v) y.0 ≡ true
  unfolding facts
  facts_had r each bytes y h =
      let a = steps (word bytes) _ y h in
      many_had r (has_fact v) each a.0.0 a.0.1 y a.2
