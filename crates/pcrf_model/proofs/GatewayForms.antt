-- What a gateway's requests and pushes make is in form: the fields of a session, and what is told of its rules.
use Rattle.std.proofs.Common.{◌≡◌, ℕ, true, ◌&&◌, List, map, Option, Some, refl, sym, ap, ◌∙◌, subst, arith}
use Rattle.pcrf_values.specs.Sets.{In}
use Rattle.pcrf_values.specs.declared.tag.Tag.{Tag}
use Rattle.pcrf_values.proofs.Plain.{both, some_same}
use Rattle.pcrf_values.proofs.OrderLaws.{text_ranked, eq_itself}
use Rattle.pcrf_values.proofs.SetLaws.{In-map}
use Rattle.pcrf_values.specs.Limits.{rule_name_limit}
use Rattle.pcrf_values.specs.RuleValues.{RuleValue, DeltaValue}
use Rattle.pcrf_values.specs.Places.{SessionField, Place, OfSession, OfRuleName, Position, place_position}
use Rattle.pcrf_values.specs.Values.{Value, Untold, Told}
use Rattle.pcrf_values.specs.Facts.{Fact, Field, position}
use Rattle.pcrf_values.proofs.FactLaws.{tag_ranked}
use Rattle.pcrf_model.specs.Sessions.{Gx}
use Rattle.pcrf_model.specs.Differences.{rule_name_of}
use Rattle.pcrf_model.specs.Making.{told_facts}
use Rattle.pcrf_model.specs.Forms.{is_text, is_rule, is_tagged, fits, fits_session_field}
use Rattle.pcrf_model.proofs.ToldFacts.{IsApart}
use Rattle.pcrf_model.proofs.MadeForms.{IsField, field, clear_fields, MayMake, Each, ◌and◌, all_map, one_place, one_field, one_session_field}

-- A difference that may be told: names and rules in form, and apart.
pub record CanTell (d : DeltaValue) : Type 0 where
  pub names : (n : List ℕ) → In n d.removed → is_text rule_name_limit n ≡ true
  pub names_too : (r : RuleValue) → In r d.installed → is_text rule_name_limit r.name ≡ true
  pub rules : (r : RuleValue) → In r d.installed → is_rule r ≡ true
  pub apart : IsApart d

-- the tag of an operation's facts with that number
abbrev tag : ℕ → ℕ → ℕ → Tag
tag number counter site = record { number = number; counter = counter; site = site }

-- names at one position are one
one_name : (m n : List ℕ) → place_position (OfRuleName m) ≡ place_position (OfRuleName n) → m ≡ n
one_name m n e = ap (λ (p : Position). p.1.1.1.1) e

-- a fact of a gateway's operation: a field that says what the request does, under its number; or what is told, under number 0
pub data IsOfGateway (n c i : ℕ) (says : SessionField → Option Value) (d : DeltaValue) : Fact → Type 0 where
  at_field : (f : SessionField) (v : Value) → says f ≡ Some v → IsOfGateway n c i says d (Field (OfSession f) (tag n c i) v)
  untold_difference : (m : List ℕ) → In m d.removed → IsOfGateway n c i says d (Field (OfRuleName m) (tag 0 c i) Untold)
  newly_told : (r : RuleValue) → In r d.installed → IsOfGateway n c i says d (Field (OfRuleName r.name) (tag 0 c i) (Told r))

module _ (n c i : ℕ) (says : SessionField → Option Value) (d : DeltaValue) where
  -- such a fact
  abbrev Is : Fact → Type 0
  Is = IsOfGateway n c i says d

  -- what is told is so
  pub told_each : Each Is (told_facts (tag 0 c i) d)
  told_each =
      all_map (λ m. Field (OfRuleName m) (tag 0 c i) Untold) d.removed untold_difference
      and all_map (λ (r : RuleValue). Field (OfRuleName r.name) (tag 0 c i) (Told r)) d.installed newly_told

  -- and each is a field
  is_field : (f : Fact) → Is f → IsField f
  is_field f (at_field a v s) = field (OfSession a) (tag n c i) v
  is_field f (untold_difference m j) = field (OfRuleName m) (tag 0 c i) Untold
  is_field f (newly_told r j) = field (OfRuleName r.name) (tag 0 c i) (Told r)

  module _ (can : CanTell d) where
    -- two at one position are one
    apart : (f g : Fact) → Is f → Is g → position f ≡ position g → f ≡ g
    apart f g (at_field a v s) (at_field b w u) e =
        let p = one_place (OfSession a) (OfSession b) e in
        one_field (OfSession a) (OfSession b) (tag n c i) v w p (some_same v w (sym s ∙ ap says (one_session_field a b p) ∙ u))
    apart f g (untold_difference m j) (untold_difference o k) e = ap (λ (p : Place). Field p (tag 0 c i) Untold) (one_place (OfRuleName m) (OfRuleName o) e)
    apart f g (newly_told r j) (newly_told s k) e = ap (λ (x : RuleValue). Field (OfRuleName x.name) (tag 0 c i) (Told x)) (can.apart.one_each r s j k (one_name r.name s.name e))
    apart f g (untold_difference m j) (newly_told s k) e = absurd (can.apart.not_both m j (subst (λ (x : List ℕ). In x (map rule_name_of d.installed)) (sym (one_name m s.name e)) (In-map rule_name_of s d.installed k)))
    apart f g (newly_told r j) (untold_difference o k) e = absurd (can.apart.not_both o k (subst (λ (x : List ℕ). In x (map rule_name_of d.installed)) (one_name r.name o e) (In-map rule_name_of r d.installed j)))
    apart f g a b e = let k : (position f).0 ≡ (position g).0 = ap (λ (p : Position). p.0) e in absurd (omega (arith, k))

    module _ (fit : (f : SessionField) (v : Value) → says f ≡ Some v → fits_session_field Gx f v ≡ true) where
      -- each is in form
      in_form : (f : Fact) → Is f → (fits Gx f && is_tagged Gx c i n f) ≡ true
      in_form f (at_field a v s) = both _ _ (fit a v s) (eq_itself tag_ranked (tag n c i))
      in_form f (untold_difference m j) = both _ _ (both _ _ (can.names m j) refl) (eq_itself tag_ranked (tag 0 c i))
      in_form f (newly_told r j) =
          both _ _
          (both _ _ (can.names_too r j) (both _ _ (eq_itself text_ranked r.name) (can.rules r j)))
          (eq_itself tag_ranked (tag 0 c i))

      -- so such facts may make an operation
      pub gateway_makes : (facts : List Fact) → Each Is facts → ((f : Fact) × In f facts) → MayMake Gx c i n facts
      gateway_makes facts all one = record {
        stand = record {
          some = one;
          apart = λ f g j k. apart f g (all.so f j) (all.so g k);
          clear = λ f g j k. clear_fields f g (is_field f (all.so f j)) (is_field g (all.so g k)) (apart f g (all.so f j) (all.so g k));
        };
        each = λ f j. in_form f (all.so f j);
      }
