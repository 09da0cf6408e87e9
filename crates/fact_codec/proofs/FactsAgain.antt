-- What is spelled so is read again, whatever follows it: fields and facts.
use Rattle.std.proofs.Common.{◌≡◌, ℕ, ◌^◌, ◌<◌, Bool, true, ◌&&◌, List, [], ◌∷◌, ◌++◌, length, Option, Some, refl, sym, ap, ◌∙◌, append_assoc, arith, eqb-true}
use Rattle.std.specs.Cmp.{first_so, second_so}
use Rattle.std.specs.Ordering.{is_eq}
use Rattle.std.specs.List.{flat_map, list_all}
use Rattle.pcrf_values.specs.Orders.{text_cmp}
use Rattle.pcrf_values.specs.Tags.{tag_cmp}
use Rattle.pcrf_values.specs.declared.tag.Tag.{Tag}
use Rattle.pcrf_values.proofs.OrderLaws.{eq_is, text_ranked}
use Rattle.pcrf_values.proofs.Plain.{both}
use Rattle.pcrf_values.specs.Limits.{identity_limit, rule_name_limit}
use Rattle.pcrf_values.specs.Places.{SessionField, FramedIpAddress, CalledStationId, SubscriptionIds, OriginHost, OriginRealm, RequestType, FramedIpv6Prefix, ComponentField, MediaType, ComponentStatus, ComponentRateUp, ComponentRateDown, FlowField, FlowDescriptions, FlowUsage, FlowStatus, FlowRateUp, FlowRateDown, session_field_number, component_field_number, flow_field_number, Place, OfSession, OfComponent, OfFlow, OfRuleName, Component, Flow}
use Rattle.pcrf_values.specs.Values.{Value, Number, Text, Address, Subscribers, Filters, Untold, Told, Prefix}
use Rattle.pcrf_values.specs.Facts.{Fact, End, Removed, Field, Aborted}
use Rattle.pcrf_values.proofs.FactLaws.{tag_ranked}
use Rattle.pcrf_model.specs.Sessions.{Kind, Gx, Af}
use Rattle.pcrf_model.specs.Forms.{is_text, is_rule, is_unsigned, fits, is_tagged, fits_session_field, fits_component_field, fits_flow_field, fits_rule_name}
use Rattle.fact_codec.specs.Spelling.{word_bytes, text_bytes, value_bytes, rule_bytes, fact_bytes, facts_bytes}
use Rattle.fact_codec.specs.Reading.{Reader, byte}
use Rattle.fact_codec.specs.Said.{has_field, has_fact, session_value, session_said, component_said, flow_said, rule, told_value, told_said, tag_of_stamp, gx_fact, af_fact, facts}
use Rattle.fact_codec.proofs.NumberLaws.{word_again}
use Rattle.fact_codec.proofs.ValuesAgain.{many_again, word_within_again, unsigned_again, text_again, apn_again, octets_again, prefix_again, subscribers_again, filters_again, rule_again}

-- the range of the type of the last request in sessions of each kind
abbrev pub least_last : Kind → ℕ
least_last Gx = 1
least_last Af = 0

abbrev pub most_last : Kind → ℕ
most_last Gx = 2
most_last Af = 0

-- a value of a field of a session
session_value_again : (k : Kind) (f : SessionField) (x : Value) (rest : List ℕ) → fits_session_field k f x ≡ true → session_value (least_last k) (most_last k) f (value_bytes x ++ rest) ≡ Some (x, rest)
unfolding value_bytes
session_value_again k FramedIpAddress (Address a) rest h = rw (octets_again a rest h) refl
session_value_again k FramedIpv6Prefix (Prefix p) rest h = rw (prefix_again p rest h) refl
session_value_again k CalledStationId (Text t) rest h = rw (apn_again t rest h) refl
session_value_again k SubscriptionIds (Subscribers ss) rest h = rw (subscribers_again ss rest h) refl
session_value_again k OriginHost (Text t) rest h = rw (text_again identity_limit t rest (omega arith) h) refl
session_value_again k OriginRealm (Text t) rest h = rw (text_again identity_limit t rest (omega arith) h) refl
session_value_again Gx RequestType (Number n) rest h = rw (word_within_again 1 2 n rest (omega arith) h) refl
session_value_again Af RequestType (Number n) rest h =
    let none : n ≡ 0 = eqb-true n 0 h in
    rw (word_within_again 0 0 n rest (omega arith) (rw none refl)) refl
session_value_again k f x rest h = absurd cc

-- a field of a session by its number, in letters that have it
session_said_again : (v : ℕ) (k : Kind) (f : SessionField) (x : Value) (rest : List ℕ) → has_field v f ≡ true → fits_session_field k f x ≡ true → session_said v (least_last k) (most_last k) (session_field_number f ∷ (value_bytes x ++ rest)) ≡ Some ((f, x), rest)
unfolding session_said byte
session_said_again v k FramedIpAddress x rest o h = rw (session_value_again k FramedIpAddress x rest h) refl
session_said_again v k CalledStationId x rest o h = rw (session_value_again k CalledStationId x rest h) refl
session_said_again v k SubscriptionIds x rest o h = rw (session_value_again k SubscriptionIds x rest h) refl
session_said_again v k OriginHost x rest o h = rw (session_value_again k OriginHost x rest h) refl
session_said_again v k OriginRealm x rest o h = rw (session_value_again k OriginRealm x rest h) refl
session_said_again v k RequestType x rest o h = rw (session_value_again k RequestType x rest h) refl
session_said_again v k FramedIpv6Prefix x rest o h = rw (o, session_value_again k FramedIpv6Prefix x rest h) refl

-- a field of a component
component_said_again : (f : ComponentField) (x : Value) (rest : List ℕ) → fits_component_field f x ≡ true → component_said (component_field_number f ∷ (value_bytes x ++ rest)) ≡ Some ((f, x), rest)
unfolding component_said byte value_bytes
component_said_again MediaType (Number n) rest h = rw (unsigned_again n rest h) refl
component_said_again ComponentStatus (Number n) rest h = rw (word_within_again 0 3 n rest (omega arith) h) refl
component_said_again ComponentRateUp (Number n) rest h = rw (unsigned_again n rest h) refl
component_said_again ComponentRateDown (Number n) rest h = rw (unsigned_again n rest h) refl
component_said_again f x rest h = absurd cc

-- a field of a flow
flow_said_again : (f : FlowField) (x : Value) (rest : List ℕ) → fits_flow_field f x ≡ true → flow_said (flow_field_number f ∷ (value_bytes x ++ rest)) ≡ Some ((f, x), rest)
unfolding flow_said byte value_bytes
flow_said_again FlowDescriptions (Filters fs) rest h = rw (filters_again fs rest h) refl
flow_said_again FlowUsage (Number n) rest h = rw (word_within_again 0 2 n rest (omega arith) h) refl
flow_said_again FlowStatus (Number n) rest h = rw (word_within_again 0 3 n rest (omega arith) h) refl
flow_said_again FlowRateUp (Number n) rest h = rw (unsigned_again n rest h) refl
flow_said_again FlowRateDown (Number n) rest h = rw (unsigned_again n rest h) refl
flow_said_again f x rest h = absurd cc

-- what was told under a name
told_value_again : (name : List ℕ) (x : Value) (rest : List ℕ) → fits_rule_name name x ≡ true → told_value name (value_bytes x ++ rest) ≡ Some (x, rest)
unfolding told_value byte value_bytes
told_value_again name Untold rest h = refl
told_value_again name (Told r) rest h =
    let same : r.name ≡ name = eq_is text_ranked r.name name (first_so _ _ h) in
    let formed : is_rule r ≡ true = second_so (is_eq (text_cmp r.name name)) _ h in
    let read : rule name (rule_bytes r ++ rest) ≡ Some (r, rest) = ap (λ (n : List ℕ). rule n (rule_bytes r ++ rest)) (sym same) ∙ rule_again r rest formed in
    rw read refl
told_value_again name x rest h = absurd cc

-- a name with what was told under it
told_said_again : (name : List ℕ) (x : Value) (rest : List ℕ) → (is_text rule_name_limit name && fits_rule_name name x) ≡ true → told_said (text_bytes name ++ (value_bytes x ++ rest)) ≡ Some ((name, x), rest)
unfolding told_said
told_said_again name x rest h =
    let formed : is_text rule_name_limit name ≡ true = first_so _ _ h in
    let fit : fits_rule_name name x ≡ true = second_so (is_text rule_name_limit name) _ h in
    rw (text_again rule_name_limit name (value_bytes x ++ rest) (omega arith) formed, told_value_again name x rest fit) refl

-- ---- facts

-- a field that was read, and what follows it
abbrev field_and : Place → Value → List ℕ → Tag → Option (Fact × List ℕ)
field_and p x rest t = Some (Field p t x, rest)

-- under the tag that the fact has
under : {p : Place} {x : Value} {rest : List ℕ} (t u : Tag) → is_eq (tag_cmp t u) ≡ true → field_and p x rest u ≡ field_and p x rest t
under {p} {x} {rest} t u h = ap (field_and p x rest) (sym (eq_is tag_ranked t u h))

-- a fact that an operation of that stamp and number makes
abbrev pub is_made : Kind → ℕ → ℕ → ℕ → Fact → Bool
is_made k counter site number f = fits k f && is_tagged k counter site number f

module _ (v counter site number : ℕ) where
  -- of a gateway's session
  pub gx_fact_again : (f : Fact) (rest : List ℕ) → has_fact v f ≡ true → is_made Gx counter site number f ≡ true → gx_fact v (tag_of_stamp number counter site) (tag_of_stamp 0 counter site) (fact_bytes f ++ rest) ≡ Some (f, rest)
  unfolding gx_fact byte fact_bytes
  gx_fact_again End rest o h = refl
  gx_fact_again (Field (OfSession f) t x) rest o h =
      rw (session_said_again v Gx f x rest o (first_so _ _ h)) (under t _ (second_so (fits_session_field Gx f x) _ h))
  gx_fact_again (Field (OfRuleName name) t x) rest o h =
      rw (append_assoc (text_bytes name) (value_bytes x) rest, told_said_again name x rest (first_so _ _ h))
      (under t _ (second_so (is_text rule_name_limit name && fits_rule_name name x) _ h))
  gx_fact_again f rest o h = absurd cc

  -- of an application function's session
  pub af_fact_again : (f : Fact) (rest : List ℕ) → has_fact v f ≡ true → is_made Af counter site number f ≡ true → af_fact v (tag_of_stamp 0 counter site) (fact_bytes f ++ rest) ≡ Some (f, rest)
  unfolding af_fact byte fact_bytes
  af_fact_again End rest o h = refl
  af_fact_again Aborted rest o h = rw o refl
  af_fact_again (Removed (Component c)) rest o h = rw (unsigned_again c rest (first_so _ _ h)) refl
  af_fact_again (Removed (Flow c n)) rest o h =
      let both : (is_unsigned c && is_unsigned n) ≡ true = first_so _ _ h in
      rw (append_assoc (word_bytes c) (word_bytes n) rest, unsigned_again c (word_bytes n ++ rest) (first_so _ _ both), unsigned_again n rest (second_so (is_unsigned c) _ both)) refl
  af_fact_again (Field (OfSession f) t x) rest o h =
      rw (session_said_again v Af f x rest o (first_so _ _ h)) (under t _ (second_so (fits_session_field Af f x) _ h))
  af_fact_again (Field (OfComponent c f) t x) rest o h =
      let fit : (is_unsigned c && fits_component_field f x) ≡ true = first_so _ _ h in
      let number_of = component_field_number f in
      let after = number_of ∷ (value_bytes x ++ rest) in
      let parts : ((word_bytes c ++ number_of ∷ []) ++ value_bytes x) ++ rest ≡ word_bytes c ++ after =
      append_assoc (word_bytes c ++ number_of ∷ []) (value_bytes x) rest ∙ append_assoc (word_bytes c) (number_of ∷ []) (value_bytes x ++ rest) in
      rw (parts, unsigned_again c after (first_so _ _ fit), component_said_again f x rest (second_so (is_unsigned c) _ fit))
      (under t _ (second_so (is_unsigned c && fits_component_field f x) _ h))
  af_fact_again (Field (OfFlow c n f) t x) rest o h =
      let fit : (is_unsigned c && is_unsigned n && fits_flow_field f x) ≡ true = first_so _ _ h in
      let numbers : (is_unsigned c && is_unsigned n) ≡ true = first_so _ _ fit in
      let number_of = flow_field_number f in
      let after = number_of ∷ (value_bytes x ++ rest) in
      let parts : (((word_bytes c ++ word_bytes n) ++ number_of ∷ []) ++ value_bytes x) ++ rest ≡ word_bytes c ++ (word_bytes n ++ after) =
      append_assoc ((word_bytes c ++ word_bytes n) ++ number_of ∷ []) (value_bytes x) rest
      ∙ append_assoc (word_bytes c ++ word_bytes n) (number_of ∷ []) (value_bytes x ++ rest)
      ∙ append_assoc (word_bytes c) (word_bytes n) after in
      rw (parts, unsigned_again c (word_bytes n ++ after) (first_so _ _ numbers), unsigned_again n after (second_so (is_unsigned c) _ numbers), flow_said_again f x rest (second_so (is_unsigned c && is_unsigned n) _ fit))
      (under t _ (second_so (is_unsigned c && is_unsigned n && fits_flow_field f x) _ h))
  af_fact_again f rest o h = absurd cc

-- what passes two tests passes both
pub all_both : {A : Type 0} (p q : A → Bool) (xs : List A) → list_all p xs ≡ true → list_all q xs ≡ true → list_all (λ x. p x && q x) xs ≡ true
all_both p q [] h k = refl
all_both p q (x ∷ xs) h k =
    both (p x && q x) _ (both (p x) (q x) (first_so (p x) _ h) (first_so (q x) _ k)) (all_both p q xs (second_so (p x) _ h) (second_so (q x) _ k))

-- facts, and before them how many they are
pub facts_again : (fact : Reader Fact) (ok : Fact → Bool) → ((f : Fact) (rest : List ℕ) → ok f ≡ true → fact (fact_bytes f ++ rest) ≡ Some (f, rest))
    → (fs : List Fact) (rest : List ℕ) → length fs < 2 ^ 32 → list_all ok fs ≡ true → facts fact (facts_bytes fs ++ rest) ≡ Some (fs, rest)
unfolding facts facts_bytes
facts_again fact ok each fs rest low all =
    rw (append_assoc (word_bytes (length fs)) (flat_map fact_bytes fs) rest, word_again (length fs) (flat_map fact_bytes fs ++ rest) low, many_again fact fact_bytes ok each fs rest all) refl

-- those of an operation on a gateway's session
pub gx_facts_again : (v counter site number : ℕ) (fs : List Fact) (rest : List ℕ) → length fs < 2 ^ 32 → list_all (is_made Gx counter site number) fs ≡ true → list_all (has_fact v) fs ≡ true → facts (gx_fact v (tag_of_stamp number counter site) (tag_of_stamp 0 counter site)) (facts_bytes fs ++ rest) ≡ Some (fs, rest)
gx_facts_again v counter site number fs rest low made had = facts_again (gx_fact v (tag_of_stamp number counter site) (tag_of_stamp 0 counter site)) (λ f. has_fact v f && is_made Gx counter site number f) (λ f more h. gx_fact_again v counter site number f more (first_so (has_fact v f) _ h) (second_so (has_fact v f) _ h)) fs rest low (all_both (has_fact v) (is_made Gx counter site number) fs had made)

-- and on an application function's
pub af_facts_again : (v counter site number : ℕ) (fs : List Fact) (rest : List ℕ) → length fs < 2 ^ 32 → list_all (is_made Af counter site number) fs ≡ true → list_all (has_fact v) fs ≡ true → facts (af_fact v (tag_of_stamp 0 counter site)) (facts_bytes fs ++ rest) ≡ Some (fs, rest)
af_facts_again v counter site number fs rest low made had = facts_again (af_fact v (tag_of_stamp 0 counter site)) (λ f. has_fact v f && is_made Af counter site number f) (λ f more h. af_fact_again v counter site number f more (first_so (has_fact v f) _ h) (second_so (has_fact v f) _ h)) fs rest low (all_both (has_fact v) (is_made Af counter site number) fs had made)
