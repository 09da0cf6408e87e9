-- What an application function's requests make is in form: the fields of a session, of its components and of their flows, and what is removed.
use Rattle.std.proofs.lemmas.Bool.Decides.{nat_tests}
use Rattle.std.proofs.Common.{◌≡◌, ℕ, Bool, true, false, ◌&&◌, ◌==◌, List, [], ◌∷◌, map, Option, Some, None, refl, sym, ap, ◌∙◌, subst, option_map, flat_map, arith}
use Rattle.std.specs.Cmp.{first_so, second_so}
use Rattle.std.specs.List.{list_any}
use Rattle.pcrf_values.specs.Ascending.{ascending}
use Rattle.pcrf_values.specs.Sets.{In, Distinct}
use Rattle.pcrf_values.specs.declared.tag.Tag.{Tag}
use Rattle.pcrf_values.proofs.Plain.{clash, is_false, both, some_same, not_true}
use Rattle.pcrf_values.proofs.OrderLaws.{eq_itself}
use Rattle.pcrf_values.proofs.SetLaws.{In-any}
use Rattle.pcrf_values.proofs.DistinctLaws.{one_of_key}
use Rattle.pcrf_values.specs.Places.{SessionField, ComponentField, MediaType, ComponentStatus, ComponentRateUp, ComponentRateDown, FlowField, FlowDescriptions, FlowUsage, FlowStatus, FlowRateUp, FlowRateDown, OfSession, OfComponent, OfFlow, Component, Flow, Position}
use Rattle.pcrf_values.specs.Values.{Value, Number, Filters}
use Rattle.pcrf_values.specs.Facts.{Fact, Removed, Field, position, fact_cmp, is_shaded_by}
use Rattle.pcrf_values.specs.Held.{kept_set, kept_list}
use Rattle.pcrf_values.proofs.FactLaws.{tag_ranked}
use Rattle.pcrf_values.proofs.JoinedLaws.{kept-In, In-kept, sorted-Same}
use Rattle.pcrf_values.proofs.KeyLaws.{number_is}
use Rattle.pcrf_model.specs.Sessions.{Af}
use Rattle.pcrf_model.specs.Requests.{FlowValue, ComponentValue, AarValue}
use Rattle.pcrf_model.specs.Making.{request_says, is_removed, flow_facts, component_facts, aar_facts}
use Rattle.pcrf_model.specs.Forms.{is_within, is_unsigned, is_none_or, is_status, is_usage, are_filters, is_tagged, fits, fits_session_field, fits_component_field, fits_flow_field, is_flow, are_apart, is_component}
use Rattle.pcrf_model.proofs.FormReading.{each_passes}
use Rattle.pcrf_model.proofs.MadeForms.{IsField, field, clear_fields, MayMake, Each, none, more, either, ◌and◌, all_of, all_given, given_passes, said_each, one_place, one_field, one_session_field}

-- ---- what requests say of components and flows

-- numbers that pass the test differ
pub numbers_differ : (ns : List ℕ) → are_apart ns ≡ true → Distinct ns
numbers_differ [] h = tt
numbers_differ (n ∷ ns) h = (λ i. clash (list_any (λ m. m == n) ns) (In-any (λ m. m == n) n ns i (same n)) (not_true _ (first_so _ _ h)), numbers_differ ns (second_so _ _ h))
  where
    same : (m : ℕ) → (m == m) ≡ true
    same m = grind (arith, nat_tests)

-- what a component's description says in each field
abbrev pub component_value : ComponentValue → ComponentField → Option Value
component_value c MediaType = option_map Number c.media
component_value c ComponentStatus = option_map Number c.status
component_value c ComponentRateUp = option_map Number c.rate_up
component_value c ComponentRateDown = option_map Number c.rate_down

-- and a flow's
abbrev pub flow_value : FlowValue → FlowField → Option Value
flow_value x FlowDescriptions = option_map Filters x.filters
flow_value x FlowUsage = option_map Number x.usage
flow_value x FlowStatus = option_map Number x.status
flow_value x FlowRateUp = option_map Number x.rate_up
flow_value x FlowRateDown = option_map Number x.rate_down

-- a status that does not remove is within 0 and 3
kept_status : (s : Option ℕ) → is_none_or (is_within 0 4) s ≡ true → is_removed s ≡ false → is_none_or is_status s ≡ true
kept_status None h k = refl
kept_status (Some n) h k = grind (arith, nat_tests, h, k)

-- what a component that stays says fits
component_fits : (c : ComponentValue) → is_component c ≡ true → is_removed c.status ≡ false → (f : ComponentField) (v : Value) → component_value c f ≡ Some v → fits_component_field f v ≡ true
component_fits c w k f v e =
    let flows_in = first_so _ _ w in
    let down_in = first_so _ _ flows_in in
    let up_in = first_so _ _ down_in in
    let status_in = first_so _ _ up_in in
    let media_in = first_so _ _ status_in in
    by_field f e
    (second_so _ _ media_in)
    (kept_status c.status (second_so _ _ status_in) k)
    (second_so _ _ up_in)
    (second_so _ _ down_in)
  where
    by_field : (f : ComponentField) → component_value c f ≡ Some v → is_none_or is_unsigned c.media ≡ true → is_none_or is_status c.status ≡ true → is_none_or is_unsigned c.rate_up ≡ true → is_none_or is_unsigned c.rate_down ≡ true → fits_component_field f v ≡ true
    by_field MediaType e m s u d = given_passes is_unsigned Number c.media v (fits_component_field MediaType) (λ y h. h) m e
    by_field ComponentStatus e m s u d = given_passes is_status Number c.status v (fits_component_field ComponentStatus) (λ y h. h) s e
    by_field ComponentRateUp e m s u d = given_passes is_unsigned Number c.rate_up v (fits_component_field ComponentRateUp) (λ y h. h) u e
    by_field ComponentRateDown e m s u d = given_passes is_unsigned Number c.rate_down v (fits_component_field ComponentRateDown) (λ y h. h) d e

-- what a flow that stays says fits
flow_fits : (x : FlowValue) → is_flow x ≡ true → is_removed x.status ≡ false → (f : FlowField) (v : Value) → flow_value x f ≡ Some v → fits_flow_field f v ≡ true
flow_fits x w k f v e =
    let up_in = first_so _ _ w in
    let status_in = first_so _ _ up_in in
    let usage_in = first_so _ _ status_in in
    let filters_in = first_so _ _ usage_in in
    by_field f e (second_so _ _ filters_in) (second_so _ _ usage_in) (kept_status x.status (second_so _ _ status_in) k) (second_so _ _ up_in) (second_so _ _ w)
  where
    by_field : (f : FlowField) → flow_value x f ≡ Some v → is_none_or are_filters x.filters ≡ true → is_none_or is_usage x.usage ≡ true → is_none_or is_status x.status ≡ true → is_none_or is_unsigned x.rate_up ≡ true → is_none_or is_unsigned x.rate_down ≡ true → fits_flow_field f v ≡ true
    by_field FlowDescriptions e fs g s u d = given_passes are_filters Filters x.filters v (fits_flow_field FlowDescriptions) (λ y h. h) fs e
    by_field FlowUsage e fs g s u d = given_passes is_usage Number x.usage v (fits_flow_field FlowUsage) (λ y h. h) g e
    by_field FlowStatus e fs g s u d = given_passes is_status Number x.status v (fits_flow_field FlowStatus) (λ y h. h) s e
    by_field FlowRateUp e fs g s u d = given_passes is_unsigned Number x.rate_up v (fits_flow_field FlowRateUp) (λ y h. h) u e
    by_field FlowRateDown e fs g s u d = given_passes is_unsigned Number x.rate_down v (fits_flow_field FlowRateDown) (λ y h. h) d e

-- ---- the facts

-- the tag of an operation's facts
abbrev tag : ℕ → ℕ → Tag
tag counter site = record { number = 0; counter = counter; site = site }

-- the number of a component
abbrev pub component_number : ComponentValue → ℕ
component_number c = c.number

-- and of a flow
abbrev pub flow_number : FlowValue → ℕ
flow_number x = x.number

-- a component that a request describes, and whether it removes it
pub record Describes (cs : List ComponentValue) (c : ComponentValue) (gone : Bool) : Type 0 where
  pub there : In c cs
  pub status : is_removed c.status ≡ gone

-- a flow that it describes, of a component that stays
pub record DescribesFlow (cs : List ComponentValue) (c : ComponentValue) (x : FlowValue) (gone : Bool) : Type 0 where
  pub component : Describes cs c false
  pub there : In x c.flows
  pub status : is_removed x.status ≡ gone

-- the flows of a component in form have numbers of their own
pub its_flows_differ : (c : ComponentValue) → is_component c ≡ true → Distinct (map flow_number c.flows)
its_flows_differ c w = numbers_differ (map flow_number c.flows) (second_so _ _ w)

-- a fact of an AF's operation: a field of the session, of a component or of a flow, or that one of these is removed
pub data IsOfFunction (k i : ℕ) (says : SessionField → Option Value) (cs : List ComponentValue) : Fact → Type 0 where
  at_session : (f : SessionField) (v : Value) → says f ≡ Some v → IsOfFunction k i says cs (Field (OfSession f) (tag k i) v)
  component_gone : (c : ComponentValue) → Describes cs c true → IsOfFunction k i says cs (Removed (Component c.number))
  at_component : (c : ComponentValue) → Describes cs c false → (f : ComponentField) (v : Value) → component_value c f ≡ Some v → IsOfFunction k i says cs (Field (OfComponent c.number f) (tag k i) v)
  flow_gone : (c : ComponentValue) (x : FlowValue) → DescribesFlow cs c x true → IsOfFunction k i says cs (Removed (Flow c.number x.number))
  at_flow : (c : ComponentValue) (x : FlowValue) → DescribesFlow cs c x false → (f : FlowField) (v : Value) → flow_value x f ≡ Some v → IsOfFunction k i says cs (Field (OfFlow c.number x.number f) (tag k i) v)

-- component fields at one place are one
one_component_field : (c d : ℕ) (f g : ComponentField) → OfComponent c f ≡ OfComponent d g → f ≡ g
one_component_field c d f g e = cc

-- and flow fields
one_flow_field : (c d m n : ℕ) (f g : FlowField) → OfFlow c m f ≡ OfFlow d n g → f ≡ g
one_flow_field c d m n f g e = cc

module _ (k i : ℕ) (says : SessionField → Option Value) (cs : List ComponentValue) where
  -- such a fact
  abbrev Is : Fact → Type 0
  Is = IsOfFunction k i says cs

  -- the facts of a flow are so
  flow_each : (c : ComponentValue) → Describes cs c false → (x : FlowValue) → In x c.flows → Each Is (flow_facts c.number (tag k i) x)
  flow_each c d x j = either (is_removed x.status)
      (λ s. more (flow_gone c x (record { component = d; there = j; status = s })) none)
      (λ s.
      let stays = at_flow c x (record { component = d; there = j; status = s }) in
      all_given _ _ Filters x.filters (stays FlowDescriptions) and all_given _ _ Number x.usage (stays FlowUsage) and all_given _ _ Number x.status (stays FlowStatus)
      and all_given _ _ Number x.rate_up (stays FlowRateUp) and all_given _ _ Number x.rate_down (stays FlowRateDown))

  -- those of a component
  component_each : (c : ComponentValue) → In c cs → Each Is (component_facts (tag k i) c)
  component_each c j = either (is_removed c.status)
      (λ s. more (component_gone c (record { there = j; status = s })) none)
      (λ s.
      let stays = at_component c (record { there = j; status = s }) in
      all_given _ _ Number c.media (stays MediaType) and all_given _ _ Number c.status (stays ComponentStatus)
      and all_given _ _ Number c.rate_up (stays ComponentRateUp) and all_given _ _ Number c.rate_down (stays ComponentRateDown)
      and all_of (flow_facts c.number (tag k i)) c.flows (flow_each c (record { there = j; status = s })))

  -- and those of all components
  pub components_each : Each Is (flat_map (component_facts (tag k i)) cs)
  components_each = all_of (component_facts (tag k i)) cs component_each

  module _ (differ : Distinct (map component_number cs)) (flows_differ : (c : ComponentValue) → In c cs → Distinct (map flow_number c.flows)) where
    -- components of one number are one
    one_component : {c d : ComponentValue} {a b : Bool} → Describes cs c a → Describes cs d b → c.number ≡ d.number → c ≡ d
    one_component {c} {d} x y e = one_of_key component_number cs differ c d x.there y.there e

    -- so none both stays and is removed
    not_both : {P : Type 0} {c d : ComponentValue} → Describes cs c true → Describes cs d false → c.number ≡ d.number → P
    not_both {c = c} x y e = clash (is_removed c.status) x.status (ap (λ (z : ComponentValue). is_removed z.status) (one_component x y e) ∙ y.status)

    -- flows of one number of one component are one
    one_flow : {c d : ComponentValue} {x y : FlowValue} {a b : Bool} → DescribesFlow cs c x a → DescribesFlow cs d y b → c.number ≡ d.number → x.number ≡ y.number → x ≡ y
    one_flow {c} {d} {x} {y} f g e h =
        let same = one_component f.component g.component e in
        one_of_key flow_number c.flows (flows_differ c f.component.there) x y f.there (subst (λ (z : ComponentValue). In y z.flows) (sym same) g.there) h

    -- so none of these both stays and is removed
    not_both_flows : {P : Type 0} {c d : ComponentValue} {x y : FlowValue} → DescribesFlow cs c x true → DescribesFlow cs d y false → c.number ≡ d.number → x.number ≡ y.number → P
    not_both_flows {x = x} f g e h = clash (is_removed x.status) f.status (ap (λ (z : FlowValue). is_removed z.status) (one_flow f g e h) ∙ g.status)

    -- two facts at one position are one
    apart : (f g : Fact) → Is f → Is g → position f ≡ position g → f ≡ g
    apart f g (at_session a v s) (at_session b w u) e =
        let p = one_place (OfSession a) (OfSession b) e in
        one_field (OfSession a) (OfSession b) (tag k i) v w p (some_same v w (sym s ∙ ap says (one_session_field a b p) ∙ u))
    apart f g (component_gone c x) (component_gone d y) e = ap (λ (p : Position). Removed (Component p.1.0)) e
    apart f g (flow_gone c x m) (flow_gone d y n) e = ap (λ (p : Position). Removed (Flow p.1.0 p.1.1.0)) e
    apart f g (at_component c x a v s) (at_component d y b w u) e =
        let p = one_place (OfComponent c.number a) (OfComponent d.number b) e in
        let same = one_component x y (ap (λ (q : Position). q.1.0) e) in
        one_field (OfComponent c.number a) (OfComponent d.number b) (tag k i) v w p (some_same v w (sym s ∙ (λ j. component_value (same j) (one_component_field c.number d.number a b p j)) ∙ u))
    apart f g (at_flow c x m a v s) (at_flow d y n b w u) e =
        let p = one_place (OfFlow c.number x.number a) (OfFlow d.number y.number b) e in
        let same = one_flow m n (ap (λ (q : Position). q.1.0) e) (ap (λ (q : Position). q.1.1.0) e) in
        one_field (OfFlow c.number x.number a) (OfFlow d.number y.number b) (tag k i) v w p (some_same v w (sym s ∙ (λ j. flow_value (same j) (one_flow_field c.number d.number x.number y.number a b p j)) ∙ u))
    apart f g a b e = let h : (position f).0 ≡ (position g).0 = ap (λ (p : Position). p.0) e in absurd (omega (arith, h))

    -- no fact is of a component that is removed
    clear_of_component : (c : ComponentValue) → Describes cs c true → (f : Fact) → Is f → is_shaded_by f (Removed (Component c.number)) ≡ false
    clear_of_component c gone f (at_session a v s) = refl
    clear_of_component c gone f (component_gone d y) = refl
    clear_of_component c gone f (at_component d y a v s) = is_false _ (λ h. not_both gone y (number_is c.number d.number h))
    clear_of_component c gone f (flow_gone d y n) = is_false _ (λ h. not_both gone n.component (number_is c.number d.number h))
    clear_of_component c gone f (at_flow d y n a v s) = is_false _ (λ h. not_both gone n.component (number_is c.number d.number h))

    -- nor of a flow that is
    clear_of_flow : (c : ComponentValue) (x : FlowValue) → DescribesFlow cs c x true → (f : Fact) → Is f → is_shaded_by f (Removed (Flow c.number x.number)) ≡ false
    clear_of_flow c x gone f (at_session a v s) = refl
    clear_of_flow c x gone f (component_gone d y) = refl
    clear_of_flow c x gone f (at_component d y a v s) = refl
    clear_of_flow c x gone f (flow_gone d y n) = refl
    clear_of_flow c x gone f (at_flow d y n a v s) = is_false _ (λ h. not_both_flows gone n (number_is c.number d.number (first_so _ _ h)) (number_is x.number y.number (second_so _ _ h)))

    -- a field is not overshadowed by one at another place, and a removal by none
    clear_of_field : (f g : Fact) → Is f → IsField g → (position f ≡ position g → f ≡ g) → is_shaded_by f g ≡ false
    clear_of_field f g (at_session a v s) at one = clear_fields f g (field (OfSession a) (tag k i) v) at one
    clear_of_field f g (at_component c x a v s) at one = clear_fields f g (field (OfComponent c.number a) (tag k i) v) at one
    clear_of_field f g (at_flow c x n a v s) at one = clear_fields f g (field (OfFlow c.number x.number a) (tag k i) v) at one
    clear_of_field f g (component_gone c x) (field p t v) one = refl
    clear_of_field f g (flow_gone c x n) (field p t v) one = refl

    -- so none overshadows another
    clear : (f g : Fact) → Is f → Is g → is_shaded_by f g ≡ false
    clear f g a (component_gone c x) = clear_of_component c x f a
    clear f g a (flow_gone c x n) = clear_of_flow c x n f a
    clear f g a (at_session b v s) = clear_of_field f g a (field (OfSession b) (tag k i) v) (apart f g a (at_session b v s))
    clear f g a (at_component c x b v s) = clear_of_field f g a (field (OfComponent c.number b) (tag k i) v) (apart f g a (at_component c x b v s))
    clear f g a (at_flow c x n b v s) = clear_of_field f g a (field (OfFlow c.number x.number b) (tag k i) v) (apart f g a (at_flow c x n b v s))

    module _ (each : (c : ComponentValue) → In c cs → is_component c ≡ true) where
      -- a component's number has 32 bits
      component_low : {c : ComponentValue} {a : Bool} → Describes cs c a → is_unsigned c.number ≡ true
      component_low {c} x = first_so _ _ (first_so _ _ (first_so _ _ (first_so _ _ (first_so _ _ (first_so _ _ (each c x.there))))))

      -- and a flow is in form
      flow_in : {c : ComponentValue} {x : FlowValue} {a : Bool} → DescribesFlow cs c x a → is_flow x ≡ true
      flow_in {c} {x} n = each_passes is_flow c.flows (second_so _ _ (first_so _ _ (each c n.component.there))) x n.there

      -- with its number
      flow_low : {c : ComponentValue} {x : FlowValue} {a : Bool} → DescribesFlow cs c x a → is_unsigned x.number ≡ true
      flow_low n = first_so _ _ (first_so _ _ (first_so _ _ (first_so _ _ (first_so _ _ (flow_in n)))))

      module _ (fit : (f : SessionField) (v : Value) → says f ≡ Some v → fits_session_field Af f v ≡ true) where
        -- each is in form
        in_form : (f : Fact) → Is f → (fits Af f && is_tagged Af k i 0 f) ≡ true
        in_form f (at_session a v s) = both _ _ (fit a v s) (eq_itself tag_ranked (tag k i))
        in_form f (component_gone c x) = both _ _ (component_low x) refl
        in_form f (flow_gone c x n) = both _ _ (both _ _ (component_low n.component) (flow_low n)) refl
        in_form f (at_component c x a v s) =
            both _ _ (both _ _ (component_low x) (component_fits c (each c x.there) x.status a v s)) (eq_itself tag_ranked (tag k i))
        in_form f (at_flow c x n a v s) =
            both _ _
            (both _ _ (both _ _ (component_low n.component) (flow_low n)) (flow_fits x (flow_in n) n.status a v s))
            (eq_itself tag_ranked (tag k i))

        -- so such facts may make an operation
        pub function_makes : (facts : List Fact) → Each Is facts → ((f : Fact) × In f facts) → MayMake Af k i 0 facts
        function_makes facts all one = record {
          stand = record {
            some = one;
            apart = λ f g a b. apart f g (all.so f a) (all.so g b);
            clear = λ f g a b. clear f g (all.so f a) (all.so g b);
          };
          each = λ f a. in_form f (all.so f a);
        }

-- ---- an AA request

-- where its numbers differ, each of its facts is kept
pub described_is_held : (q : AarValue) (k i : ℕ) → Distinct (map component_number q.components) → ((c : ComponentValue) → In c q.components → Distinct (map flow_number c.flows))
    → kept_list (aar_facts q (tag k i)) ≡ ascending fact_cmp (aar_facts q (tag k i))
described_is_held q k i differ flows_differ = sorted-Same (kept_set facts) facts (λ f. (λ m. (kept-In f facts m).0, is_kept f))
  where
    says : SessionField → Option Value
    says = request_says q.user q.host q.realm 0

    facts : List Fact
    facts = aar_facts q (tag k i)

    all : Each (IsOfFunction k i says q.components) facts
    all = said_each says (tag k i) at_session and components_each k i says q.components

    is_kept : (f : Fact) → In f facts → In f (kept_set facts)
    is_kept f m = In-kept f facts m (λ g n. clear k i says q.components differ flows_differ f g (all.so f m) (all.so g n))
