-- What the form of a holding and of operator tables says of single facts and rows.
use Rattle.std.proofs.lemmas.Bool.Decides.{nat_tests}
use Rattle.std.proofs.Common.{◌≡◌, ℕ, ◌<◌, ◌≤◌, ◌^◌, ◌==◌, Bool, true, false, cond, not, ◌&&◌, List, [], ◌∷◌, map, find, nat_le, Option, Some, None, inl, inr, refl, sym, ap, ◌∙◌, subst, option_map, arith, ltb-true}
use Rattle.std.specs.Ordering.{is_eq}
use Rattle.std.specs.Cmp.{first_so, second_so}
use Rattle.std.specs.List.{list_any, list_all}
use Rattle.pcrf_values.specs.Orders.{text_cmp}
use Rattle.pcrf_values.specs.Sets.{In, Distinct}
use Rattle.pcrf_values.specs.declared.tag.Tag.{Tag}
use Rattle.pcrf_values.proofs.Plain.{clash, some_same, not_true}
use Rattle.pcrf_values.proofs.OrderLaws.{text_ranked, eq_itself}
use Rattle.pcrf_values.proofs.SetLaws.{In-any}
use Rattle.pcrf_values.specs.Places.{FlowField, OfFlow, OfRuleName}
use Rattle.pcrf_values.specs.Values.{Value}
use Rattle.pcrf_values.specs.Facts.{Field}
use Rattle.pcrf_model.specs.Sessions.{Kind, Gx, Af, Session}
use Rattle.pcrf_model.specs.Holdings.{SessionFact, session_fact_cmp, Holding}
use Rattle.pcrf_model.specs.Tables.{OperatorRule, ApnRow, Apns, Tables, row_among, apn_row}
use Rattle.pcrf_values.specs.Limits.{last_counter}
use Rattle.pcrf_model.specs.Forms.{is_rising, fits, is_counted, is_session, is_unsigned, fits_flow_field, is_stamp, is_held, is_holding, are_names_apart, is_operator_rule, is_apn_row, are_apns, are_tables}

-- what all members pass, each passes
pub each_passes : {A : Type 0} (test : A → Bool) (xs : List A) → list_all test xs ≡ true → (x : A) → In x xs → test x ≡ true
each_passes test [] h x i = absurd i
each_passes test (y ∷ ys) h x (inl e) = ap test e ∙ first_so _ _ h
each_passes test (y ∷ ys) h x (inr i) = each_passes test ys (second_so (test y) _ h) x i

-- what is found is a member that passes
pub found : {A : Type 0} (test : A → Bool) (xs : List A) (x : A) → find test xs ≡ Some x → In x xs × (test x ≡ true)
found test [] x h = absurd (cc)
found {A} test (y ∷ ys) x h = (elim (test y) as (λ b. test y ≡ b → cond b (Some y) (find test ys) ≡ Some x → In x (y ∷ ys) × (test x ≡ true)) [
  | true ↦ λ e k. let same : y ≡ x = cc in (inl (sym same), ap test (sym same) ∙ e)
  | false ↦ λ _ k. let r = found test ys x k in (inr r.0, r.1)
]) refl h

-- ---- the facts of a holding

-- each fact of a holding is one that may be held
pub held_fact : (h : Holding) → is_holding h ≡ true → (x : SessionFact) → In x h.facts → is_held h.clock x ≡ true
held_fact h w = each_passes (is_held h.clock) h.facts (second_so (nat_le h.clock last_counter && is_rising session_fact_cmp h.facts) _ w)

-- it fits its session
pub fact_fits : (h : Holding) → is_holding h ≡ true → (x : SessionFact) → In x h.facts → fits x.0.kind x.1 ≡ true
fact_fits h w x i = second_so (is_session x.0) _ (first_so _ _ (held_fact h w x i))

-- and its tag is counted
pub fact_counted : (h : Holding) → is_holding h ≡ true → (x : SessionFact) → In x h.facts → is_counted x.0.kind h.clock x.1 ≡ true
fact_counted h w x i = second_so (is_session x.0 && fits x.0.kind x.1) _ (held_fact h w x i)

-- a number of 32 bits
unsigned_below : (n : ℕ) → is_unsigned n ≡ true → n < 2 ^ 32
unsigned_below n h = ltb-true n (2 ^ 32) h

-- component and flow numbers of 32 bits
pub record FlowsFit (facts : List SessionFact) : Type 0 where
  pub low_component : (s : Session) (c n : ℕ) (f : FlowField) (t : Tag) (x : Value) → In (s, Field (OfFlow c n f) t x) facts → c < 2 ^ 32
  pub low_flow : (s : Session) (c n : ℕ) (f : FlowField) (t : Tag) (x : Value) → In (s, Field (OfFlow c n f) t x) facts → n < 2 ^ 32

-- a field of a flow fits an AF session alone
flow_numbers : (k : Kind) (c n : ℕ) (f : FlowField) (t : Tag) (x : Value) → fits k (Field (OfFlow c n f) t x) ≡ true → (c < 2 ^ 32) × (n < 2 ^ 32)
flow_numbers Gx c n f t x h = clash false h refl
flow_numbers Af c n f t x h =
    let both = first_so (is_unsigned c && is_unsigned n) (fits_flow_field f x) h in
    (unsigned_below c (first_so _ _ both), unsigned_below n (second_so (is_unsigned c) _ both))

-- so they are in a holding
pub flows_fit : (h : Holding) → is_holding h ≡ true → FlowsFit h.facts
flows_fit h w = record {
  low_component = λ s c n f t x i. (flow_numbers s.kind c n f t x (fact_fits h w (s, Field (OfFlow c n f) t x) i)).0;
  low_flow = λ s c n f t x i. (flow_numbers s.kind c n f t x (fact_fits h w (s, Field (OfFlow c n f) t x) i)).1;
}

-- what tells of a rule's name is under number 0
pub told_number : (h : Holding) → is_holding h ≡ true → (s : Session) (n : List ℕ) (t : Tag) (x : Value) → In (s, Field (OfRuleName n) t x) h.facts → t.number ≡ 0
told_number h w s n t x i = by_kind s.kind (fact_counted h w (s, Field (OfRuleName n) t x) i)
  where
    by_kind : (k : Kind) → is_counted k h.clock (Field (OfRuleName n) t x) ≡ true → t.number ≡ 0
    by_kind Gx c = let e = second_so (is_stamp t.counter t.site && nat_le t.counter h.clock && is_unsigned t.number) (t.number == 0) c in grind (arith, nat_tests, e)
    by_kind Af c = let e = second_so (is_stamp t.counter t.site && nat_le t.counter h.clock && is_unsigned t.number) (t.number == 0) c in grind (arith, nat_tests, e)

-- and under a counter up to the clock
pub told_counter : (h : Holding) → is_holding h ≡ true → (s : Session) (n : List ℕ) (t : Tag) (x : Value) → In (s, Field (OfRuleName n) t x) h.facts → t.counter ≤ h.clock
told_counter h w s n t x i =
    let c = fact_counted h w (s, Field (OfRuleName n) t x) i in
    let e = second_so (is_stamp t.counter t.site) (nat_le t.counter h.clock) (first_so _ _ (first_so _ _ c)) in
    grind (arith, nat_tests, e)

-- ---- operator tables

-- names that pass the test differ
names_differ : (ns : List (List ℕ)) → are_names_apart ns ≡ true → Distinct ns
names_differ [] h = tt
names_differ (n ∷ ns) h = (λ i. clash (list_any (λ m. is_eq (text_cmp m n)) ns) (In-any (λ m. is_eq (text_cmp m n)) n ns i (eq_itself text_ranked n)) (not_true _ (first_so _ _ h)), names_differ ns (second_so (not (list_any (λ m. is_eq (text_cmp m n)) ns)) _ h))

-- the row that is found
row_found : (x : Option (List ℕ × ApnRow)) (row : ApnRow) → option_map (λ (r : List ℕ × ApnRow). r.1) x ≡ Some row → (r : List ℕ × ApnRow) × (x ≡ Some r) × (r.1 ≡ row)
row_found None row h = absurd (cc)
row_found (Some r) row h = (r, refl, some_same r.1 row h)

-- the rules of an access point are in form, and their names differ
pub record IsRowInForm (row : ApnRow) : Type 0 where
  pub each : (r : OperatorRule) → In r row.rules → is_operator_rule r ≡ true
  pub apart : Distinct (map (λ (r : OperatorRule). r.name) row.rules)

-- so are the rows of tables in form
pub row_in_form : (apns : Apns) → are_apns apns ≡ true → (name : List ℕ) (row : ApnRow) → row_among apns name ≡ Some row → IsRowInForm row
row_in_form rows w name row h =
    let f = row_found (find (λ (r : List ℕ × ApnRow). is_eq (text_cmp r.0 name)) rows) row h in
    let m = found (λ (r : List ℕ × ApnRow). is_eq (text_cmp r.0 name)) rows f.0 f.1 in
    let good = each_passes is_apn_row rows w f.0 m.0 in
    subst IsRowInForm f.2 (record {
      each = each_passes is_operator_rule f.0.1.rules (first_so _ _ good);
      apart = names_differ (map (λ (r : OperatorRule). r.name) f.0.1.rules) (second_so (list_all is_operator_rule f.0.1.rules) _ good);
    })

-- and the rows that tables give
pub table_row : (t : Tables) → are_tables t ≡ true → (name : List ℕ) (row : ApnRow) → apn_row t name ≡ Some row → IsRowInForm row
table_row t w = row_in_form t.apns (second_so _ (are_apns t.apns) w)
