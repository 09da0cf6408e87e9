-- Records keep their form: what is kept of one, joins, what operations give, and holdings in which one is put.
use Rattle.std.proofs.lemmas.Bool.Decides.{nat_tests}
use Rattle.std.proofs.Common.{◌≡◌, ℕ, ◌<◌, ◌≤◌, ◌==◌, true, not, ◌&&◌, nat_le, nat_lt, List, [], ◌∷◌, ◌++◌, length, filter, inl, inr, refl, sym, subst, arith}
use Rattle.std.specs.Cmp.{first_so, second_so}
use Rattle.std.specs.Ordering.{is_eq}
use Rattle.std.specs.List.{list_all}
use Rattle.pcrf_values.specs.Sets.{In}
use Rattle.pcrf_values.specs.declared.tag.Tag.{Tag}
use Rattle.pcrf_values.proofs.Plain.{both}
use Rattle.pcrf_values.proofs.OrderLaws.{eq_is}
use Rattle.pcrf_values.proofs.SetLaws.{In-left, In-cases, filter-In, top_of}
use Rattle.pcrf_values.proofs.AscendingLaws.{ascending-ascending}
use Rattle.pcrf_values.specs.Facts.{Fact, Field, is_shaded_by}
use Rattle.pcrf_values.specs.Held.{kept_set, kept_list, join_of}
use Rattle.pcrf_values.proofs.FactLaws.{tag_ranked, shaded_irr, shaded_trans}
use Rattle.pcrf_values.proofs.JoinedLaws.{kept-In, sorted-In}
use Rattle.pcrf_values.specs.Limits.{last_counter, site_limit}
use Rattle.pcrf_model.specs.Sessions.{Kind, Session, session_cmp}
use Rattle.pcrf_model.specs.Holdings.{SessionFact, session_fact_cmp, under, Holding, with_facts_of}
use Rattle.pcrf_model.specs.Operations.{Operation}
use Rattle.pcrf_model.specs.Forms.{is_stamp, is_unsigned, number_at, fits, is_counted, is_session, is_operation, is_tagged, is_request_number, is_held, is_holding, is_up_to, are_up_to, is_numbered, is_recorded, is_record}
use Rattle.pcrf_model.proofs.HoldingLaws as holdings
use Rattle.pcrf_model.proofs.FormReading.{each_passes}
use Rattle.pcrf_model.proofs.FormLaws.{all_pass, le_passes, passes_le, form_by_test, test_by_form, formed_by_test, number_stays, counted_by_tag}
use Rattle.pcrf_model.proofs.MadeForms.{has_one, MayMake}

-- ---- the form by parts

-- there is a fact, and each is of some operation
pub record IsKnown (k : Kind) (facts : List Fact) : Type 0 where
  pub some : (f : Fact) × In f facts
  pub each : (f : Fact) → In f facts → is_recorded k f ≡ true

-- a list that is not empty has a member
first_member : (facts : List Fact) → nat_le 1 (length facts) ≡ true → (f : Fact) × In f facts
first_member [] h = absurd (cc)
first_member (f ∷ fs) h = (f, inl refl)

-- that is what the test says
pub known_by_test : (k : Kind) (facts : List Fact) → is_record k facts ≡ true → IsKnown k facts
known_by_test k facts w = record { some = first_member facts (first_so _ _ w); each = each_passes (is_recorded k) facts (second_so _ _ w) }

-- and what is so passes it
pub test_by_known : (k : Kind) (facts : List Fact) → IsKnown k facts → is_record k facts ≡ true
test_by_known k facts w = both _ _ (has_one w.some.0 facts w.some.1) (all_pass (is_recorded k) facts w.each)

-- ---- what is kept, and joins

-- something is kept where there is something
some_kept : (xs : List Fact) → (f : Fact) × In f xs → (g : Fact) × In g (kept_list xs)
some_kept xs w = let top = top_of is_shaded_by shaded_irr shaded_trans w.0 xs w.1 in (top.0, (sorted-In (kept_set xs) top.0).1 top.1)

-- what is kept of a record is one
pub held_known : (k : Kind) (xs : List Fact) → IsKnown k xs → IsKnown k (kept_list xs)
held_known k xs w = record { some = some_kept xs w.some; each = λ f i. w.each f (kept-In f xs ((sorted-In (kept_set xs) f).0 i)).0 }

pub held_record : (k : Kind) (xs : List Fact) → is_record k xs ≡ true → is_record k (kept_list xs) ≡ true
held_record k xs w = test_by_known k (kept_list xs) (held_known k xs (known_by_test k xs w))

-- and so is the join of two
pub joined_record : (k : Kind) (xs ys : List Fact) → is_record k xs ≡ true → is_record k ys ≡ true → is_record k (join_of xs ys) ≡ true
joined_record k xs ys v w =
    let x = known_by_test k xs v in
    let y = known_by_test k ys w in
    let all : IsKnown k (xs ++ ys) = record {
      some = (x.some.0, In-left x.some.0 xs ys x.some.1);
      each = λ f i. elim (In-cases f xs ys i) [ inl j ↦ x.each f j | inr j ↦ y.each f j ];
    } in
    test_by_known k (join_of xs ys) (held_known k (xs ++ ys) all)

-- ---- operations

-- what is counted is numbered
counted_numbered : (k : Kind) (m : ℕ) (f : Fact) → is_counted k m f ≡ true → is_numbered k f ≡ true
counted_numbered k m (Field p t x) h =
    let three = first_so (is_stamp t.counter t.site && nat_le t.counter m && is_unsigned t.number) (t.number == number_at k p t.number) h in
    let two = first_so (is_stamp t.counter t.site && nat_le t.counter m) (is_unsigned t.number) three in
    let stamp = first_so (is_stamp t.counter t.site) (nat_le t.counter m) two in
    let within = first_so (nat_le 1 t.counter && nat_le t.counter last_counter) (nat_lt t.site site_limit) stamp in
    let first = first_so (nat_le 1 t.counter) (nat_le t.counter last_counter) within in
    let site = second_so (nat_le 1 t.counter && nat_le t.counter last_counter) (nat_lt t.site site_limit) stamp in
    both (nat_le 1 t.counter && nat_lt t.site site_limit && is_unsigned t.number) (t.number == number_at k p t.number)
    (both (nat_le 1 t.counter && nat_lt t.site site_limit) (is_unsigned t.number) (both (nat_le 1 t.counter) (nat_lt t.site site_limit) first site) (second_so (is_stamp t.counter t.site && nat_le t.counter m) (is_unsigned t.number) three))
    (second_so (is_stamp t.counter t.site && nat_le t.counter m && is_unsigned t.number) (t.number == number_at k p t.number) h)
counted_numbered k m f h = refl

-- the facts of an operation of the form are a record
pub operation_record : (o : Operation) → is_operation o ≡ true → is_record o.session.kind o.facts ≡ true
operation_record o w =
    let k : Kind = o.session.kind in
    let formed = formed_by_test o w in
    let some : nat_le 1 (length o.facts) ≡ true = first_so _ _ (first_so _ _ formed.together) in
    test_by_known k o.facts (record {
      some = first_member o.facts some;
      each = λ f i.
          let made = formed.each f i in
          both (fits k f) (is_numbered k f) (first_so _ _ made) (counted_numbered k o.counter f (counted_by_tag o formed f (second_so _ _ made)));
    })

-- a fact with the tag of an operation is numbered
tagged_numbered : (k : Kind) (counter site number : ℕ) → nat_le 1 counter ≡ true → nat_lt site site_limit ≡ true → is_request_number k number ≡ true → (f : Fact)
    → is_tagged k counter site number f ≡ true → is_numbered k f ≡ true
tagged_numbered k counter site number first low right (Field p t x) h =
    let own : Tag = record { number = number_at k p number; counter = counter; site = site } in
    let numbers = number_stays k p number right in
    let numbered : is_numbered k (Field p own x) ≡ true =
    both (nat_le 1 counter && nat_lt site site_limit && is_unsigned (number_at k p number)) (number_at k p number == number_at k p (number_at k p number))
    (both (nat_le 1 counter && nat_lt site site_limit) (is_unsigned (number_at k p number)) (both (nat_le 1 counter) (nat_lt site site_limit) first low) (first_so _ _ numbers)) (second_so _ _ numbers) in
    subst (λ (g : Tag). is_numbered k (Field p g x) ≡ true) (sym (eq_is tag_ranked t own h)) numbered
tagged_numbered k counter site number first low right f h = refl

-- facts that may be one operation's are a record
pub made_record : (k : Kind) (counter site number : ℕ) (facts : List Fact) → 1 ≤ counter → site < site_limit → is_request_number k number ≡ true → MayMake k counter site number facts → is_record k facts ≡ true
made_record k counter site number facts first low right m =
    let below : nat_lt site site_limit ≡ true = grind (arith, nat_tests) in
    test_by_known k facts (record {
      some = m.stand.some;
      each = λ f i.
          let made = m.each f i in
          both (fits k f) (is_numbered k f) (first_so _ _ made) (tagged_numbered k counter site number (le_passes 1 counter first) below right f (second_so _ _ made));
    })

-- ---- holdings in which a record is put

-- what is numbered is counted up to a clock that its counter is not above
numbered_counted : (k : Kind) (clock : ℕ) (f : Fact) → clock ≤ last_counter → is_numbered k f ≡ true → is_up_to clock f ≡ true → is_counted k clock f ≡ true
numbered_counted k clock (Field p t x) low h l =
    let three = first_so (nat_le 1 t.counter && nat_lt t.site site_limit && is_unsigned t.number) (t.number == number_at k p t.number) h in
    let two = first_so (nat_le 1 t.counter && nat_lt t.site site_limit) (is_unsigned t.number) three in
    let below = passes_le t.counter clock l in
    let last : nat_le t.counter last_counter ≡ true = le_passes t.counter last_counter (omega (arith, below, low)) in
    let within : (nat_le 1 t.counter && nat_le t.counter last_counter) ≡ true = both _ _ (first_so (nat_le 1 t.counter) (nat_lt t.site site_limit) two) last in
    let stamp : is_stamp t.counter t.site ≡ true = both _ _ within (second_so (nat_le 1 t.counter) (nat_lt t.site site_limit) two) in
    both (is_stamp t.counter t.site && nat_le t.counter clock && is_unsigned t.number) (t.number == number_at k p t.number)
    (both (is_stamp t.counter t.site && nat_le t.counter clock) (is_unsigned t.number) (both (is_stamp t.counter t.site) (nat_le t.counter clock) stamp l) (second_so (nat_le 1 t.counter && nat_lt t.site site_limit) (is_unsigned t.number) three))
    (second_so (nat_le 1 t.counter && nat_lt t.site site_limit && is_unsigned t.number) (t.number == number_at k p t.number) h)
numbered_counted k clock f low h l = refl

-- a fact that is held is so under any clock that its counter is not above
held_up_to : (m clock : ℕ) (x : SessionFact) → clock ≤ last_counter → is_held m x ≡ true → is_up_to clock x.1 ≡ true → is_held clock x ≡ true
held_up_to m clock x low h l =
    both (is_session x.0 && fits x.0.kind x.1) (is_counted x.0.kind clock x.1) (first_so (is_session x.0 && fits x.0.kind x.1) (is_counted x.0.kind m x.1) h)
    (numbered_counted x.0.kind clock x.1 low (counted_numbered x.0.kind m x.1 (second_so (is_session x.0 && fits x.0.kind x.1) (is_counted x.0.kind m x.1) h)) l)

-- so is a fact of a record
recorded_held : (clock : ℕ) (s : Session) (f : Fact) → clock ≤ last_counter → is_session s ≡ true → is_recorded s.kind f ≡ true → is_up_to clock f ≡ true → is_held clock (s, f) ≡ true
recorded_held clock s f low session h l =
    both (is_session s && fits s.kind f) (is_counted s.kind clock f) (both (is_session s) (fits s.kind f) session (first_so (fits s.kind f) (is_numbered s.kind f) h))
    (numbered_counted s.kind clock f low (second_so (fits s.kind f) (is_numbered s.kind f) h) l)

-- a holding of the form in which the facts of one session are replaced by those of a record has it, if no tag in it is above its clock
pub replaced_in_form : (h : Holding) (s : Session) (facts : List Fact) (clock : ℕ) → is_holding h ≡ true → is_session s ≡ true → list_all (is_recorded s.kind) facts ≡ true → clock ≤ last_counter
    → are_up_to clock (with_facts_of h s facts clock).facts ≡ true → is_holding (with_facts_of h s facts clock) ≡ true
replaced_in_form h s facts clock form session recorded low l =
    let f = form_by_test h form in
    let is_other = λ (x : SessionFact). not (is_eq (session_cmp s x.0)) in
    let others : List SessionFact = filter is_other h.facts in
    let upto = each_passes (λ (x : SessionFact). is_up_to clock x.1) (with_facts_of h s facts clock).facts l in
    test_by_form (with_facts_of h s facts clock) (record {
      clock = low;
      rises = ascending-ascending session_fact_cmp holdings.session_fact_ranked (others ++ under s facts);
      held = λ x i. elim (In-cases x others (under s facts) ((holdings.sorted-In (others ++ under s facts) x).0 i)) [
        | inl j ↦ held_up_to h.clock clock x low (f.held x (filter-In is_other x h.facts j).0) (upto x i)
        | inr j ↦
            let u = holdings.under-In s x facts j in
            subst (λ (z : Session). is_held clock (z, x.1) ≡ true) (sym u.0)
            (recorded_held clock s x.1 low session (each_passes (is_recorded s.kind) facts recorded x.1 u.1) (upto x i))
      ];
    })

-- no tag of a holding of the form is above its clock
pub holding_up_to : (h : Holding) → is_holding h ≡ true → are_up_to h.clock h.facts ≡ true
holding_up_to h form = all_pass (λ (x : SessionFact). is_up_to h.clock x.1) h.facts (λ x i. counted_up_to x.0.kind h.clock x.1 (second_so (is_session x.0 && fits x.0.kind x.1) (is_counted x.0.kind h.clock x.1) ((form_by_test h form).held x i)))
  where
    counted_up_to : (k : Kind) (m : ℕ) (f : Fact) → is_counted k m f ≡ true → is_up_to m f ≡ true
    counted_up_to k m (Field p t x) c = second_so (is_stamp t.counter t.site) (nat_le t.counter m) (first_so (is_stamp t.counter t.site && nat_le t.counter m) (is_unsigned t.number) (first_so (is_stamp t.counter t.site && nat_le t.counter m && is_unsigned t.number) (t.number == number_at k p t.number) c))
    counted_up_to k m f c = refl
