-- Holdings keep their form: unions, what is kept of one, and what operations of the form make.
use Rattle.std.proofs.lemmas.Bool.Decides.{nat_tests}
use Rattle.std.proofs.Common.{◌≡◌, ℕ, max, ◌≤◌, Bool, true, ◌&&◌, List, [], ◌∷◌, ◌++◌, map, inl, inr, refl, sym, ap, ◌∙◌, subst, nat_le, ◌==◌, Ordering, Less, arith}
use Rattle.std.specs.Ordering.{is_lt, ordering_then}
use Rattle.std.specs.Cmp.{first_so, second_so, tied_itself}
use Rattle.std.specs.List.{list_all}
use Rattle.std.specs.Option.{option_cmp}
use Rattle.pcrf_values.specs.Ascending.{Rises}
use Rattle.pcrf_values.specs.Sets.{In}
use Rattle.pcrf_values.specs.declared.tag.Tag.{Tag}
use Rattle.pcrf_values.proofs.Plain.{both, lt_less}
use Rattle.pcrf_values.proofs.OrderLaws.{eq_is}
use Rattle.pcrf_values.proofs.SetLaws.{In-cases, In-map}
use Rattle.pcrf_values.proofs.AscendingLaws.{map-ascending, ascending-ascending}
use Rattle.pcrf_values.specs.Places.{Place, OfSession, OfComponent, OfFlow, OfRuleName, position_cmp}
use Rattle.pcrf_values.specs.Values.{entry_cmp}
use Rattle.pcrf_values.specs.Facts.{Fact, Field, position, entry, fact_cmp}
use Rattle.pcrf_values.proofs.FactLaws.{tag_ranked}
use Rattle.pcrf_values.specs.Limits.{last_counter}
use Rattle.pcrf_model.specs.Sessions.{Kind, Gx, Af, Session}
use Rattle.pcrf_model.specs.Holdings.{SessionFact, session_fact_cmp, kept_facts, under, Holding, union, kept_of}
use Rattle.pcrf_model.specs.Operations.{Operation, with_operation, holding_of}
use Rattle.pcrf_model.specs.Forms.{is_rising, is_stamp, is_unsigned, number_at, is_tagged, is_counted, is_session, is_request_number, stand_together, fits, is_operation, is_held, is_holding}
use Rattle.pcrf_model.proofs.HoldingLaws.{session_ranked, session_fact_ranked, sorted-In, kept_facts-In, under-In}
use Rattle.pcrf_model.proofs.FormReading.{each_passes}

-- ---- tests of lists

-- where each member passes, all pass
pub all_pass : {A : Type 0} (test : A → Bool) (xs : List A) → ((x : A) → In x xs → test x ≡ true) → list_all test xs ≡ true
all_pass test [] h = refl
all_pass test (x ∷ xs) h = both _ _ (h x (inl refl)) (all_pass test xs (λ y i. h y (inr i)))

module _ {A : Type 0} (cmp : A → A → Ordering) where
  -- a list that passes the test of rising rises
  pub rises_by_test : (xs : List A) → is_rising cmp xs ≡ true → Rises cmp xs
  rises_by_test [] h = tt
  rises_by_test (x ∷ xs) h = (
    λ y i. lt_less (cmp x y) (each_passes (λ z. is_lt (cmp x z)) xs (first_so _ _ h) y i),
    rises_by_test xs (second_so _ _ h),
  )

  -- and one that rises passes it
  pub test_by_rises : (xs : List A) → Rises cmp xs → is_rising cmp xs ≡ true
  test_by_rises [] r = refl
  test_by_rises (x ∷ xs) r = both _ _ (all_pass (λ z. is_lt (cmp x z)) xs (λ y i. ap is_lt (r.0 y i))) (test_by_rises xs r.1)

-- a number that is no greater passes the test
pub le_passes : (m n : ℕ) → m ≤ n → nat_le m n ≡ true
le_passes m n h = grind (arith, nat_tests)

-- and one that passes is no greater
pub passes_le : (m n : ℕ) → nat_le m n ≡ true → m ≤ n
passes_le m n h = grind (arith, nat_tests)

-- what is within is no more than the most
pub within_most : (least most n : ℕ) → (nat_le least n && nat_le n most) ≡ true → n ≤ most
within_most least most n h = passes_le n most (second_so _ _ h)

-- ---- the form of holdings, by parts

-- a holding of the form
pub record HasForm (h : Holding) : Type 0 where
  pub clock : h.clock ≤ last_counter
  pub rises : Rises session_fact_cmp h.facts
  pub held : (x : SessionFact) → In x h.facts → is_held h.clock x ≡ true

-- is what passes the test
pub form_by_test : (h : Holding) → is_holding h ≡ true → HasForm h
form_by_test h w =
    let two = first_so _ _ w in
    record {
      clock = passes_le h.clock last_counter (first_so _ _ two);
      rises = rises_by_test session_fact_cmp h.facts (second_so _ _ two);
      held = each_passes (is_held h.clock) h.facts (second_so _ _ w);
    }

-- and what has the form passes the test
pub test_by_form : (h : Holding) → HasForm h → is_holding h ≡ true
test_by_form h f =
    both _ _ (both _ _ (le_passes h.clock last_counter f.clock) (test_by_rises session_fact_cmp h.facts f.rises)) (all_pass (is_held h.clock) h.facts f.held)

-- ---- unions, and what is kept

-- what is counted up to a clock is counted up to a later one
counted_later : (k : Kind) (m n : ℕ) (f : Fact) → m ≤ n → is_counted k m f ≡ true → is_counted k n f ≡ true
counted_later k m n (Field p t x) l h =
    let three = first_so _ _ h in
    let two = first_so _ _ three in
    let low = passes_le t.counter m (second_so _ _ two) in
    both _ _ (both _ _ (both _ _ (first_so _ _ two) (le_passes t.counter n (omega (arith, l, low)))) (second_so _ _ three)) (second_so _ _ h)
counted_later k m n f l h = refl

-- what is held up to a clock is held up to a later one
held_later : (m n : ℕ) (x : SessionFact) → m ≤ n → is_held m x ≡ true → is_held n x ≡ true
held_later m n x l h = both _ _ (first_so _ _ h) (counted_later x.0.kind m n x.1 l (second_so _ _ h))

-- the union of two of the form
union_form : (h k : Holding) → HasForm h → HasForm k → HasForm (union h k)
union_form h k f g =
    let low = f.clock in
    let also = g.clock in
    record {
      clock = omega (arith, low, also);
      rises = ascending-ascending session_fact_cmp session_fact_ranked (h.facts ++ k.facts);
      held = λ x i. elim (In-cases x h.facts k.facts ((sorted-In (h.facts ++ k.facts) x).0 i)) [
        | inl j ↦ held_later h.clock (max h.clock k.clock) x (omega arith) (f.held x j)
        | inr j ↦ held_later k.clock (max h.clock k.clock) x (omega arith) (g.held x j)
      ];
    }

-- has it
pub union_in_form : (h k : Holding) → is_holding h ≡ true → is_holding k ≡ true → is_holding (union h k) ≡ true
union_in_form h k a b = test_by_form (union h k) (union_form h k (form_by_test h a) (form_by_test k b))

-- and so has what is kept of one
pub kept_in_form : (h : Holding) → is_holding h ≡ true → is_holding (kept_of h) ≡ true
kept_in_form h a =
    let f = form_by_test h a in
    test_by_form (kept_of h) (record {
      clock = f.clock;
      rises = ascending-ascending session_fact_cmp session_fact_ranked (kept_facts h.facts);
      held = λ x i. f.held x (kept_facts-In x h.facts ((sorted-In (kept_facts h.facts) x).0 i)).0;
    })

-- ---- operations

-- where the keys of a list rise it rises by key
rises_by_key : {A B : Type 0} (cmp : B → B → Ordering) (key : A → B) (xs : List A) → Rises cmp (map key xs) → Rises (λ x y. cmp (key x) (key y)) xs
rises_by_key cmp key [] r = tt
rises_by_key cmp key (x ∷ xs) r = (λ y i. r.0 (key y) (In-map key y xs i), rises_by_key cmp key xs r.1)

-- an operation of the form, by parts
pub record IsFormed (o : Operation) : Type 0 where
  pub stamp : is_stamp o.counter o.site ≡ true
  pub number : is_request_number o.session.kind o.number ≡ true
  pub session : is_session o.session ≡ true
  pub together : stand_together o.facts ≡ true
  pub each : (f : Fact) → In f o.facts → (fits o.session.kind f && is_tagged o.session.kind o.counter o.site o.number f) ≡ true

-- is what passes the test
pub formed_by_test : (o : Operation) → is_operation o ≡ true → IsFormed o
formed_by_test o w =
    let four = first_so _ _ w in
    let three = first_so _ _ four in
    let two = first_so _ _ three in
    record {
      stamp = first_so _ _ two;
      number = second_so _ _ two;
      session = second_so _ _ three;
      together = second_so _ _ four;
      each = each_passes (λ f. fits o.session.kind f && is_tagged o.session.kind o.counter o.site o.number f) o.facts (second_so _ _ w);
    }

-- and what is so passes the test
pub test_by_formed : (o : Operation) → IsFormed o → is_operation o ≡ true
test_by_formed o f =
    both _ _ (both _ _ (both _ _ (both _ _ f.stamp f.number) f.session) f.together)
    (all_pass (λ g. fits o.session.kind g && is_tagged o.session.kind o.counter o.site o.number g) o.facts f.each)

-- the number in a tag is that of its place, and has 32 bits
pub number_stays : (k : Kind) (p : Place) (n : ℕ) → is_request_number k n ≡ true → (is_unsigned (number_at k p n) && (number_at k p n == number_at k p (number_at k p n))) ≡ true
number_stays Gx (OfSession f) n h = both _ _ h (grind (arith, nat_tests))
number_stays Gx (OfComponent c f) n h = refl
number_stays Gx (OfFlow c m f) n h = refl
number_stays Gx (OfRuleName t) n h = refl
number_stays Af p n h = refl

-- a fact with the operation's tag is counted up to the operation's counter
pub counted_by_tag : (o : Operation) → IsFormed o → (f : Fact) → is_tagged o.session.kind o.counter o.site o.number f ≡ true → is_counted o.session.kind o.counter f ≡ true
counted_by_tag o w (Field p t x) h =
    let k : Kind = o.session.kind in
    let own : Tag = record { number = number_at k p o.number; counter = o.counter; site = o.site } in
    let numbers = number_stays k p o.number w.number in
    let itself : nat_le o.counter o.counter ≡ true = le_passes o.counter o.counter (omega arith) in
    let counted : is_counted k o.counter (Field p own x) ≡ true = both _ _ (both _ _ (both _ _ w.stamp itself) (first_so _ _ numbers)) (second_so _ _ numbers) in
    subst (λ (g : Tag). is_counted k o.counter (Field p g x) ≡ true) (sym (eq_is tag_ranked t own h)) counted
counted_by_tag o w f h = refl

-- facts are in order where their positions are
less_by_position : (s : Session) (f g : Fact) → position_cmp (position f) (position g) ≡ Less → session_fact_cmp (s, f) (s, g) ≡ Less
less_by_position s f g h =
    ap (λ r. ordering_then r (fact_cmp f g)) (tied_itself session_ranked.total s) ∙ ap (λ r. ordering_then r (option_cmp entry_cmp (entry f) (entry g))) h

-- the facts of an operation on its session rise
under_rises : (s : Session) (facts : List Fact) → Rises position_cmp (map position facts) → Rises session_fact_cmp (under s facts)
under_rises s facts r =
    map-ascending (λ f g. position_cmp (position f) (position g)) session_fact_cmp (λ f. (s, f)) facts (λ f g i j l. less_by_position s f g l)
    (rises_by_key position_cmp position facts r)

-- what one operation makes has the form
one_form : (o : Operation) → IsFormed o → HasForm (record { facts = under o.session o.facts; clock = o.counter })
one_form o w =
    let two = first_so _ _ w.together in
    record {
      clock = within_most 1 last_counter o.counter (first_so _ _ w.stamp);
      rises = under_rises o.session o.facts (rises_by_test position_cmp (map position o.facts) (second_so _ _ two));
      held = λ x i.
          let u = under-In o.session x o.facts i in
          let k : Kind = o.session.kind in
          let e = w.each x.1 u.1 in
          subst (λ (s : Session). is_held o.counter (s, x.1) ≡ true) (sym u.0)
          (both _ _ (both _ _ w.session (first_so _ _ e)) (counted_by_tag o w x.1 (second_so _ _ e)));
    }

-- and so has a holding with one more
pub with_operation_form : (h : Holding) (o : Operation) → is_holding h ≡ true → is_operation o ≡ true → is_holding (with_operation h o) ≡ true
with_operation_form h o a b =
    let one : Holding = record { facts = under o.session o.facts; clock = o.counter } in
    union_in_form h one a (test_by_form one (one_form o (formed_by_test o b)))

-- and what operations make
pub operations_in_form : (os : List Operation) → ((o : Operation) → In o os → is_operation o ≡ true) → is_holding (holding_of os) ≡ true
operations_in_form [] w = refl
operations_in_form (o ∷ os) w = with_operation_form (holding_of os) o (operations_in_form os (λ p i. w p (inr i))) (w o (inl refl))
