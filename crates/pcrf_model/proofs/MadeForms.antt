-- What requests and pushes make: facts that stand together at places of their own, none overshadowed by another, as one operation of the form.
use Rattle.std.proofs.lemmas.Bool.Decides.{nat_tests}
use Rattle.std.proofs.Common.{◌≡◌, ℕ, ◌+◌, ◌<◌, Bool, true, false, cond, not, ◌&&◌, nat_le, nat_lt, List, [], ◌∷◌, ◌++◌, map, length, Option, Some, None, inl, inr, refl, sym, ap, ◌∙◌, subst, option_map, flat_map, Ordering, Less, Equal, Greater, arith}
use Rattle.std.specs.Ordering.{is_lt, ordering_then}
use Rattle.std.specs.Cmp.{tied_itself}
use Rattle.std.specs.List.{list_any}
use Rattle.std.specs.Option.{option_cmp}
use Rattle.pcrf_values.specs.Ascending.{ascending}
use Rattle.pcrf_values.specs.Sets.{In}
use Rattle.pcrf_values.specs.declared.tag.Tag.{Tag}
use Rattle.pcrf_values.proofs.Plain.{clash, is_false, both, none_some, some_same}
use Rattle.pcrf_values.proofs.SetLaws.{In-left, In-cases, any-none}
use Rattle.pcrf_values.proofs.PartLaws.{In-flat_map}
use Rattle.pcrf_values.proofs.AscendingLaws.{map-ascending, ascending-ascending}
use Rattle.pcrf_values.specs.Places.{SessionField, OriginHost, OriginRealm, RequestType, session_fields, Place, OfSession, place_position, position_cmp, host}
use Rattle.pcrf_values.specs.Values.{Value, Number, Text, entry_cmp}
use Rattle.pcrf_values.specs.Facts.{Fact, End, Field, position, entry, fact_cmp, is_shaded_by}
use Rattle.pcrf_values.proofs.FactLaws.{every_session_field, place_ranked, position_ranked, fact_ranked, shaded_irr, same_place}
use Rattle.pcrf_values.proofs.JoinedLaws.{sorted-In}
use Rattle.pcrf_values.specs.Limits.{last_counter, site_limit}
use Rattle.pcrf_model.specs.Sessions.{Kind, Session}
use Rattle.pcrf_model.specs.Holdings.{Holding}
use Rattle.pcrf_model.specs.Requests.{UserValue}
use Rattle.pcrf_model.specs.Making.{given_fact, user_says, request_says, said_facts, next_operation}
use Rattle.pcrf_model.specs.Forms.{is_tagged, is_session, is_request_number, is_none_or, is_identity, is_user, is_stamp, fits_session_field, stand_together, fits, is_operation}
use Rattle.pcrf_model.proofs.FormReading.{each_passes}
use Rattle.pcrf_model.proofs.FormLaws.{test_by_rises, le_passes, test_by_formed}

-- ---- facts that stand together

-- there are some, no two at one position, and none overshadows another
pub record CanStand (facts : List Fact) : Type 0 where
  pub some : (f : Fact) × In f facts
  pub apart : (f g : Fact) → In f facts → In g facts → position f ≡ position g → f ≡ g
  pub clear : (f g : Fact) → In f facts → In g facts → is_shaded_by f g ≡ false

-- a list with a member is not empty
pub has_one : {A : Type 0} (x : A) (xs : List A) → In x xs → nat_le 1 (length xs) ≡ true
has_one x [] i = absurd i
has_one x (y ∷ ys) i = le_passes 1 (length (y ∷ ys)) (omega arith)

-- what is less by a pair whose first parts differ is less by them
first_less : (r s : Ordering) → ordering_then r s ≡ Less → (r ≡ Equal → ⊥) → r ≡ Less
first_less Less s h n = refl
first_less Equal s h n = absurd (n refl)
first_less Greater s h n = h

-- in order they rise by position
position_less : (facts : List Fact) → CanStand facts → (f g : Fact) → In f facts → In g facts → fact_cmp f g ≡ Less → position_cmp (position f) (position g) ≡ Less
position_less facts c f g i j l =
    first_less (position_cmp (position f) (position g)) (option_cmp entry_cmp (entry f) (entry g)) l
    (λ e. let same = c.apart f g i j (position_ranked.same (position f) (position g) e) in
    clash (is_lt (fact_cmp f g)) (ap is_lt l) (ap is_lt (ap (fact_cmp f) (sym same) ∙ tied_itself fact_ranked.total f)))

-- so they stand together in order
pub stands : (facts : List Fact) → CanStand facts → stand_together (ascending fact_cmp facts) ≡ true
stands facts c =
    let sorted : List Fact = ascending fact_cmp facts in
    let there = λ (f : Fact) (i : In f sorted). (sorted-In facts f).0 i in
    both _ _
    (both _ _
    (has_one c.some.0 sorted ((sorted-In facts c.some.0).1 c.some.1))
    (test_by_rises position_cmp (map position sorted) (map-ascending fact_cmp position_cmp position sorted
    (λ f g i j. position_less facts c f g (there f i) (there g j))
    (ascending-ascending fact_cmp fact_ranked facts))))
    (ap not (any-none (λ f. list_any (is_shaded_by f) sorted) sorted (λ f i. any-none (is_shaded_by f) sorted (λ g j. c.clear f g (there f i) (there g j)))))

-- a fact does not overshadow what is the same
clear_itself : (f g : Fact) → f ≡ g → is_shaded_by f g ≡ false
clear_itself f g e = subst (λ (z : Fact). is_shaded_by f z ≡ false) e (shaded_irr f)

-- fields overshadow each other at one place alone
clear_field : (p q : Place) (t u : Tag) (v w : Value) → (position (Field p t v) ≡ position (Field q u w) → Field p t v ≡ Field q u w) → is_shaded_by (Field p t v) (Field q u w) ≡ false
clear_field p q t u v w one =
    is_false _ (λ h.
    let same = one (ap (λ (r : Place). position (Field r t v)) (same_place p q t u v w h)) in
    clash (is_shaded_by (Field p t v) (Field q u w)) h (clear_itself (Field p t v) (Field q u w) same))

-- a field at some place
pub data IsField : Fact → Type 0 where
  field : (p : Place) (t : Tag) (v : Value) → IsField (Field p t v)

-- which overshadows no other field at another place
pub clear_fields : (f g : Fact) → IsField f → IsField g → (position f ≡ position g → f ≡ g) → is_shaded_by f g ≡ false
clear_fields f g (field p t v) (field q u w) one = clear_field p q t u v w one

-- ---- one operation

-- facts that may be one operation's
pub record MayMake (k : Kind) (counter site number : ℕ) (facts : List Fact) : Type 0 where
  pub stand : CanStand facts
  pub each : (f : Fact) → In f facts → (fits k f && is_tagged k counter site number f) ≡ true

-- a site with a counter left
pub record CanAdd (i : ℕ) (h : Holding) : Type 0 where
  pub site : i < site_limit
  pub left : h.clock < last_counter

-- gives a stamp
pub stamp_left : (i : ℕ) (h : Holding) → CanAdd i h → is_stamp (h.clock + 1) i ≡ true
stamp_left i h a =
    let site = a.site in
    let left = a.left in
    let low : nat_lt i site_limit ≡ true = grind (arith, nat_tests) in
    both _ _ (both _ _ (le_passes 1 (h.clock + 1) (omega arith)) (le_passes (h.clock + 1) last_counter (omega (arith, left)))) low

-- under a stamp they make an operation of the form
pub stamped_in_form : (counter i n : ℕ) (s : Session) (facts : List Fact) → is_stamp counter i ≡ true → is_request_number s.kind n ≡ true → is_session s ≡ true → MayMake s.kind counter i n facts
    → is_operation (record { counter = counter; site = i; number = n; session = s; facts = ascending fact_cmp facts }) ≡ true
stamped_in_form counter i n s facts stamp number session m =
    test_by_formed (record { counter = counter; site = i; number = n; session = s; facts = ascending fact_cmp facts }) (record {
      stamp = stamp;
      number = number;
      session = session;
      together = stands facts m.stand;
      each = λ f j. m.each f ((sorted-In facts f).0 j);
    })

-- and so does a site with a counter left
pub made_in_form : (i : ℕ) (h : Holding) (n : ℕ) (s : Session) (facts : List Fact) → CanAdd i h → is_request_number s.kind n ≡ true → is_session s ≡ true → MayMake s.kind (h.clock + 1) i n facts
    → is_operation (next_operation i h n s facts) ≡ true
made_in_form i h n s facts a = stamped_in_form (h.clock + 1) i n s facts (stamp_left i h a)

-- one fact alone stands
alone_stands : (x : Fact) → CanStand (x ∷ [])
alone_stands x = record {
  some = (x, inl refl);
  apart = λ f g i j _. only f i ∙ sym (only g j);
  clear = λ f g i j. clear_itself f g (only f i ∙ sym (only g j));
}
  where
    only : (f : Fact) → In f (x ∷ []) → f ≡ x
    only f (inl e) = e
    only f (inr i) = absurd i

-- so it makes an operation of the form, if it fits
pub alone_in_form : (counter i n : ℕ) (s : Session) (x : Fact) → is_stamp counter i ≡ true
    → is_request_number s.kind n ≡ true → is_session s ≡ true
    → (fits s.kind x && is_tagged s.kind counter i n x) ≡ true
    → is_operation (record { counter = counter; site = i; number = n; session = s; facts = x ∷ [] }) ≡ true
alone_in_form counter i n s x stamp number session fit =
    stamped_in_form counter i n s (x ∷ []) stamp number session
    (record { stand = alone_stands x; each = λ f. elim [ inl e ↦ same f e | inr j ↦ absurd j ] })
  where
    same : (f : Fact) → f ≡ x → (fits s.kind f && is_tagged s.kind counter i n f) ≡ true
    same f e =
        subst (λ (g : Fact). (fits s.kind g && is_tagged s.kind counter i n g) ≡ true) (sym e) fit

-- as an end does
pub end_in_form : (counter i n : ℕ) (s : Session) → is_stamp counter i ≡ true → is_request_number s.kind n ≡ true → is_session s ≡ true
    → is_operation (record { counter = counter; site = i; number = n; session = s; facts = End ∷ [] }) ≡ true
end_in_form counter i n s stamp number session =
    alone_in_form counter i n s End stamp number session refl

-- ---- all facts of a list

-- each fact of the list is so
pub record Each (P : Fact → Type 0) (facts : List Fact) : Type 0 where
  pub so : (f : Fact) → In f facts → P f

module _ {P : Fact → Type 0} where
  -- of no fact
  pub none : Each P []
  none = record { so = λ f i. absurd i }

  -- of one more
  pub more : {f : Fact} {fs : List Fact} → P f → Each P fs → Each P (f ∷ fs)
  more p all = record { so = λ g. elim [ inl e ↦ subst P (sym e) p | inr i ↦ all.so g i ] }

  infixl 5 ◌and◌
  -- of two lists
  pub ◌and◌ : {xs ys : List Fact} → Each P xs → Each P ys → Each P (xs ++ ys)
  ◌and◌ {xs = xs} {ys = ys} a b = record { so = λ f i. elim (In-cases f xs ys i) [ inl j ↦ a.so f j | inr j ↦ b.so f j ] }

  -- of one of two
  pub either : {xs ys : List Fact} (b : Bool) → (b ≡ true → Each P xs) → (b ≡ false → Each P ys) → Each P (cond b xs ys)
  either true x y = x refl
  either false x y = y refl

  -- of what each member of a list makes
  pub all_of : {A : Type 0} (make : A → List Fact) (xs : List A) → ((x : A) → In x xs → Each P (make x)) → Each P (flat_map make xs)
  all_of make [] h = none
  all_of make (x ∷ xs) h = h x (inl refl) and all_of make xs (λ y i. h y (inr i))

  -- of one fact for each member
  pub all_map : {A : Type 0} (make : A → Fact) (xs : List A) → ((x : A) → In x xs → P (make x)) → Each P (map make xs)
  all_map make [] h = none
  all_map make (x ∷ xs) h = more (h x (inl refl)) (all_map make xs (λ y i. h y (inr i)))

  -- of what may be given
  pub all_given : {A : Type 0} (p : Place) (t : Tag) (as_value : A → Value) (x : Option A) → ((v : Value) → option_map as_value x ≡ Some v → P (Field p t v)) → Each P (given_fact p t as_value x)
  all_given p t as_value None h = none
  all_given p t as_value (Some y) h = more (h (as_value y) refl) none

-- what one list has both have
pub some_left : (xs ys : List Fact) → (f : Fact) × In f xs → (f : Fact) × In f (xs ++ ys)
some_left xs ys r = (r.0, In-left r.0 xs ys r.1)

-- what may be given passes the test of all that are given
pub given_passes : {A : Type 0} (test : A → Bool) (as_value : A → Value) (x : Option A) (v : Value) (good : Value → Bool) → ((y : A) → test y ≡ true → good (as_value y) ≡ true)
    → is_none_or test x ≡ true → option_map as_value x ≡ Some v → good v ≡ true
given_passes test as_value None v good fit h e = absurd (cc)
given_passes test as_value (Some y) v good fit h e = subst (λ (z : Value). good z ≡ true) (some_same (as_value y) v e) (fit y h)

-- ---- the fields of a session

-- what a request says in each
module _ (says : SessionField → Option Value) where
  -- each fact of them says that
  pub said_each : {P : Fact → Type 0} (t : Tag)
      → ((f : SessionField) (v : Value) → says f ≡ Some v → P (Field (OfSession f) t v))
      → Each P (said_facts t says)
  said_each {P} t h = all_of said session_fields (λ f i. of_field f (says f) (h f))
    where
      said : SessionField → List Fact
      said f = given_fact (OfSession f) t (λ x. x) (says f)

      of_field : (f : SessionField) (x : Option Value)
          → ((v : Value) → x ≡ Some v → P (Field (OfSession f) t v))
          → Each P (given_fact (OfSession f) t (λ y. y) x)
      of_field f None k = none
      of_field f (Some y) k = more (k y refl) none

  -- and what it says is there
  pub said_there : (t : Tag) (f : SessionField) (v : Value) → says f ≡ Some v
      → In (Field (OfSession f) t v) (said_facts t says)
  said_there t f v e = In-flat_map said f own session_fields (every_session_field f) there
    where
      own : Fact
      own = Field (OfSession f) t v

      said : SessionField → List Fact
      said g = given_fact (OfSession g) t (λ x. x) (says g)

      there : In own (said f)
      there =
          subst (λ (x : Option Value). In own (given_fact (OfSession f) t (λ y. y) x)) (sym e)
          (inl refl)

-- what is said passes a test of all that may be said
said_passes : (test : Value → Bool) (x : Option Value) (v : Value) → is_none_or test x ≡ true
    → x ≡ Some v → test v ≡ true
said_passes test None v h e = none_some v e
said_passes test (Some y) v h e = subst (λ (z : Value). test z ≡ true) (some_same y v e) h

module _ (u : UserValue) (of_host of_realm : List ℕ) (kind : ℕ) where
  -- what it says
  abbrev says : SessionField → Option Value
  says = request_says u of_host of_realm kind

  -- one of them is there
  pub session_some : (t : Tag) → (f : Fact) × In f (said_facts t says)
  session_some t = (Field host t (Text of_host), said_there says t OriginHost (Text of_host) refl)

  -- and what it says fits
  pub session_fits : (k : Kind) → is_user k u ≡ true → is_identity of_host ≡ true
      → is_identity of_realm ≡ true → fits_session_field k RequestType (Number kind) ≡ true
      → (f : SessionField) (v : Value) → says f ≡ Some v → fits_session_field k f v ≡ true
  session_fits k user hosts realms last OriginHost v e = subst (λ (z : Value). fits_session_field k OriginHost z ≡ true) (some_same (Text of_host) v e) hosts
  session_fits k user hosts realms last OriginRealm v e = subst (λ (z : Value). fits_session_field k OriginRealm z ≡ true) (some_same (Text of_realm) v e) realms
  session_fits k user hosts realms last RequestType v e = subst (λ (z : Value). fits_session_field k RequestType z ≡ true) (some_same (Number kind) v e) last
  session_fits k user hosts realms last f v e = said_passes (fits_session_field k f) (user_says u f) v so e
    where
      passes : SessionField → Bool
      passes g = is_none_or (fits_session_field k g) (user_says u g)

      so : passes f ≡ true
      so = each_passes passes session_fields user f (every_session_field f)

-- ---- places

-- two places at one position are one
pub one_place : (p q : Place) → place_position p ≡ place_position q → p ≡ q
one_place p q e = place_ranked.same p q (ap (position_cmp (place_position p)) (sym e) ∙ tied_itself position_ranked.total (place_position p))

-- so are two fields that say the same there, under one tag
pub one_field : (p q : Place) (t : Tag) (v w : Value) → p ≡ q → v ≡ w → Field p t v ≡ Field q t w
one_field p q t v w e f = λ i. Field (e i) t (f i)

-- session fields that are one
pub one_session_field : (f g : SessionField) → OfSession f ≡ OfSession g → f ≡ g
one_session_field f g e = cc
