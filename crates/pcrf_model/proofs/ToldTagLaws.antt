-- The tags of what gateways were told go up to the clock: of a holding and an operation of the form, of unions, and of what is kept and replaced.
use Rattle.std.proofs.Common.{◌≡◌, ℕ, ◌≤◌, max, true, not, List, [], ◌++◌, inl, inr, ap, sym, subst, arith, filter}
use Rattle.std.specs.Cmp.{second_so}
use Rattle.std.specs.Ordering.{is_eq}
use Rattle.pcrf_values.specs.Sets.{In}
use Rattle.pcrf_values.specs.declared.tag.Tag.{Tag}
use Rattle.pcrf_values.proofs.OrderLaws.{eq_is}
use Rattle.pcrf_values.proofs.SetLaws.{In-cases, filter-In}
use Rattle.pcrf_values.specs.RuleValues.{DeltaValue}
use Rattle.pcrf_values.specs.Places.{OfRuleName}
use Rattle.pcrf_values.specs.Facts.{Fact, Field}
use Rattle.pcrf_values.proofs.FactLaws.{tag_ranked}
use Rattle.pcrf_model.specs.Sessions.{Kind, Gx, Af, Session, session_cmp}
use Rattle.pcrf_model.specs.Holdings.{SessionFact, under, Holding, kept_facts, union, kept_of, with_facts_of}
use Rattle.pcrf_model.specs.Operations.{Operation, with_operation}
use Rattle.pcrf_model.specs.Making.{told_facts}
use Rattle.pcrf_model.specs.Forms.{is_tagged, is_operation, is_holding}
use Rattle.pcrf_model.specs.ToldTags.{IsToldUpTo, ToldUpTo}
use Rattle.pcrf_model.proofs.HoldingLaws.{sorted-In, kept_facts-In, under-In}
use Rattle.pcrf_model.proofs.FormReading.{told_number, told_counter}
use Rattle.pcrf_model.proofs.ToldFacts.{told-In}
use Rattle.pcrf_model.proofs.FormLaws.{formed_by_test}

-- ---- single facts

-- what is up to a clock is up to a later one
pub told_later : (m n : ℕ) → m ≤ n → (f : Fact) → IsToldUpTo m f → IsToldUpTo n f
told_later m n l (Field (OfRuleName a) t x) w = let low = w.1 in (w.0, omega (arith, l, low))
told_later m n l f w = tt

-- ---- lists of facts

-- no fact is above any clock
pub told_nothing : (n : ℕ) → ToldUpTo n []
told_nothing n = record { each = λ x i. absurd i }

-- facts of a list whose members are in one up to the clock
pub told_part : (n : ℕ) (xs ys : List SessionFact) → ((x : SessionFact) → In x ys → In x xs) → ToldUpTo n xs → ToldUpTo n ys
told_part n xs ys part w = record { each = λ x i. w.each x (part x i) }

-- a later clock
pub told_longer : (m n : ℕ) (xs : List SessionFact) → m ≤ n → ToldUpTo m xs → ToldUpTo n xs
told_longer m n xs l w = record { each = λ x i. told_later m n l x.1 (w.each x i) }

-- two lists as one
pub told_append : (n : ℕ) (xs ys : List SessionFact) → ToldUpTo n xs → ToldUpTo n ys → ToldUpTo n (xs ++ ys)
told_append n xs ys v w = record { each = λ x i. elim (In-cases x xs ys i) [ inl j ↦ v.each x j | inr j ↦ w.each x j ] }

-- facts on one session
pub told_under : (n : ℕ) (s : Session) (facts : List Fact) → ((f : Fact) → In f facts → IsToldUpTo n f) → ToldUpTo n (under s facts)
told_under n s facts w = record { each = λ x i. w x.1 (under-In s x facts i).1 }

-- ---- holdings

-- a union
pub told_union : (h k : Holding) → ToldUpTo h.clock h.facts → ToldUpTo k.clock k.facts → ToldUpTo (union h k).clock (union h k).facts
told_union h k v w =
    told_part (max h.clock k.clock) (h.facts ++ k.facts) (union h k).facts (λ x. (sorted-In (h.facts ++ k.facts) x).0)
    (told_append (max h.clock k.clock) h.facts k.facts
    (told_longer h.clock (max h.clock k.clock) h.facts (omega arith) v)
    (told_longer k.clock (max h.clock k.clock) k.facts (omega arith) w))

-- what is kept
pub told_kept : (h : Holding) → ToldUpTo h.clock h.facts → ToldUpTo (kept_of h).clock (kept_of h).facts
told_kept h = told_part h.clock h.facts (kept_of h).facts (λ x i. (kept_facts-In x h.facts ((sorted-In (kept_facts h.facts) x).0 i)).0)

-- one operation more
pub told_with_operation : (h : Holding) (o : Operation) → ToldUpTo h.clock h.facts → ToldUpTo o.counter (under o.session o.facts)
    → ToldUpTo (with_operation h o).clock (with_operation h o).facts
told_with_operation h o = told_union h (record { facts = under o.session o.facts; clock = o.counter })

-- one session's facts replaced
pub told_replaced : (n : ℕ) (h : Holding) (s : Session) (facts : List Fact) → ToldUpTo n h.facts → ToldUpTo n (under s facts) → ToldUpTo n (with_facts_of h s facts n).facts
told_replaced n h s facts v w =
    let others : List SessionFact = filter (λ x. not (is_eq (session_cmp s x.0))) h.facts in
    told_part n (others ++ under s facts) (with_facts_of h s facts n).facts (λ x. (sorted-In (others ++ under s facts) x).0)
    (told_append n others (under s facts) (told_part n h.facts others (λ x i. (filter-In (λ x. not (is_eq (session_cmp s x.0))) x h.facts i).0) v) w)

-- ---- form

-- a fact of a holding of the form
held_told : (h : Holding) → is_holding h ≡ true → (s : Session) (f : Fact) → In (s, f) h.facts → IsToldUpTo h.clock f
held_told h form s (Field (OfRuleName n) t x) i = (told_number h form s n t x i, told_counter h form s n t x i)
held_told h form s f i = tt

-- so a holding of the form
pub told_holding : (h : Holding) → is_holding h ≡ true → ToldUpTo h.clock h.facts
told_holding h form = record { each = λ x i. held_told h form x.0 x.1 i }

-- a tag of this counter and no number
by_tag : (counter site : ℕ) (t : Tag) → t ≡ record { number = 0; counter = counter; site = site } → (t.number ≡ 0) × (t.counter ≤ counter)
by_tag counter site t e = let same = ap (λ (g : Tag). g.counter) e in (ap (λ (g : Tag). g.number) e, omega (arith, same))

-- what has the tag of an operation
tagged_told : (k : Kind) (counter site number : ℕ) (f : Fact) → is_tagged k counter site number f ≡ true → IsToldUpTo counter f
tagged_told Gx counter site number (Field (OfRuleName n) t x) h = by_tag counter site t (eq_is tag_ranked t (record { number = 0; counter = counter; site = site }) h)
tagged_told Af counter site number (Field (OfRuleName n) t x) h = by_tag counter site t (eq_is tag_ranked t (record { number = 0; counter = counter; site = site }) h)
tagged_told k counter site number f h = tt

-- and an operation of the form
pub told_operation : (o : Operation) → is_operation o ≡ true → ToldUpTo o.counter (under o.session o.facts)
told_operation o form =
    let formed = formed_by_test o form in
    told_under o.counter o.session o.facts (λ f i. tagged_told o.session.kind o.counter o.site o.number f (second_so _ _ (formed.each f i)))

-- ---- what is told of a difference

-- it has the tag under which it is told
pub told_difference : (g : Tag) (d : DeltaValue) → g.number ≡ 0 → (f : Fact) → In f (told_facts g d) → IsToldUpTo g.counter f
told_difference g d none f i = elim (told-In g d f i) [
  | inl r ↦ subst (IsToldUpTo g.counter) (sym r.2) (none, omega arith)
  | inr r ↦ subst (IsToldUpTo g.counter) (sym r.2) (none, omega arith)
]
