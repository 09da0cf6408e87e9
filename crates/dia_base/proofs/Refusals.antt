-- The first refusal of a row that may stand several times.
use Rattle.std.proofs.Common.{◌≡◌, ◌<◌, ◌≤◌, ℕ, ◌+◌, nat_lt, true, false, List, [], ◌∷◌, ◌++◌, length, get_or, take, drop, refl, ap, ◌∙◌, arith, Option, Some, None}
use Rattle.std.specs.Prelude.{IfSome}
use Rattle.std.proofs.lemmas.Bool.Decides.{nat_tests}
use Rattle.dia_codec.specs.declared.message.Avp.{Avp}
use Rattle.dia_codec.specs.declared.message.AvpKey.{AvpKey}
use Rattle.dia_codec.specs.Fields.{AvpValue, key_of}
use Rattle.dia_codec.specs.Spelling.{avp_view, avp_views}
use Rattle.pcrf_values.specs.Results.{avp_occurs_too_many_times}
use Rattle.pcrf_values.specs.declared.refusal.Refusal.{Refusal}
use Rattle.dia_base.specs.declared.read_fault.ReadFault.{ReadFault}
use Rattle.dia_base.specs.declared.read_fault.ReadFault.TheVariants.{Refused, NoMemory}
use Rattle.dia_base.specs.Rows.{Row, is_too_often, values_of, same_key, row_refusal, rows_refusal, refusal_among, or_else, AcceptsAll, RefusesWith, IsFaultOf, FaultsWith}
use Rattle.dia_base.proofs.Values.{values_around}

-- neither of two is refused
or_else_parts : (first second : Option Refusal) → or_else first second ≡ None → (first ≡ None) × (second ≡ None)
or_else_parts None second none = (refl, none)
or_else_parts (Some first) second none = absurd (cc)

-- the second of two by one that is as long as it is refused
or_else_front : (first second other : Option Refusal) (refusal : Refusal) → or_else first second ≡ Some refusal → (second ≡ Some refusal → other ≡ Some refusal) → or_else first other ≡ Some refusal
or_else_front None second other refusal some step = step some
or_else_front (Some first) second other refusal some step = some

-- what is refused first in a list whose front isn't refused
pub refusal_among-append : {X : Type 0} (judge : X → Option Refusal) (xs ys : List X) → refusal_among judge xs ≡ None → refusal_among judge (xs ++ ys) ≡ refusal_among judge ys
refusal_among-append judge [] ys none = refl
refusal_among-append judge (x ∷ xs) ys none =
    let both = or_else_parts (judge x) (refusal_among judge xs) none in
    rw both.0 (refusal_among-append judge xs ys both.1)

-- what is refused first in a list whose front is refused
pub refusal_among_front : {X : Type 0} (judge : X → Option Refusal) (xs ys : List X) (refusal : Refusal) → refusal_among judge xs ≡ Some refusal → refusal_among judge (xs ++ ys) ≡ Some refusal
refusal_among_front judge [] ys refusal some = absurd (cc)
refusal_among_front judge (x ∷ xs) ys refusal some = or_else_front (judge x) (refusal_among judge xs) (refusal_among judge (xs ++ ys)) refusal some (refusal_among_front judge xs ys refusal)

-- one value more that isn't refused
pub refusal_among_push : {X : Type 0} (judge : X → Option Refusal) (xs : List X) (x : X) → refusal_among judge xs ≡ None → judge x ≡ None → refusal_among judge (xs ++ x ∷ []) ≡ None
refusal_among_push judge xs x none granted = refusal_among-append judge xs (x ∷ []) none ∙ ap (λ first. or_else first None) granted

-- an AVP with the key whose value is refused, behind values that aren't
pub refused_at : (key : AvpKey) (judge : List ℕ → Option Refusal) (avps : List Avp) (i : ℕ) (a : Avp) (refusal : Refusal) → i < length avps → a ≡ get_or avps i a → same_key (key_of (avp_view a)) key ≡ true → refusal_among judge (values_of key (avp_views (take i avps))) ≡ None → judge a.value.now ≡ Some refusal → refusal_among judge (values_of key (avp_views avps)) ≡ Some refusal
refused_at key judge avps i a refusal lt is keyed none refused =
    ap (refusal_among judge) (values_around key avps i a lt is keyed) ∙ refusal_among-append judge (values_of key (avp_views (take i avps))) (a.value.now ∷ values_of key (avp_views (drop (i + 1) avps))) none ∙ ap (λ first. or_else first (refusal_among judge (values_of key (avp_views (drop (i + 1) avps))))) refused

-- a row of an AVP that stands too often
pub row_too_often : (row : Row) (avps : List AvpValue) → is_too_often row.most (length (values_of row.key avps)) ≡ true → RefusesWith row avps avp_occurs_too_many_times
unfolding row_refusal
row_too_often row avps above = rw above refl

-- a row of an AVP that stands often enough and not too often
pub row_judged : (row : Row) (avps : List AvpValue) → row.least ≤ length (values_of row.key avps) → is_too_often row.most (length (values_of row.key avps)) ≡ false → row_refusal row avps ≡ refusal_among row.kind (values_of row.key avps)
unfolding row_refusal
row_judged row avps enough above =
    let below : nat_lt (length (values_of row.key avps)) row.least ≡ false = grind (arith, nat_tests) in
    rw (above, below) refl

-- a row that stands often enough and not too often is refused as the first of its values that is
pub row_refused_at : (row : Row) (avps : List Avp) (i : ℕ) (a : Avp) (fault : ReadFault) → row.least ≤ length (values_of row.key (avp_views avps)) → is_too_often row.most (length (values_of row.key (avp_views avps))) ≡ false → i < length avps → a ≡ get_or avps i a → same_key (key_of (avp_view a)) row.key ≡ true → refusal_among row.kind (values_of row.key (avp_views (take i avps))) ≡ None → IsFaultOf (row.kind a.value.now) fault → FaultsWith row (avp_views avps) fault
row_refused_at row avps i a NoMemory enough within lt is keyed none refused = tt
row_refused_at row avps i a (Refused refusal) enough within lt is keyed none refused =
    row_judged row (avp_views avps) enough within ∙ refused_at row.key row.kind avps i a refusal lt is keyed none refused

-- what stands not too often is within the limit, if there is one
pub within_limit : (most : Option ℕ) (count : ℕ) → is_too_often most count ≡ false → IfSome most (λ (n : ℕ). count ≤ n)
within_limit None count h = tt
within_limit (Some most) count h = grind (arith, nat_tests)

-- ---- two tables, one after the other

-- both are kept
pub rows_kept : (first second : List Row) (avps : List AvpValue) → AcceptsAll first avps → AcceptsAll second avps → AcceptsAll (first ++ second) avps
rows_kept first second avps none also = refusal_among-append (λ row. row_refusal row avps) first second none ∙ also

-- the first is broken
pub rows_broken : (first second : List Row) (avps : List AvpValue) (fault : ReadFault) → IsFaultOf (rows_refusal first avps) fault → IsFaultOf (rows_refusal (first ++ second) avps) fault
rows_broken first second avps NoMemory broken = tt
rows_broken first second avps (Refused refusal) broken = refusal_among_front (λ row. row_refusal row avps) first second refusal broken

-- the second is broken, and the first isn't
pub rows_broken_later : (first second : List Row) (avps : List AvpValue) (fault : ReadFault) → AcceptsAll first avps → IsFaultOf (rows_refusal second avps) fault → IsFaultOf (rows_refusal (first ++ second) avps) fault
rows_broken_later first second avps NoMemory none broken = tt
rows_broken_later first second avps (Refused refusal) none broken = refusal_among-append (λ row. row_refusal row avps) first second none ∙ broken
