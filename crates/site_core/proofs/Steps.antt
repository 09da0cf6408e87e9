-- Loops over what is left, step by step.
use Rattle.std.proofs.Common.{◌≡◌, ◌<◌, ℕ, zero, suc, ◌+◌, true, false, List, ◌∷◌, cond, length, get_or, drop, refl, sym, ap, ◌∙◌, arith, Option, Some, None}
use Rattle.std.specs.List.{filter}
use Rattle.std.proofs.lemmas.List.{drop_more}
use Rattle.dia_codec.specs.declared.message.Avp.{Avp}
use Rattle.dia_codec.specs.declared.message.AvpKey.{AvpKey}
use Rattle.dia_codec.specs.Fields.{AvpValue, key_of}
use Rattle.dia_codec.specs.Spelling.{avp_view, avp_views}
use Rattle.dia_base.specs.Rows.{has_key, same_key}
use Rattle.site_core.specs.declared.failed_avps.grammar.Grammar.{Grammar}
use Rattle.site_core.specs.Faults.{FaultValue, fault_among, fault_within, or_fault, rows_fault}
use Rattle.site_core.specs.Grammars.{rows_of}
use Rattle.site_core.specs.Uncut.{after_first, rest_after, uncut_within}
use Rattle.site_core.specs.Unsupported.{unsupported_at, unsupported_within}

-- the first of what is left
pub left_at : {X : Type 0} (xs : List X) (i : ℕ) (x : X) → i < length xs → x ≡ get_or xs i x → drop i xs ≡ x ∷ drop (i + 1) xs
left_at xs i x lt is = drop_more xs i x lt ∙ ap (λ y. y ∷ drop (i + 1) xs) (sym is)

-- an AVP with the key is the first that has it
pub keyed_first : (key : AvpKey) (avps : List Avp) (i : ℕ) (a : Avp) → i < length avps → a ≡ get_or avps i a → same_key (key_of (avp_view a)) key ≡ true → filter (has_key key) (avp_views (drop i avps)) ≡ avp_view a ∷ filter (has_key key) (avp_views (drop (i + 1) avps))
keyed_first key avps i a lt is keyed =
    let rest : List AvpValue = filter (has_key key) (avp_views (drop (i + 1) avps)) in
    ap (λ (left : List Avp). filter (has_key key) (avp_views left)) (left_at avps i a lt is) ∙ ap (λ b. cond b (avp_view a ∷ rest) rest) keyed

-- one with another key is passed over
pub keyed_after : (key : AvpKey) (avps : List Avp) (i : ℕ) (a : Avp) → i < length avps → a ≡ get_or avps i a → same_key (key_of (avp_view a)) key ≡ false → filter (has_key key) (avp_views (drop i avps)) ≡ filter (has_key key) (avp_views (drop (i + 1) avps))
keyed_after key avps i a lt is other =
    let rest : List AvpValue = filter (has_key key) (avp_views (drop (i + 1) avps)) in
    ap (λ (left : List Avp). filter (has_key key) (avp_views left)) (left_at avps i a lt is) ∙ ap (λ b. cond b (avp_view a ∷ rest) rest) other

-- one less is passed over
pub drop_one : {X : Type 0} (n k : ℕ) (x : X) (xs : List X) → n ≡ k + 1 → drop n (x ∷ xs) ≡ drop k xs
drop_one n k x xs is = let next : n ≡ suc k = omega (arith, is) in ap (λ m. drop m (x ∷ xs)) next

-- ---- faults

-- one that has no fault is passed over
pub faultless : {X : Type 0} (judge : X → Option FaultValue) (x : X) (xs : List X) → judge x ≡ None → fault_among judge (x ∷ xs) ≡ fault_among judge xs
faultless judge x xs none = ap (λ (first : Option FaultValue). or_fault first (fault_among judge xs)) none

-- one that has a fault is the first
pub faulty : {X : Type 0} (judge : X → Option FaultValue) (x : X) (xs : List X) (f : FaultValue) → judge x ≡ Some f → fault_among judge (x ∷ xs) ≡ Some f
faulty judge x xs f some = ap (λ (first : Option FaultValue). or_fault first (fault_among judge xs)) some

-- a grammar is judged with groups that stand less deep
pub judged_within : (n k : ℕ) (grammar : Grammar) (avps : List AvpValue) → n ≡ k + 1 → fault_within n grammar avps ≡ rows_fault (fault_within k) (rows_of grammar) avps
judged_within n k grammar avps is = let next : n ≡ suc k = omega (arith, is) in ap (λ m. fault_within m grammar avps) next

-- AVPs of a grammar are looked into with groups that stand less deep
pub looked_into : (n k : ℕ) (grammar : Grammar) (avps : List AvpValue) → n ≡ k + 1 → unsupported_within n grammar avps ≡ fault_among (unsupported_at (unsupported_within k) grammar) avps
looked_into n k grammar avps is = let next : n ≡ suc k = omega (arith, is) in ap (λ m. unsupported_within m grammar avps) next

-- ---- AVPs that are cut off

pub cut_off : (n k : ℕ) (bytes rest : List ℕ) → n ≡ k + 1 → after_first bytes ≡ Some rest → uncut_within n bytes ≡ uncut_within k rest
cut_off n k bytes rest is some =
    let next : n ≡ suc k = omega (arith, is) in
    ap (λ m. uncut_within m bytes) next ∙ ap (λ (after : Option (List ℕ)). rest_after (uncut_within k) bytes after) some

pub not_cut : (n : ℕ) (bytes : List ℕ) → after_first bytes ≡ None → uncut_within n bytes ≡ bytes
not_cut zero bytes none = refl
not_cut (suc n) bytes none = ap (λ (after : Option (List ℕ)). rest_after (uncut_within n) bytes after) none
