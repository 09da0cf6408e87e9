-- Cutting bytes into AVPs.
use Rattle.std.proofs.Common.{◌≡◌, ℕ, zero, suc, ◌+◌, ◌≤◌, ◌<◌, Bool, true, false, cond, List, [], ◌∷◌, ◌++◌, length, take, drop, Option, Some, None, refl, sym, ap, ◌∙◌, append_assoc, arith}
use Rattle.std.specs.Prelude.{IsSome, IfSome}
use Rattle.std.proofs.lemmas.Bool.{ltb-false}
use Rattle.std.proofs.lemmas.List.{append-nil, length-take, length-drop, get_or-take, get_or_append_left}
use Rattle.dia_codec.specs.Fields.{AvpValue, three_at, padding}
use Rattle.dia_codec.specs.Spelling.{head_len, avp_value}
use Rattle.dia_codec.specs.Reading.{◌>>=◌, cut_at, avps_within, avps_of}

-- a test that did not refuse
pub passed : {A : Type 0} (b : Bool) (y : Option A) (x : A) → cond b None y ≡ Some x → (b ≡ false) × (y ≡ Some x)
passed true y x e = absurd cc
passed false y x e = (refl, e)

-- an option with a value, with its type known
abbrev some : {A : Type 0} → A → Option A
some x = Some x

-- equal options have equal values
pub some_is : {A : Type 0} (x y : A) → some x ≡ some y → x ≡ y
some_is x y e = cc

-- what came of two steps came of each
pub bind_some : {A B : Type 0} (r : Option A) (f : A → Option B) (y : B) → (r >>= f) ≡ Some y → (x : A) × (r ≡ Some x) × (f x ≡ Some y)
bind_some (Some x) f y e = (x, refl, e)
bind_some None f y e = absurd cc

-- what a cut says of the bytes
pub record IsCut (bytes own rest : List ℕ) : Type 0 where
  pub within : three_at bytes 5 ≤ length bytes
  pub least : 8 ≤ three_at bytes 5
  pub whole : head_len bytes ≤ three_at bytes 5
  pub own_is : own ≡ take (three_at bytes 5) bytes
  pub rest_is : rest ≡ drop (three_at bytes 5 + padding (three_at bytes 5)) bytes

-- a cut is one
pub is_cut : (bytes own rest : List ℕ) → cut_at bytes ≡ Some (own, rest) → IsCut bytes own rest
unfolding cut_at
is_cut bytes own rest e =
    let a = passed _ _ _ e in
    let b = passed _ _ _ a.1 in
    let c = passed _ _ _ b.1 in
    let d = passed _ _ _ c.1 in
    let same = some_is _ _ d.1 in
    record {
      within = ltb-false _ _ b.0;
      least = ltb-false _ _ c.0;
      whole = ltb-false _ _ d.0;
      own_is = sym (ap (λ (p : List ℕ × List ℕ). p.0) same);
      rest_is = sym (ap (λ (p : List ℕ × List ℕ). p.1) same);
    }

-- a number stands in the bytes before the tail
pub three_at-append : (own tail : List ℕ) (at : ℕ) → at + 3 ≤ length own → three_at (own ++ tail) at ≡ three_at own at
unfolding three_at
three_at-append own tail at le =
    let a : at < length own = omega arith in
    let b : at + 1 < length own = omega arith in
    let c : at + 2 < length own = omega arith in
    rw (get_or_append_left own tail 0 at a, get_or_append_left own tail 0 (at + 1) b, get_or_append_left own tail 0 (at + 2) c) refl

-- the V bit stands in the first eight bytes
pub same_head : (n : ℕ) (bytes : List ℕ) → 8 ≤ n → head_len (take n bytes) ≡ head_len bytes
same_head n bytes le = let lt : 4 < n = omega arith in rw get_or-take refl

-- what is cut off has its whole header
pub own_whole : (bytes own rest : List ℕ) → cut_at bytes ≡ Some (own, rest) → head_len own ≤ length own
own_whole bytes own rest e =
    let k = is_cut bytes own rest e in
    let h = same_head (three_at bytes 5) bytes k.least in
    let w = k.whole in
    let v = k.within in
    rw (k.own_is, h, length-take) (omega arith)

-- a cut takes eight bytes at least
pub shorter : (bytes own rest : List ℕ) → cut_at bytes ≡ Some (own, rest) → length rest + 8 ≤ length bytes
shorter bytes own rest e =
    let k = is_cut bytes own rest e in
    let w = k.within in
    let l = k.least in
    rw (k.rest_is, length-drop) (omega arith)

-- steps that agree on what was read before agree
pub same_after : {A B : Type 0} (r : Option A) (f g : A → Option B) → ((x : A) → r ≡ Some x → f x ≡ g x) → (r >>= f) ≡ (r >>= g)
same_after (Some x) f g h = h x refl
same_after None f g h = refl

-- more room than the bytes need makes no difference
pub within_more : (m n : ℕ) (bytes : List ℕ) → length bytes ≤ m → length bytes ≤ n → avps_within m bytes ≡ avps_within n bytes
unfolding avps_within
within_more m n [] le le' = refl
within_more zero n (b ∷ bytes) le le' = absurd (omega arith)
within_more (suc m) zero (b ∷ bytes) le le' = absurd (omega arith)
within_more (suc m) (suc n) (b ∷ bytes) le le' =
    same_after (cut_at (b ∷ bytes)) _ _ (λ x h.
    let s = shorter (b ∷ bytes) x.0 x.1 h in
    let e : avps_within m x.1 ≡ avps_within n x.1 = within_more m n x.1 (omega arith) (omega arith) in
    rw e refl)

-- the first AVP and the others
pub avps_step : (b : ℕ) (bytes : List ℕ) → avps_of (b ∷ bytes) ≡ (cut_at (b ∷ bytes) >>= λ first. avps_of first.1 >>= λ others. Some (avp_value first.0 ∷ others))
unfolding avps_of avps_within
avps_step b bytes =
    same_after (cut_at (b ∷ bytes)) _ _ (λ x h.
    let s = shorter (b ∷ bytes) x.0 x.1 h in
    let e : avps_within (length bytes) x.1 ≡ avps_within (length x.1) x.1 = within_more (length bytes) (length x.1) x.1 (omega arith) (omega arith) in
    rw e refl)

-- no bytes are no AVPs
pub avps_end : avps_of [] ≡ Some []
unfolding avps_of avps_within
avps_end = refl

-- ---- as a loop does

-- what was read before, and what is still read
abbrev pub with_front : List AvpValue → Option (List AvpValue) → Option (List AvpValue)
with_front front read = read >>= λ others. Some (front ++ others)

-- one more AVP was read
regroup : (front : List AvpValue) (a : AvpValue) (read : Option (List AvpValue)) → with_front front (read >>= λ others. Some (a ∷ others)) ≡ with_front (front ++ a ∷ []) read
regroup front a (Some others) = ap some (simp append_assoc)
regroup front a None = refl

-- the loop goes on with what follows the cut
pub goes_on : (front : List AvpValue) (bytes own after : List ℕ) (total : Option (List AvpValue)) → 0 < length bytes → cut_at bytes ≡ Some (own, after)
    → with_front front (avps_of bytes) ≡ total → with_front (front ++ avp_value own ∷ []) (avps_of after) ≡ total
goes_on front [] own after total left h so_far = absurd (omega arith)
goes_on front (b ∷ bytes) own after total left h so_far =
    let one : with_front front (avps_of (b ∷ bytes)) ≡ with_front (front ++ avp_value own ∷ []) (avps_of after) = rw (avps_step b bytes, h) (regroup front (avp_value own) (avps_of after)) in
    sym one ∙ so_far

-- where no AVP can be cut off, reading fails
pub ends : (front : List AvpValue) (bytes : List ℕ) (total : Option (List AvpValue)) → 0 < length bytes → cut_at bytes ≡ None
    → with_front front (avps_of bytes) ≡ total → total ≡ None
ends front [] total left h so_far = absurd (omega arith)
ends front (b ∷ bytes) total left h so_far =
    let one : with_front front (avps_of (b ∷ bytes)) ≡ None = rw (avps_step b bytes, h) refl in
    sym so_far ∙ one

-- at the end all AVPs were read
pub is_done : (front : List AvpValue) (bytes : List ℕ) (total : Option (List AvpValue)) → length bytes ≡ 0 → with_front front (avps_of bytes) ≡ total → total ≡ Some front
is_done front [] total none so_far = sym so_far ∙ rw avps_end (ap some (append-nil front))
is_done front (b ∷ bytes) total none so_far = absurd (omega arith)

-- the AVPs so far are front, so many of them, whatever they say
pub record IsAfter (bytes rest : List ℕ) (count : ℕ) : Type 0 where
  pub front : List AvpValue
  pub counted : length front ≡ count
  pub total : with_front front (avps_of rest) ≡ avps_of bytes

-- AVPs that were read are so many
pub count_is : (bytes : List ℕ) (front : List AvpValue) (count : ℕ) → length front ≡ count → avps_of bytes ≡ Some front → IfSome (avps_of bytes) (λ avps. Some count ≡ Some (length avps))
count_is bytes front count e read = rw read (ap some (sym e))

-- AVPs that were read are there
pub counts : (bytes : List ℕ) (front : List AvpValue) → avps_of bytes ≡ Some front → IsSome (avps_of bytes)
counts bytes front e = rw e refl
