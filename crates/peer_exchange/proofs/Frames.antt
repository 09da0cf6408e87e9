-- What is taken from the front of a stream is a frame.
use Rattle.std.proofs.Common.{◌≡◌, ℕ, ◌+◌, ◌≤◌, ◌<◌, Bool, true, false, cond, List, ◌++◌, length, take, drop, Option, Some, None, Result, Ok, Err, refl, sym, ap, ◌∙◌, arith}
use Rattle.std.proofs.lemmas.Bool.{ltb-false}
use Rattle.std.proofs.lemmas.List.{length-take, take-append-drop, get_or_append_left}
use Rattle.peer_exchange.specs.declared.fault.FrameFault.{FrameFault}
use Rattle.peer_exchange.specs.Frames.{IsFrame, body_length, front_of}

-- what stands at the front
abbrev Found : Type 0
Found = Result (Option (List ℕ × List ℕ)) FrameFault

-- a frame and what follows it, with its type known
abbrev found : List ℕ × List ℕ → Found
found x = Ok (Some x)

-- equal answers have equal frames
found_is : (x y : List ℕ × List ℕ) → found x ≡ found y → x ≡ y
found_is x y e = cc

-- a test of too few bytes did not refuse
long : (b : Bool) (y : Found) (x : List ℕ × List ℕ) → cond b (Ok None) y ≡ found x → (b ≡ false) × (y ≡ found x)
long true y x e = absurd cc
long false y x e = (refl, e)

-- a test of the length did not refuse
good : (b : Bool) (d : FrameFault) (y : Found) (x : List ℕ × List ℕ) → cond b (Err d) y ≡ found x → (b ≡ false) × (y ≡ found x)
good true d y x e = absurd cc
good false d y x e = (refl, e)

-- the length stands in the first four bytes
body_length-append : (own tail : List ℕ) → 4 ≤ length own → body_length (own ++ tail) ≡ body_length own
unfolding body_length
body_length-append own tail le =
    let a : 0 < length own = omega arith in
    let b : 1 < length own = omega arith in
    let c : 2 < length own = omega arith in
    let d : 3 < length own = omega arith in
    rw (get_or_append_left own tail 0 0 a, get_or_append_left own tail 0 1 b, get_or_append_left own tail 0 2 c, get_or_append_left own tail 0 3 d) refl

-- what is taken from the front is a frame, and the rest follows it
pub frame_takes : (bytes frame rest : List ℕ) → front_of bytes ≡ Ok (Some (frame, rest)) → IsFrame frame × (bytes ≡ frame ++ rest)
unfolding front_of
frame_takes bytes frame rest e =
    let a = long _ _ _ e in
    let b = good _ _ _ _ a.1 in
    let c = long _ _ _ b.1 in
    let same = found_is _ _ c.1 in
    let n = 4 + body_length bytes in
    let front : take n bytes ≡ frame = ap (λ (p : List ℕ × List ℕ). p.0) same in
    let back : drop n bytes ≡ rest = ap (λ (p : List ℕ × List ℕ). p.1) same in
    let most : body_length bytes ≤ 1073741824 = ltb-false _ _ b.0 in
    let within : n ≤ length bytes = ltb-false _ _ c.0 in
    let len : length frame ≡ n = rw (← front, length-take) (omega arith) in
    let parts : bytes ≡ frame ++ rest = rw (← front, ← back) (sym (take-append-drop n bytes)) in
    let own : body_length frame ≡ body_length bytes = sym (body_length-append frame rest (omega (arith, len))) ∙ ap body_length (sym parts) in
    (record { whole = len ∙ ap (λ (k : ℕ). 4 + k) (sym own); most = rw own most }, parts)
