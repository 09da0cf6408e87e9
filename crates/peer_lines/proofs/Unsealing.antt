-- Records that are read: one at the front, and what is left behind it.
use Rattle.std.proofs.Common.{◌≡◌, ℕ, zero, suc, min, ◌+◌, ◌-◌, ◌*◌, ◌<◌, ◌≤◌, ◌&&◌, Result, Ok, Err, OnOk, OnErr, Bool, true, false, cond, List, [], ◌∷◌, ◌++◌, Option, Some, None, length, take, drop, get_or, refl, sym, ap, subst, ◌∙◌, append-nil, append_assoc, arith}
use Rattle.std.specs.Prelude.{nat_lt, nat_le, IsTrue}
use Rattle.std.specs.Io.{StartsWith}
use Rattle.std.specs.Io.KnownBytes.{Consumes, IsAtEnd, Keeps, prepend_known}
use Rattle.std.proofs.lemmas.List.{get_or-take, get_or_append_left, length-append, length-drop, length-take, take-append-le, drop-append-le, drop_at, nil_from_length, take-append-drop}
use Rattle.std.proofs.lemmas.Bool.{le-leb, leb-true}
use Rattle.peer_lines.specs.Hmac.{same_bytes}
use Rattle.peer_lines.specs.Limits.{code_bytes, head_bytes, last_position, most_piece}
use Rattle.peer_lines.specs.Records.{code_of, next}
use Rattle.peer_lines.specs.Reading.{code_at, is_length, is_right, opened, opened_within, piece_at, record_bytes, said_length}
use Rattle.peer_lines.specs.Streams.{left}
use Rattle.peer_lines.specs.declared.sealed.course.Course.{Course}

-- the length is said by the first two bytes alone
pub said_by_front : (xs p : List ℕ) → StartsWith xs p → 2 ≤ length p → said_length xs ≡ said_length p
said_by_front xs p is two =
    let zeroth : 0 < length p = omega arith in
    let first : 1 < length p = omega arith in
    let a : get_or p 0 0 ≡ get_or xs 0 0 = ap (λ (l : List ℕ). get_or l 0 0) (sym is) ∙ get_or-take (length p) xs 0 0 zeroth in
    let b : get_or p 1 0 ≡ get_or xs 1 0 = ap (λ (l : List ℕ). get_or l 1 0) (sym is) ∙ get_or-take (length p) xs 1 0 first in
    λ i. 256 * sym a i + sym b i

-- ---- one record

-- each of its tests decides, the last one where the others hold
pub decided : (c : Course) (bytes : List ℕ) (same : Bool) → nat_lt c.position last_position ≡ true → is_length (said_length bytes) ≡ true
    → nat_le (record_bytes (said_length bytes)) (length bytes) ≡ true → same_bytes (code_at bytes) (code_of c (piece_at bytes)) ≡ same → is_right c bytes ≡ same
unfolding is_right
decided c bytes same p q r s = λ i. p i && q i && r i && s i

pub spent : (c : Course) (bytes : List ℕ) → nat_lt c.position last_position ≡ false → is_right c bytes ≡ false
unfolding is_right
spent c bytes p = λ i. p i && is_length (said_length bytes) && nat_le (record_bytes (said_length bytes)) (length bytes) && same_bytes (code_at bytes) (code_of c (piece_at bytes))

-- a record that is whole, by how its code and its piece were cut out
pub cut_out : (c : Course) (bytes code : List ℕ) (end width middle : ℕ) (same : Bool) → length bytes ≡ record_bytes (said_length bytes)
    → end ≡ length bytes - code_bytes → width ≡ length bytes - end → middle ≡ end - head_bytes → is_length (said_length bytes) ≡ true
    → nat_lt c.position last_position ≡ true → code ≡ code_of c (take middle (drop head_bytes bytes)) → same ≡ same_bytes (take width (drop end bytes)) code
    → is_right c bytes ≡ same
cut_out c bytes code end width middle same whole e w m long room code_is same_is =
    let n = said_length bytes in
    let at : end ≡ head_bytes + n = omega (arith, whole, e) in
    let wide : width ≡ code_bytes = omega (arith, whole, e, w) in
    let mid : middle ≡ n = omega (arith, at, m) in
    let fits : nat_le (record_bytes n) (length bytes) ≡ true = le-leb _ _ (omega (arith, whole)) in
    decided c bytes same room long fits
    (sym (same_is ∙ (λ i. same_bytes (take (wide i) (drop (at i) bytes)) ((code_is ∙ ap (λ (k : ℕ). code_of c (take k (drop head_bytes bytes))) mid) i))))

-- all of four tests hold
all_four : (p q r s : Bool) → (p && q && r && s) ≡ true → (p ≡ true) × (q ≡ true) × (r ≡ true) × (s ≡ true)
all_four false q r s e = absurd (cc)
all_four true false r s e = absurd (cc)
all_four true true false s e = absurd (cc)
all_four true true true s e = (refl, refl, refl, e)

-- what a record that is right tells
right_parts : (c : Course) (bytes : List ℕ) → is_right c bytes ≡ true
    → (nat_lt c.position last_position ≡ true) × (is_length (said_length bytes) ≡ true) × (nat_le (record_bytes (said_length bytes)) (length bytes) ≡ true)
    × (same_bytes (code_at bytes) (code_of c (piece_at bytes)) ≡ true)
unfolding is_right
right_parts c bytes e = all_four _ _ _ _ e

-- nothing is no record
pub none_right : (c : Course) (bytes : List ℕ) → length bytes ≤ 0 → is_right c bytes ≡ false
none_right c bytes none = of_test (is_right c bytes) refl
  where
    of_test : (b : Bool) → is_right c bytes ≡ b → is_right c bytes ≡ false
    of_test false e = e
    of_test true e = absurd (let fits = leb-true _ _ (right_parts c bytes e).2 in omega (arith, fits, none))

-- ---- what is left behind it

cond_same : (b : Bool) (xs ys zs : List ℕ) → (b ≡ true → xs ≡ ys) → cond b xs zs ≡ cond b ys zs
cond_same true xs ys zs e = e refl
cond_same false xs ys zs e = refl

-- with as many turns as there are bytes, and with more
enough : (n m : ℕ) (c : Course) (bytes : List ℕ) → length bytes ≤ n → length bytes ≤ m → opened_within n c bytes ≡ opened_within m c bytes
unfolding opened_within
enough zero zero c bytes h k = refl
enough zero (suc m) c bytes h k =
    sym (ap (λ (b : Bool). cond b (piece_at bytes ++ opened_within m (next c) (drop (record_bytes (said_length bytes)) bytes)) []) (none_right c bytes h))
enough (suc n) zero c bytes h k =
    ap (λ (b : Bool). cond b (piece_at bytes ++ opened_within n (next c) (drop (record_bytes (said_length bytes)) bytes)) []) (none_right c bytes k)
enough (suc n) (suc m) c bytes h k =
    let rest = drop (record_bytes (said_length bytes)) bytes in
    let short : length rest ≤ n = omega (arith, length-drop (record_bytes (said_length bytes)) bytes, h) in
    let shorter : length rest ≤ m = omega (arith, length-drop (record_bytes (said_length bytes)) bytes, k) in
    cond_same (is_right c bytes) _ _ [] (λ e. ap (λ (l : List ℕ). piece_at bytes ++ l) (enough n m (next c) rest short shorter))

-- a record that is right, and what is left behind it
opened_step : (c : Course) (bytes : List ℕ) → is_right c bytes ≡ true
    → opened c bytes ≡ piece_at bytes ++ opened (next c) (drop (record_bytes (said_length bytes)) bytes)
unfolding opened_within
opened_step c bytes e =
    let rest = drop (record_bytes (said_length bytes)) bytes in
    let n = length bytes in
    let more : n ≤ suc n = omega arith in
    let same : n ≤ n = omega arith in
    let left : length rest ≤ n = omega (arith, length-drop (record_bytes (said_length bytes)) bytes) in
    let own : length rest ≤ length rest = omega arith in
    enough n (suc n) c bytes same more
    ∙ ap (λ (b : Bool). cond b (piece_at bytes ++ opened_within n (next c) rest) []) e
    ∙ ap (λ (l : List ℕ). piece_at bytes ++ l) (enough n (length rest) (next c) rest left own)

-- a record that is right is so whatever comes behind it
said_before : (bytes rest : List ℕ) → 2 ≤ length bytes → said_length (bytes ++ rest) ≡ said_length bytes
said_before bytes rest two =
    let zeroth : 0 < length bytes = omega arith in
    let first : 1 < length bytes = omega arith in
    λ i. 256 * get_or_append_left bytes rest 0 0 zeroth i + get_or_append_left bytes rest 0 1 first i

part_before : (n m : ℕ) (bytes rest : List ℕ) → n + m ≤ length bytes → take m (drop n (bytes ++ rest)) ≡ take m (drop n bytes)
part_before n m bytes rest fits =
    let within : n ≤ length bytes = omega arith in
    let room : m ≤ length (drop n bytes) = omega (arith, length-drop n bytes) in
    ap (take m) (drop-append-le n bytes rest within) ∙ take-append-le m (drop n bytes) rest room

pub opening : (c : Course) (begun rest : List ℕ) → length begun ≡ record_bytes (said_length begun) → is_right c begun ≡ true
    → opened c (begun ++ rest) ≡ piece_at begun ++ opened (next c) rest
opening c begun rest whole right =
    let n = said_length begun in
    let parts = right_parts c begun right in
    let said : said_length (begun ++ rest) ≡ n = said_before begun rest (omega (arith, whole)) in
    let piece : piece_at (begun ++ rest) ≡ piece_at begun =
    ap (λ (k : ℕ). take k (drop head_bytes (begun ++ rest))) said ∙ part_before head_bytes n begun rest (omega (arith, whole)) in
    let code : code_at (begun ++ rest) ≡ code_at begun =
    ap (λ (k : ℕ). take code_bytes (drop (head_bytes + k) (begun ++ rest))) said ∙ part_before (head_bytes + n) code_bytes begun rest (omega (arith, whole)) in
    let fits : nat_le (record_bytes (said_length (begun ++ rest))) (length (begun ++ rest)) ≡ true =
    le-leb _ _ (omega (arith, whole, said, length-append begun rest)) in
    let is : is_right c (begun ++ rest) ≡ true =
    decided c (begun ++ rest) true parts.0 (ap is_length said ∙ parts.1) fits ((λ i. same_bytes (code i) (code_of c (piece i))) ∙ parts.3) in
    let behind : drop (record_bytes (said_length (begun ++ rest))) (begun ++ rest) ≡ rest =
    drop_at begun rest (record_bytes (said_length (begun ++ rest))) (whole ∙ ap record_bytes (sym said)) in
    opened_step c (begun ++ rest) is ∙ (λ i. piece i ++ opened (next c) (behind i))

-- ---- what a reader has left

-- the end of the input, between records
pub none_left : (c : Course) (begun ready : List ℕ) (rest : Option (List ℕ)) → begun ≡ [] → ready ≡ [] → IsAtEnd rest → IsAtEnd (left c begun ready rest)
unfolding opened_within
none_left c begun ready None none idle end = tt
none_left c begun ready (Some xs) none idle end = (λ i. idle i ++ opened c (none i ++ end i))

-- bytes move from the reader below to the record that was begun
pub left_kept : (c : Course) (begun more ready : List ℕ) (a b : Option (List ℕ)) → Keeps (prepend_known begun a) (prepend_known more b) → Keeps (left c begun ready a) (left c more ready b)
left_kept c begun more ready None b k = tt
left_kept c begun more ready (Some xs) None k = absurd k
left_kept c begun more ready (Some xs) (Some ys) k = ap (λ (l : List ℕ). ready ++ opened c l) k

-- a record is opened
pub left_opened : (c : Course) (begun ready : List ℕ) (a b : Option (List ℕ)) → Keeps (prepend_known [] a) (prepend_known begun b) → length begun ≡ record_bytes (said_length begun)
    → is_right c begun ≡ true → Keeps (left c [] [] a) (left (next c) [] (piece_at begun) b)
left_opened c begun ready None b k whole right = tt
left_opened c begun ready (Some xs) None k whole right = absurd k
left_opened c begun ready (Some xs) (Some ys) k whole right = sym (opening c begun ys whole right) ∙ ap (opened c) k

-- some of what is ready is handed on
pub left_given : (c : Course) (begun ready given : List ℕ) (n : ℕ) (a b : Option (List ℕ)) → Keeps a (left c begun ready b) → given ≡ take n ready
    → Consumes a (left c begun (drop n ready) b) given
left_given c begun ready given n None b k is = tt
left_given c begun ready given n (Some xs) None k is = absurd k
left_given c begun ready given n (Some xs) (Some ys) k is =
    sym k ∙ (λ i. sym (take-append-drop n ready) i ++ opened c (begun ++ ys)) ∙ append_assoc (take n ready) (drop n ready) (opened c (begun ++ ys))
    ∙ (λ i. sym is i ++ (drop n ready ++ opened c (begun ++ ys)))

-- a record that was read, and is opened or refused
pub left_after : {T E : Type 0} (r : Result T E) (c d : Course) (old begun more ready now : List ℕ) (a b : Option (List ℕ)) → Keeps (prepend_known old a) (prepend_known begun b)
    → old ≡ [] → ready ≡ [] → length begun ≡ record_bytes (said_length begun) → OnOk r (is_right c begun ≡ true) → OnOk r (now ≡ piece_at begun) → OnOk r (d ≡ next c)
    → OnOk r (more ≡ []) → OnErr r (d ≡ c) → OnErr r (more ≡ begun) → OnErr r (now ≡ ready) → Keeps (left c old ready a) (left d more now b)
left_after (Ok x) c d old begun more ready now a b k none idle whole right opens goes taken s t u =
    subst (λ (x : Option (List ℕ)). Keeps x (left d more now b)) (λ i. left c (sym none i) (sym idle i) a)
    (subst (λ (x : Option (List ℕ)). Keeps (left c [] [] a) x) (λ i. left (sym goes i) (sym taken i) (sym opens i) b)
    (left_opened c begun [] a b (subst (λ (x : List ℕ). Keeps (prepend_known x a) (prepend_known begun b)) none k) whole right))
left_after (Err e) c d old begun more ready now a b k none idle whole right opens goes taken s t u =
    subst (λ (x : Option (List ℕ)). Keeps (left c old ready a) x) (λ i. left (sym s i) (sym t i) (sym u i) b) (left_kept c old begun ready a b k)

-- what is kept, and then lost from the front
pub kept_then : (a b : Option (List ℕ)) (xs : List ℕ) → Keeps a b → (xs ≡ []) → Consumes a b xs
kept_then None b xs k e = tt
kept_then (Some x) None xs k e = absurd k
kept_then (Some x) (Some y) xs k e = sym k ∙ (λ i. sym e i ++ y)

-- a read
pub read_given : (c : Course) (begun ready given : List ℕ) (n room : ℕ) (a b : Option (List ℕ)) → Keeps a (left c begun ready b) → given ≡ take n ready → n ≡ min room (length ready)
    → (0 < room → length ready ≡ 0 → IsAtEnd b) → begun ≡ []
    → Consumes a (left c begun (drop n ready) b) given × (n ≡ 0 → 0 < room → IsAtEnd (left c begun (drop n ready) b))
read_given c begun ready given n room a b k is count end idle = (
  left_given c begun ready given n a b k is,
  λ zero some.
      let none : length ready ≡ 0 = omega arith in
      let rest : length (drop n ready) ≡ 0 = omega (arith, length-drop n ready) in
      none_left c begun (drop n ready) b idle (nil_from_length (drop n ready) rest) (end some none),
)
