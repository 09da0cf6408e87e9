-- What was written is read.
use Rattle.std.proofs.Common.{◌≡◌, ℕ, zero, suc, min, ◌+◌, ◌-◌, ◌*◌, ◌/◌, ◌%◌, ◌<◌, ◌≤◌, ◌==◌, ◌&&◌, Bool, true, false, cond, List, [], ◌∷◌, ◌++◌, All, length, take, drop, get_or, refl, sym, ap, subst, ◌∙◌, append-nil, append_assoc, arith}
use Rattle.std.specs.Prelude.{nat_lt, nat_le, slice_index}
use Rattle.std.specs.Int.{w32, to_be_bytes}
use Rattle.std.specs.List.{concat}
use Rattle.std.proofs.lemmas.Bool.{eq-eqb, le-leb, lt-ltb}
use Rattle.std.proofs.lemmas.List.Elements.{All-head, All-tail}
use Rattle.std.proofs.lemmas.List.{length-append, take_at, drop_at, take-append-le, drop-append-le}
use Rattle.sha2.specs.Sha256.{sha256, digest_bytes}
use Rattle.peer_lines.specs.Hmac.{code_under, same_bytes}
use Rattle.peer_lines.specs.Limits.{code_bytes, head_bytes, last_position, most_piece}
use Rattle.peer_lines.specs.Records.{after, code_of, coded, length_bytes, next, record_of, records_of}
use Rattle.peer_lines.specs.Reading.{code_at, is_length, is_right, opened, opened_within, piece_at, record_bytes, said_length}
use Rattle.peer_lines.specs.Writing.{IsPiece}
use Rattle.peer_lines.specs.Laws.{OthersAreNotOpened, RecordsAreOpened}
use Rattle.peer_lines.specs.declared.sealed.course.Course.{Course}
use Rattle.peer_lines.proofs.Unsealing.{decided, none_right, opening}
use Rattle.peer_lines.proofs.Sealing.{after_suc, after_zero}

-- bytes are the same as themselves
same_refl : (xs : List ℕ) → same_bytes xs xs ≡ true
same_refl [] = refl
same_refl (x ∷ xs) = λ i. eq-eqb x x refl i && same_refl xs i

-- how long a code is
digest_length : (h : List ℕ) (n : ℕ) → length (digest_bytes h n) ≡ 4 * n
unfolding digest_bytes
digest_length h zero = refl
digest_length h (suc n) =
    let more : length (to_be_bytes w32 (slice_index h n)) ≡ 4 = refl in
    omega (arith, length-append (digest_bytes h n) (to_be_bytes w32 (slice_index h n)), digest_length h n, more)

code_length : (key message : List ℕ) → length (code_under key message) ≡ code_bytes
unfolding code_under sha256
code_length key message = digest_length _ 8

-- the length that a record says
said_of_record : (n : ℕ) (rest : List ℕ) → said_length (length_bytes n ++ rest) ≡ n
said_of_record n rest = let e : 256 * (n / 256) + n % 256 ≡ n = omega arith in e

-- a piece's record is right
record_length : (c : Course) (piece : List ℕ) → length (record_of c piece) ≡ record_bytes (length piece)
record_length c piece =
    omega (arith, length-append (length_bytes (length piece) ++ piece) (code_of c piece), length-append (length_bytes (length piece)) piece, code_length c.key.block (coded c piece))

record_right : (c : Course) (piece : List ℕ) → IsPiece piece → c.position < last_position
    → (length (record_of c piece) ≡ record_bytes (said_length (record_of c piece))) × (is_right c (record_of c piece) ≡ true) × (piece_at (record_of c piece) ≡ piece)
record_right c piece fits room =
    let n = length piece in
    let code = code_of c piece in
    let whole = record_of c piece in
    let together : whole ≡ length_bytes n ++ (piece ++ code) = append_assoc (length_bytes n) piece code in
    let said : said_length whole ≡ n = ap said_length together ∙ said_of_record n (piece ++ code) in
    let is_piece : piece_at whole ≡ piece =
    (λ i. take (said i) (drop head_bytes (together i))) ∙ take_at piece code n refl in
    let is_code : code_at whole ≡ code =
    ap (λ (k : ℕ). take code_bytes (drop (head_bytes + k) whole)) said
    ∙ ap (take code_bytes) (drop_at (length_bytes n ++ piece) code (head_bytes + n) (length-append (length_bytes n) piece))
    ∙ ap (take code_bytes) (sym (append-nil code)) ∙ take_at code [] code_bytes (code_length c.key.block (coded c piece)) in
    let long : is_length (said_length whole) ≡ true =
    ap is_length said ∙ (λ i. lt-ltb 0 n fits.0 i && le-leb n most_piece fits.1 i) in
    let all : length whole ≡ record_bytes (said_length whole) = record_length c piece ∙ ap record_bytes (sym said) in
    let there : nat_le (record_bytes (said_length whole)) (length whole) ≡ true = le-leb _ _ (omega (arith, all)) in (
      all,
      decided c whole true (lt-ltb c.position last_position room) long there
          ((λ i. same_bytes (is_code i) (code_of c (is_piece i))) ∙ same_refl code),
      is_piece,
    )

-- it is opened
record_opened : (c : Course) (piece rest : List ℕ) → IsPiece piece → c.position < last_position → opened c (record_of c piece ++ rest) ≡ piece ++ opened (next c) rest
record_opened c piece rest fits room =
    let r = record_right c piece fits room in
    opening c (record_of c piece) rest r.0 r.1 ∙ ap (λ (l : List ℕ). l ++ opened (next c) rest) r.2

pub records_opened : RecordsAreOpened
records_opened c [] rest all room = ap (λ (d : Course). opened d rest) (sym (after_zero c))
records_opened c (piece ∷ pieces) rest all room =
    let first : c.position < last_position = omega arith in
    let others : c.position + 1 + length pieces ≤ last_position = omega arith in
    ap (opened c) (append_assoc (record_of c piece) (records_of (next c) pieces) rest)
    ∙ record_opened c piece (records_of (next c) pieces ++ rest) (All-head IsPiece piece pieces all) first
    ∙ ap (λ (l : List ℕ). piece ++ l) (records_opened (next c) pieces rest (All-tail IsPiece piece pieces all) others
    ∙ ap (λ (d : Course). concat pieces ++ opened d rest) (after_suc c (length pieces)))
    ∙ sym (append_assoc piece (concat pieces) (opened (after c (suc (length pieces))) rest))

-- ---- what isn't right

within_none : (n : ℕ) (c : Course) (bytes : List ℕ) → is_right c bytes ≡ false → opened_within n c bytes ≡ []
unfolding opened_within
within_none zero c bytes e = refl
within_none (suc n) c bytes e = ap (λ (b : Bool). cond b (piece_at bytes ++ opened_within n (next c) (drop (record_bytes (said_length bytes)) bytes)) []) e

pub others_not_opened : OthersAreNotOpened
others_not_opened c bytes e = within_none (length bytes) c bytes e
