-- Records that are written one behind the other.
use Rattle.std.proofs.Common.{◌≡◌, ℕ, zero, suc, min, ◌+◌, ◌-◌, ◌<◌, ◌≤◌, List, [], ◌∷◌, ◌++◌, All, Option, length, take, drop, refl, sym, ap, subst, ◌∙◌, append-nil, append_assoc, arith}
use Rattle.std.specs.List.{concat}
use Rattle.std.specs.Io.KnownBytes.{Appends}
use Rattle.std.proofs.KnownBytes.{Appends-nil, Appends-trans}
use Rattle.std.proofs.lemmas.List.Elements.{All-nil, All-cons, All-append}
use Rattle.std.proofs.Math.Seq.{take-add}
use Rattle.std.proofs.lemmas.List.{length-append, length-drop, length-take, take_rest}
use Rattle.peer_lines.specs.Limits.{most_piece}
use Rattle.peer_lines.specs.Records.{after, next, record_of, records_of}
use Rattle.peer_lines.specs.Writing.{IsPiece, WritesRecords}
use Rattle.peer_lines.specs.declared.sealed.course.Course.{Course}

-- a course behind more and more records
pub after_zero : (c : Course) → after c 0 ≡ c
after_zero c = ap (λ (p : ℕ). record c { position = p }) (let e : c.position + 0 ≡ c.position = omega arith in e)

pub after_suc : (c : Course) (n : ℕ) → after (next c) n ≡ after c (suc n)
after_suc c n = ap (λ (p : ℕ). record c { position = p }) (let e : c.position + 1 + n ≡ c.position + suc n = omega arith in e)

next_after : (c : Course) (n : ℕ) → next (after c n) ≡ after c (n + 1)
next_after c n = ap (λ (p : ℕ). record c { position = p }) (let e : c.position + n + 1 ≡ c.position + (n + 1) = omega arith in e)

-- one record more
records_more : (c : Course) (pieces : List (List ℕ)) (piece : List ℕ) → records_of c (pieces ++ piece ∷ []) ≡ records_of c pieces ++ record_of (after c (length pieces)) piece
records_more c [] piece = append-nil (record_of c piece) ∙ ap (λ (d : Course). record_of d piece) (sym (after_zero c))
records_more c (p ∷ pieces) piece =
    ap (λ l. record_of c p ++ l) (records_more (next c) pieces piece ∙ ap (λ (d : Course). records_of (next c) pieces ++ record_of d piece) (after_suc c (length pieces)))
    ∙ sym (append_assoc (record_of c p) (records_of (next c) pieces) (record_of (after c (suc (length pieces))) piece))

concat_more : (pieces : List (List ℕ)) (piece : List ℕ) → concat (pieces ++ piece ∷ []) ≡ concat pieces ++ piece
concat_more [] piece = append-nil piece
concat_more (p ∷ pieces) piece = ap (λ l. p ++ l) (concat_more pieces piece) ∙ sym (append_assoc p (concat pieces) piece)

-- nothing written
pub writes_nothing : (a : Option (List ℕ)) (c : Course) → WritesRecords a a c c []
writes_nothing a c = ([], refl, All-nil IsPiece, Appends-nil a, sym (after_zero c))

-- and then one record
pub writes_more : (a b e : Option (List ℕ)) (c d f : Course) (bytes piece all : List ℕ) → WritesRecords a b c d bytes → Appends b e (record_of d piece) → f ≡ next d
    → IsPiece piece → bytes ++ piece ≡ all → WritesRecords a e c f all
writes_more a b e c d f bytes piece all w p is fits whole =
    let k = length w.0 in (
      w.0 ++ piece ∷ [],
      concat_more w.0 piece ∙ ap (λ l. l ++ piece) w.1 ∙ whole,
      All-append IsPiece w.0 (piece ∷ []) w.2 (All-cons IsPiece piece [] fits (All-nil IsPiece)),
      subst (λ (l : List ℕ). Appends a e l)
          (ap (λ (x : Course). records_of c w.0 ++ record_of x piece) w.4 ∙ sym (records_more c w.0 piece))
          (Appends-trans a b e (records_of c w.0) (record_of d piece) w.3 p),
      is ∙ ap next w.4 ∙ next_after c k ∙ ap (after c) (sym (length-append w.0 (piece ∷ []))),
    )

-- as many bytes as a record may have, of those that are left
pub piece_fits : (n : ℕ) (rest : List ℕ) → n ≡ min (length rest) most_piece → 0 < length rest → IsPiece (take n rest)
piece_fits n rest e some =
    let l = length-take n rest in
    (omega (arith, l, e, some), omega (arith, l, e))

-- what was taken and a piece behind it
pub taken_more : (n m : ℕ) (bytes : List ℕ) → take n bytes ++ take m (take (length bytes - n) (drop n bytes)) ≡ take (n + m) bytes
taken_more n m bytes = ap (λ (l : List ℕ). take n bytes ++ take m l) (take_rest bytes n) ∙ sym (take-add n m bytes)

-- so many are left
pub rest_of : (n : ℕ) (bytes : List ℕ) → length (take (length bytes - n) (drop n bytes)) ≡ length bytes - n
rest_of n bytes = ap length (take_rest bytes n) ∙ length-drop n bytes
