-- No letter's spelling begins another's.
use Rattle.std.proofs.Common.{◌≡◌, ℕ, true, List, [], ◌∷◌, ◌++◌, length, take, drop, Some, Result, Ok, refl, sym, ap, ◌∙◌, append_assoc, arith}
use Rattle.std.proofs.lemmas.List.{take_at, drop_at}
use Rattle.pcrf_values.proofs.Plain.{some_same}
use Rattle.pcrf_model.specs.Letters.{LetterValue}
use Rattle.fact_codec.specs.Spelling.{short_bytes, word_bytes}
use Rattle.fact_codec.specs.Reading.{word}
use Rattle.fact_codec.proofs.NumberLaws.{word_again}
use Rattle.peer_exchange.specs.Form.{IsReadIn, is_letter}
use Rattle.peer_exchange.specs.Spelling.{body_bytes, letter_bytes_in, spelling_in}
use Rattle.peer_exchange.specs.Reading.{letter_of}
use Rattle.peer_exchange.specs.declared.fault.LetterFault.{LetterFault}
use Rattle.peer_exchange.proofs.LettersAgain.{letter_parts, edition_low, version_fits, letter_again}

-- a letter that was read, with its type known
abbrev answer : LetterValue → Result LetterValue LetterFault
answer l = Ok l

-- equal answers have equal letters
ok_is : (l m : LetterValue) → answer l ≡ answer m → l ≡ m
ok_is l m e = cc

-- the number of bytes stands before them
length_first : (v : ℕ) (l : LetterValue) (x : List ℕ) → is_letter l ≡ true → word (spelling_in v l ++ x) ≡ Some (length (letter_bytes_in v l), letter_bytes_in v l ++ x)
unfolding spelling_in
length_first v l x h =
    ap word (append_assoc (word_bytes (length (letter_bytes_in v l))) (letter_bytes_in v l) x)
    ∙ word_again (length (letter_bytes_in v l)) (letter_bytes_in v l ++ x) (omega (arith, version_fits v l h))

-- what follows the edition
abbrev after_edition : LetterValue → List ℕ
after_edition l = l.site ∷ (short_bytes l.epoch ++ (body_bytes l.body ++ []))

-- the edition stands behind the version
edition_second : (v : ℕ) (l : LetterValue) → is_letter l ≡ true → word (drop 1 (letter_bytes_in v l)) ≡ Some (l.edition, after_edition l)
edition_second v l h = ap (λ (b : List ℕ). word (drop 1 b)) (letter_parts v l) ∙ word_again l.edition (after_edition l) (edition_low l h)

-- letters whose spellings begin the same bytes are the same letter, and what follows is the same
pub stand_apart : (v w : ℕ) (l m : LetterValue) (x y : List ℕ) → IsReadIn v l → IsReadIn w m → spelling_in v l ++ x ≡ spelling_in w m ++ y → (l ≡ m) × (x ≡ y)
unfolding spelling_in
stand_apart v w l m x y hl hm e =
    let bl = letter_bytes_in v l in
    let bm = letter_bytes_in w m in
    let fronts = some_same (length bl, bl ++ x) (length bm, bm ++ y) (sym (length_first v l x hl.letter) ∙ ap word e ∙ length_first w m y hm.letter) in
    let len : length bl ≡ length bm = ap (λ (p : ℕ × List ℕ). p.0) fronts in
    let all : bl ++ x ≡ bm ++ y = ap (λ (p : ℕ × List ℕ). p.1) fronts in
    let own : bl ≡ bm = sym (take_at bl x (length bl) refl) ∙ ap (take (length bl)) all ∙ take_at bm y (length bl) (sym len) in
    let rest : x ≡ y = sym (drop_at bl x (length bl) refl) ∙ ap (drop (length bl)) all ∙ drop_at bm y (length bl) (sym len) in
    let editions = some_same (l.edition, after_edition l) (m.edition, after_edition m) (sym (edition_second v l hl.letter) ∙ ap (λ (b : List ℕ). word (drop 1 b)) own ∙ edition_second w m hm.letter) in
    let edition : l.edition ≡ m.edition = ap (λ (p : ℕ × List ℕ). p.0) editions in
    let spelled : spelling_in v l ≡ spelling_in w m = ap (λ (b : List ℕ). word_bytes (length b) ++ b) own in
    let same : answer l ≡ answer m =
    sym (letter_again v l hl.known hl.letter hl.had) ∙ ap (λ (n : ℕ). letter_of n (spelling_in v l)) edition ∙ ap (letter_of m.edition) spelled ∙ letter_again w m hm.known hm.letter hm.had in
    (ok_is l m same, rest)
