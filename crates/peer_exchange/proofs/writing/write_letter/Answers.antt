use Rattle.std.proofs.Common.{◌≡◌, ℕ, ◌-◌, ◌≤◌, true, ◌&&◌, List, ◌++◌, length, drop, ap, ◌∙◌, rules, arith}
use Rattle.fact_codec.specs.Spelling.{word_bytes}
use Rattle.peer_exchange.specs.Spelling.{letter_bytes, spelling, spelling_in}
use Rattle.pcrf_values.proofs.Plain.{both}
use Rattle.pcrf_model.proofs.FormLaws.{le_passes}
use Rattle.peer_exchange.specs.Limits.{longest_letter}
use Rattle.peer_exchange.specs.Form.{is_addressed, is_formed, is_letter}
use Rattle.peer_exchange.specs.Reading.{letter_of}
use Rattle.peer_exchange.proofs.LettersAgain.{written_again}
use Rattle.peer_exchange.proofs.FirstFour.{word_and, after_word}
use Rattle.peer_exchange.proofs.writing.write_letter.Goals as goal

pub overflow_sub-length : goal.overflow_sub-length
overflow_sub-length c =
    let all : c.put_letter.new.out.items ≡ word_bytes 0 ++ letter_bytes c.args.letter.now = search rules in
    let counted = ap length all ∙ word_and 0 (letter_bytes c.args.letter.now) in
    omega (arith, counted, c.len-length.ensures)

pub returns-then-length-clause-too_long : goal.returns-then-length-clause-too_long
returns-then-length-clause-too_long c = λ _.
    let all : c.put_letter.new.out.items ≡ word_bytes 0 ++ letter_bytes c.args.letter.now = search rules in
    let counted = ap length all ∙ word_and 0 (letter_bytes c.args.letter.now) in
    omega (arith, counted, c.len-length.ensures, c.if-length.true)

pub set_length-requires : goal.set_length-requires
set_length-requires c =
    let all : c.put_letter.new.out.items ≡ word_bytes 0 ++ letter_bytes c.args.letter.now = search rules in
    let counted = ap length all ∙ word_and 0 (letter_bytes c.args.letter.now) in
    omega (arith, counted)

pub returns-clause-written : goal.returns-clause-written
unfolding spelling_in
returns-clause-written c =
    let said = letter_bytes c.args.letter.now in
    let all : c.put_letter.new.out.items ≡ word_bytes 0 ++ said = search rules in
    let counted = ap length all ∙ word_and 0 said in
    let count : c.len-length.result - 4 ≡ length said = omega (arith, counted, c.len-length.ensures) in
    c.set_length.ensures
    ∙ ap (λ (n : ℕ). word_bytes n ++ drop 4 c.put_letter.new.out.items) count
    ∙ ap (λ (x : List ℕ). word_bytes (length said) ++ x) (ap (drop 4) all ∙ after_word 0 said)

pub returns-clause-fits : goal.returns-clause-fits
returns-clause-fits c =
    let all : c.put_letter.new.out.items ≡ word_bytes 0 ++ letter_bytes c.args.letter.now = search rules in
    let counted = ap length all ∙ word_and 0 (letter_bytes c.args.letter.now) in
    omega (arith, counted, c.len-length.ensures, c.if-length.false)

pub returns-clause-again : goal.returns-clause-again
unfolding spelling_in
returns-clause-again c =
    let l = c.args.letter.now in
    let said = letter_bytes l in
    let all : c.put_letter.new.out.items ≡ word_bytes 0 ++ said = search rules in
    let counted = ap length all ∙ word_and 0 said in
    let count : c.len-length.result - 4 ≡ length said = omega (arith, counted, c.len-length.ensures) in
    let fits : length said ≤ longest_letter = omega (arith, counted, c.len-length.ensures, c.if-length.false) in
    let written : c.set_length.new.frame.items ≡ spelling l =
    c.set_length.ensures
    ∙ ap (λ (n : ℕ). word_bytes n ++ drop 4 c.put_letter.new.out.items) count
    ∙ ap (λ (x : List ℕ). word_bytes (length said) ++ x) (ap (drop 4) all ∙ after_word 0 said) in
    let is : is_letter l ≡ true = both (is_addressed l && is_formed l.body) _ (both (is_addressed l) (is_formed l.body) c.note_kept.ensures.addressed c.note_kept.ensures.formed) (le_passes (length said) longest_letter fits) in
    ap (letter_of l.edition) written ∙ written_again l is
