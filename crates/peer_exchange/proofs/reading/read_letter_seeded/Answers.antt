use Rattle.std.proofs.Common.{◌≡◌, ℕ, ◌≤◌, ◌&&◌, true, nat_le, List, ◌∷◌, ◌++◌, length, Some, sym, ap, ◌∙◌, subst, arith, rules}
use Rattle.pcrf_values.proofs.Plain.{both, came_from, some_same}
use Rattle.pcrf_values.specs.Numbers.{number_within}
use Rattle.pcrf_model.specs.Forms.{is_within}
use Rattle.pcrf_model.proofs.FormLaws.{le_passes}
use Rattle.peer_exchange.specs.Limits.{letter_version, longest_letter}
use Rattle.peer_exchange.specs.Form.{is_addressed, is_formed}
use Rattle.std.proofs.lemmas.List.{append-nil, nil_from_length}
use Rattle.fact_codec.specs.Spelling.{word_bytes}
use Rattle.peer_exchange.specs.Spelling.{letter_bytes, letter_bytes_in, spelling_in}
use Rattle.peer_exchange.proofs.LettersAgain.{same_length}
use Rattle.peer_exchange.proofs.LettersHad.{content_had}
use Rattle.peer_exchange.proofs.reading.read_letter_seeded.Goals as goal

pub returns-clause-spelled : goal.returns-clause-spelled
unfolding spelling_in
returns-clause-spelled c =
    let letter = c.in_ok-letter.letter in
    let v = c.in-Some.version in
    let number = c.in_ok-number.number in
    let after = c.in_ok-length.counted.now in
    let made : number_within 1 letter_version number ≡ Some v = search rules in
    let k = came_from (nat_le 1 number && nat_le number letter_version) (Some number) v made in
    let is : number ≡ v = some_same number v k.1 in
    let edition : c.in_ok-found.found ≡ c.args.edition = search rules in
    let empty : length c.in_ok-letter.rest.now ≡ 0 = search rules in
    let none = nil_from_length c.in_ok-letter.rest.now empty in
    let same : after ≡ letter_bytes_in v letter =
    c.in_ok-number.ensures.spelled
    ∙ ap (λ (n : ℕ). n ∷ c.in_ok-number.rest.now) is
    ∙ ap (λ (x : List ℕ). v ∷ x) (c.in_ok-found.ensures.spelled ∙ ap (λ (n : ℕ). word_bytes n ++ c.in_ok-found.rest.now) edition)
    ∙ c.in_ok-letter.ensures.spelled
    ∙ ap (λ (x : List ℕ). letter_bytes_in v letter ++ x) none
    ∙ append-nil (letter_bytes_in v letter) in
    let counted : length after ≡ c.in_ok-length.length = search rules in
    record {
      version = v;
      known = subst (λ (n : ℕ). is_within 1 letter_version n ≡ true) is k.0;
      had = content_had v c.args.edition c.in_ok-found.rest.now (letter, c.in_ok-letter.rest.now) c.in_ok-letter.ensures.read;
      spelled =
          c.in_ok-length.ensures.spelled
          ∙ ap (λ (n : ℕ). word_bytes n ++ after) (sym counted ∙ ap length same)
          ∙ ap (λ (x : List ℕ). word_bytes (length (letter_bytes_in v letter)) ++ x) same;
    }

pub returns-clause-formed : goal.returns-clause-formed
returns-clause-formed c =
    let letter = c.in_ok-letter.letter in
    let v = c.in-Some.version in
    let number = c.in_ok-number.number in
    let after = c.in_ok-length.counted.now in
    let made : number_within 1 letter_version number ≡ Some v = search rules in
    let is : number ≡ v = some_same number v (came_from (nat_le 1 number && nat_le number letter_version) (Some number) v made).1 in
    let edition : c.in_ok-found.found ≡ c.args.edition = search rules in
    let empty : length c.in_ok-letter.rest.now ≡ 0 = search rules in
    let none = nil_from_length c.in_ok-letter.rest.now empty in
    let same : after ≡ letter_bytes_in v letter =
    c.in_ok-number.ensures.spelled
    ∙ ap (λ (n : ℕ). n ∷ c.in_ok-number.rest.now) is
    ∙ ap (λ (x : List ℕ). v ∷ x) (c.in_ok-found.ensures.spelled ∙ ap (λ (n : ℕ). word_bytes n ++ c.in_ok-found.rest.now) edition)
    ∙ c.in_ok-letter.ensures.spelled
    ∙ ap (λ (x : List ℕ). letter_bytes_in v letter ++ x) none
    ∙ append-nil (letter_bytes_in v letter) in
    let counted : length after ≡ c.in_ok-length.length = search rules in
    let long = ap length same ∙ sym (same_length v letter) in
    let fits : length (letter_bytes letter) ≤ longest_letter = omega (arith, counted, long, c.if-length-gt-MOST_BYTES.false) in
    both (is_addressed letter && is_formed letter.body) _ (both (is_addressed letter) (is_formed letter.body) c.in_ok-letter.ensures.addressed c.in_ok-letter.ensures.formed) (le_passes (length (letter_bytes letter)) longest_letter fits)
