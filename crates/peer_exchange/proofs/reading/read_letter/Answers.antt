use Rattle.std.proofs.Common.{◌≡◌, ℕ, Ok, sym, ap, ◌∙◌, subst}
use Rattle.peer_exchange.specs.Reading.{Gives, letter_of}
use Rattle.peer_exchange.specs.Spelling.{spelling_in}
use Rattle.peer_exchange.proofs.LettersAgain.{letter_again}
use Rattle.peer_exchange.proofs.reading.read_letter.Goals as goal

pub returns-clause-only : goal.returns-clause-only
returns-clause-only c = λ v l h of_edition is.
    let read : letter_of c.args.edition c.args.frame.now ≡ Ok l = ap (letter_of c.args.edition) is ∙ ap (λ (n : ℕ). letter_of n (spelling_in v l)) (sym of_edition) ∙ letter_again v l h.known h.letter h.had in
    subst (λ r. Gives (λ x. x) c.read_letter_seeded.result r) read c.read_letter_seeded.ensures.read
