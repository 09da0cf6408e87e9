use Rattle.peer_exchange.proofs.LettersAgain.{letter_again, written_again}
use Rattle.peer_exchange.proofs.laws.spelled_letters_are_read.Goals as goal

pub returns-clause-in_versions : goal.returns-clause-in_versions
returns-clause-in_versions c = λ v l h. letter_again v l h.known h.letter h.had

pub returns-clause-in_the_last : goal.returns-clause-in_the_last
returns-clause-in_the_last c = written_again
