use Rattle.std.proofs.Common.{refl}
use Rattle.fact_codec.specs.Spelling.{short_bytes, word_bytes, long_bytes, fact_bytes, facts_bytes}
use Rattle.peer_exchange.specs.Spelling.{group_bytes, operation_bytes, letter_bytes_in, spelling_in}
use Rattle.peer_exchange.proofs.examples.abort_is_spelled.Goals as goal

pub returns-clause-form : goal.returns-clause-form
unfolding letter_bytes_in operation_bytes group_bytes facts_bytes fact_bytes short_bytes word_bytes long_bytes
returns-clause-form c = refl

pub returns-clause-bytes : goal.returns-clause-bytes
unfolding spelling_in letter_bytes_in operation_bytes group_bytes facts_bytes fact_bytes short_bytes word_bytes long_bytes
returns-clause-bytes c = refl

pub returns-clause-versions : goal.returns-clause-versions
returns-clause-versions c = refl
