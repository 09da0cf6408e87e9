use Rattle.std.proofs.Common.{refl}
use Rattle.fact_codec.specs.Spelling.{short_bytes, word_bytes, long_bytes, fact_bytes, facts_bytes, value_bytes}
use Rattle.fact_codec.specs.Reading.{many, byte, short, word, long, exactly}
use Rattle.fact_codec.specs.Said.{text, prefix, session_said, gx_fact, facts}
use Rattle.peer_exchange.specs.Reading.{group, operation, range, body, content, letter_of}
use Rattle.peer_exchange.specs.Spelling.{group_bytes, operation_bytes, letter_bytes_in, spelling_in}
use Rattle.peer_exchange.proofs.examples.prefix_is_spelled.Goals as goal

pub returns-clause-form : goal.returns-clause-form
unfolding letter_bytes_in operation_bytes group_bytes facts_bytes fact_bytes value_bytes short_bytes word_bytes long_bytes
returns-clause-form c = refl

pub returns-clause-bytes : goal.returns-clause-bytes
unfolding spelling_in letter_bytes_in operation_bytes group_bytes facts_bytes fact_bytes value_bytes short_bytes word_bytes long_bytes
returns-clause-bytes c = λ v. refl

pub returns-clause-second : goal.returns-clause-second
unfolding letter_of content body range operation group text facts gx_fact session_said prefix many byte short word long exactly
returns-clause-second c = refl

pub returns-clause-first : goal.returns-clause-first
unfolding letter_of content body range operation group text facts gx_fact session_said prefix many byte short word long exactly
returns-clause-first c = refl
