use Rattle.std.proofs.Common.{refl}
use Rattle.fact_codec.specs.Spelling.{short_bytes, word_bytes, long_bytes, value_bytes, fact_bytes, tag_bytes, held_fact_bytes, held_facts_bytes}
use Rattle.peer_exchange.specs.Spelling.{held_group_bytes, letter_bytes_in, spelling_in}
use Rattle.peer_exchange.proofs.examples.whole_state_is_spelled.Goals as goal

pub returns-clause-form : goal.returns-clause-form
unfolding letter_bytes_in held_group_bytes held_facts_bytes held_fact_bytes tag_bytes fact_bytes value_bytes short_bytes word_bytes long_bytes
returns-clause-form c = refl

pub returns-clause-bytes : goal.returns-clause-bytes
unfolding spelling_in letter_bytes_in held_group_bytes held_facts_bytes held_fact_bytes tag_bytes fact_bytes value_bytes short_bytes word_bytes long_bytes
returns-clause-bytes c = refl
