use Rattle.std.proofs.Common.{subst}
use Rattle.dia_codec.specs.Spelling.{message_view}
use Rattle.dia_codec.specs.Reading.{Gives}
use Rattle.dia_codec.proofs.Grammar.{message_found, message_again}
use Rattle.dia_codec.proofs.reading.read_message_with.Goals as goal

pub returns-clause-found : goal.returns-clause-found
returns-clause-found c = message_found c.args.bytes.now c.message_with.result c.message_with.ensures.exact

pub returns-clause-only : goal.returns-clause-only
returns-clause-only c = λ m s. subst (λ r. Gives message_view c.message_with.result r) (message_again c.args.bytes.now m s) c.message_with.ensures.exact
