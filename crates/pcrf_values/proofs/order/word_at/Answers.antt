use Rattle.std.proofs.Common.{arith}
use Rattle.pcrf_values.proofs.Words.{word_fits}
use Rattle.pcrf_values.proofs.order.word_at.Goals as goal

pub returns-clause-bytes : goal.returns-clause-bytes
returns-clause-bytes c = word_fits c.args.at c.args.bytes.now (λ i. omega (arith, c.type_inv.bytes i))
