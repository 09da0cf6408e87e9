use Rattle.std.proofs.Common.{arith}
use Rattle.pcrf_model.proofs.RangeLaws.{bytes_pass}
use Rattle.pcrf_model.proofs.ranges.note_bytes.Goals as goal

pub returns : goal.returns
returns c = bytes_pass c.args.bytes.now (λ k. omega (arith, c.type_inv.bytes k))
