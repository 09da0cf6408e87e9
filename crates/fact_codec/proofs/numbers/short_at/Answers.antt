use Rattle.std.proofs.Common.{◌≡◌, Some, rules, arith}
use Rattle.fact_codec.specs.Reading.{short}
use Rattle.fact_codec.proofs.NumberLaws.{short_spelled}
use Rattle.fact_codec.proofs.numbers.short_at.Goals as goal

pub returns-clause-spelled : goal.returns-clause-spelled
unfolding short
returns-clause-spelled c =
    let n = c.from_be_bytes.result in
    let read : short c.args.bytes.now ≡ Some (n, c.split_at.result.1.now) = search rules in
    short_spelled c.args.bytes.now c.split_at.result.1.now n (λ i. omega (arith, c.type_inv.bytes i)) read
