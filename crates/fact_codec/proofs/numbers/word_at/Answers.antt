use Rattle.std.proofs.Common.{◌≡◌, Some, rules, arith}
use Rattle.fact_codec.specs.Reading.{word}
use Rattle.fact_codec.proofs.NumberLaws.{word_spelled}
use Rattle.fact_codec.proofs.numbers.word_at.Goals as goal

pub returns-clause-spelled : goal.returns-clause-spelled
unfolding word
returns-clause-spelled c =
    let n = c.from_be_bytes-number.result in
    let read : word c.args.bytes.now ≡ Some (n, c.split_at.result.1.now) = search rules in
    word_spelled c.args.bytes.now c.split_at.result.1.now n (λ i. omega (arith, c.type_inv.bytes i)) read
