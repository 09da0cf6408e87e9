use Rattle.std.proofs.Common.{rules, arith, append_assoc}
use Rattle.dia_codec.specs.Drafts.{written_head}
use Rattle.dia_codec.specs.Written.{word_bytes, three_bytes}
use Rattle.dia_codec.proofs.Drafts.{head_of_vendor}
use Rattle.dia_codec.proofs.writing.put_head.Goals as goal

pub returns-in_ok-extend_from_slice-in-Some-clause-written : goal.returns-in_ok-extend_from_slice-in-Some-clause-written
unfolding word_bytes three_bytes
returns-in_ok-extend_from_slice-in-Some-clause-written c = rw (head_of_vendor c.args.key c.args.mandatory c.args.size c.in-Some.vendor c.in-Some.is) (search rules)
