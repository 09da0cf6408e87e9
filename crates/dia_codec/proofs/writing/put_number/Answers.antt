use Rattle.std.proofs.Common.{rules, arith, append_assoc}
use Rattle.dia_codec.specs.Written.{word_bytes}
use Rattle.dia_codec.proofs.Drafts.{number_plain, number_of_vendor}
use Rattle.dia_codec.proofs.writing.put_number.Goals as goal

pub returns-in_ok-extend_from_slice-in-None-clause-written : goal.returns-in_ok-extend_from_slice-in-None-clause-written
unfolding word_bytes
returns-in_ok-extend_from_slice-in-None-clause-written c = rw (number_plain c.args.key c.args.mandatory c.args.number c.in-None.is) (search rules)

pub returns-in_ok-extend_from_slice-in-Some-clause-written : goal.returns-in_ok-extend_from_slice-in-Some-clause-written
unfolding word_bytes
returns-in_ok-extend_from_slice-in-Some-clause-written c = rw (number_of_vendor c.args.key c.args.mandatory c.args.number c.in-Some.vendor c.in-Some.is) (search rules)
