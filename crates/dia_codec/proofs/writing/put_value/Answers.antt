use Rattle.std.proofs.Common.{rules, arith, append_assoc}
use Rattle.dia_codec.specs.Drafts.{written_head}
use Rattle.dia_codec.specs.Written.{written_avp}
use Rattle.dia_codec.proofs.writing.put_value.Goals as goal

pub returns-clause-written : goal.returns-clause-written
unfolding written_avp written_head
returns-clause-written c = search (rules, append_assoc)
