use Rattle.dia_codec.proofs.Drafts.{adds}
use Rattle.dia_base.proofs.answer.put_experimental.Goals as goal

pub returns : goal.returns
returns c = adds c.in_ok-number.ensures.added c.in_ok-number-2.ensures.added
