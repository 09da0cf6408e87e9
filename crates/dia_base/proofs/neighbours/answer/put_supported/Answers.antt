use Rattle.dia_codec.proofs.Drafts.{can_close, closes}
use Rattle.dia_base.proofs.neighbours.answer.put_supported.Goals as goal

pub close-requires : goal.close-requires
close-requires c = can_close c.in_ok-mark.ensures.opened c.in_ok-put_application.ensures

pub returns : goal.returns
returns c = closes c.in_ok-mark.ensures.opened c.in_ok-put_application.ensures c.close.ensures
