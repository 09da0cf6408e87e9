use Rattle.dia_codec.proofs.Drafts.{can_close, closes}
use Rattle.dia_base.proofs.answer.put_experimental_result.Goals as goal

pub close-requires : goal.close-requires
close-requires c = can_close c.in_ok-mark.ensures.opened c.in_ok-put_experimental.ensures

pub returns : goal.returns
returns c = closes c.in_ok-mark.ensures.opened c.in_ok-put_experimental.ensures c.close.ensures
