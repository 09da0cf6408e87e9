use Rattle.dia_codec.proofs.Drafts.{adds}
use Rattle.dia_base.proofs.answer.put_refused.Goals as goal

pub returns : goal.returns
returns c = adds (adds c.in_ok-put_application.ensures c.in_ok-put_origin.ensures.written) c.in_ok-put_result.ensures.written
