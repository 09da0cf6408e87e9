use Rattle.gx_profile.specs.Requests.{ccr_view}
use Rattle.pcrf_model.specs.ReplyViews.{gx_reply_view}
use Rattle.gx_profile.proofs.MessageLengths.{cca_within}
use Rattle.gx_profile.proofs.answer.cca_avps.Goals as goal

pub returns-clause-within : goal.returns-clause-within
returns-clause-within c = cca_within c.args.identity.now (ccr_view c.args.ccr.now) (gx_reply_view c.args.reply.now) c.in_ok-put_opening.ensures.within c.in_ok-put_reply_delta.ensures.within
