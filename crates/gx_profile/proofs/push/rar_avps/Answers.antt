use Rattle.std.proofs.Common.{rules}
use Rattle.pcrf_model.specs.ReplyViews.{push_view}
use Rattle.gx_profile.proofs.MessageLengths.{rar_within}
use Rattle.gx_profile.proofs.push.rar_avps.Goals as goal

pub returns-clause-within : goal.returns-clause-within
returns-clause-within c = rar_within c.args.identity.now (push_view c.args.push.now) (search rules) (search rules) c.in_ok-put_opening.ensures.within c.in_ok-put_delta.ensures.within
