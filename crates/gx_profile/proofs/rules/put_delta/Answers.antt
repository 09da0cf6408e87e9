use Rattle.gx_profile.proofs.RuleLengths.{delta_within}
use Rattle.gx_profile.proofs.rules.put_delta.Goals as goal

pub returns-clause-within : goal.returns-clause-within
returns-clause-within c =
    delta_within c.args.form c.args.delta.now c.removed.ensures.within
    (rw c.removed.ensures.names at c.in_ok-put_removed.ensures.within)
    (rw c.installed.ensures.rules at c.in_ok-put_installed.ensures.within)
