use Rattle.pcrf_model.specs.Views.{view}
use Rattle.rule_delta.proofs.AbortListed.{all_listed}
use Rattle.rule_delta.proofs.aborts.waiting.wait_at.Goals as goal

pub returns-clause-waits : goal.returns-clause-waits
returns-clause-waits c =
    all_listed (view c.args.state.now.facts) c.args.index.now c.wait_each.new.waiting c.args.address c.in-Some.address c.in-Some-calls_at.ids.now
    c.in-Some.is c.in-Some-calls_at.ensures c.wait_each.ensures.waits
