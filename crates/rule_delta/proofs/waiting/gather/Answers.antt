use Rattle.pcrf_model.specs.Views.{view}
use Rattle.rule_delta.proofs.Waited.{each_enough}
use Rattle.rule_delta.proofs.waiting.gather.Goals as goal

pub returns-clause-due : goal.returns-clause-due
returns-clause-due c = λ t i h. each_enough t i (view c.args.state.now.facts) c.in_ok-gathered.gathered c.in_ok-gathered.ensures.all
