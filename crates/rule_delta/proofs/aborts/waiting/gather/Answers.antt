use Rattle.pcrf_model.specs.Views.{view}
use Rattle.rule_delta.proofs.Followed.{each_enough}
use Rattle.rule_delta.proofs.aborts.waiting.gather.Goals as goal

pub returns-clause-abandoned : goal.returns-clause-abandoned
returns-clause-abandoned c = λ i h. each_enough i (view c.args.state.now.facts) c.in_ok-gathered.gathered c.in_ok-gathered.ensures.all
