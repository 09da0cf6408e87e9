use Rattle.std.proofs.Common.{subst}
use Rattle.rule_delta.specs.Waits.{WaitingValue, Keeps}
use Rattle.rule_delta.proofs.Reading.{added_keeps, added_waits}
use Rattle.rule_delta.proofs.aborts.waiting.WaitingCalls.add.Goals as goal

pub returns-in_default-clause-keeps : goal.returns-in_default-clause-keeps
returns-in_default-clause-keeps c =
    let u : WaitingValue = record { all = c.self.inside.all; lists = c.self.inside.lists } in
    subst (λ (m : WaitingValue). Keeps m (record u { lists = c.add.new.self })) c.self.view_is
    (added_keeps u c.add.new.self c.args.host.now c.args.id.now c.in_default.ensures.added)

pub returns-in_default-clause-there : goal.returns-in_default-clause-there
returns-in_default-clause-there c =
    let u : WaitingValue = record { all = c.self.inside.all; lists = c.self.inside.lists } in
    added_waits u c.add.new.self c.args.host.now c.args.id.now c.in_default.ensures.added
