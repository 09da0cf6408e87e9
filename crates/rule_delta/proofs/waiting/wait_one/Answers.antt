use Rattle.std.proofs.Common.{[], refl}
use Rattle.pcrf_model.specs.Sessions.{gx}
use Rattle.rule_delta.proofs.Reading.{no_host, has_host}
use Rattle.rule_delta.proofs.waiting.wait_one.Goals as goal

pub returns-in_default-clause-waits : goal.returns-in_default-clause-waits
returns-in_default-clause-waits c = no_host c.args.state.now.facts (gx c.args.id.now) [] c.args.waiting.now c.in_default.ensures refl

pub returns-in_default-host-clause-waits : goal.returns-in_default-host-clause-waits
returns-in_default-host-clause-waits c = no_host c.args.state.now.facts (gx c.args.id.now) c.in-Some.known.now c.args.waiting.now c.in-Some.ensures c.in_default-host.ensures

pub returns-clause-waits : goal.returns-clause-waits
returns-clause-waits c = has_host c.args.state.now.facts c.args.id.now c.in-Some.known.now c.add.new.self _ c.in-Some-host.host.now
    c.in-Some.ensures c.in-Some-host.ensures c.add.ensures.there
