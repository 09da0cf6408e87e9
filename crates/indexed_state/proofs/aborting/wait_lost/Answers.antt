use Rattle.std.proofs.Common.{sym, ap, ◌∙◌, subst}
use Rattle.pcrf_values.proofs.Plain.{none_some, some_same}
use Rattle.pcrf_model.specs.Views.{view}
use Rattle.pcrf_values.specs.Prefixes.{Ipv6Prefix}
use Rattle.bind_index.specs.Networks.{network_of}
use Rattle.rule_delta.proofs.Waited.{keeps_through}
use Rattle.rule_delta.specs.Abandoned.{NetworkCallsWait}
use Rattle.indexed_state.proofs.Near.{calls_on}
use Rattle.indexed_state.proofs.aborting.wait_lost.Goals as goal

pub returns-in_default-clause-near_by : goal.returns-in_default-clause-near_by
returns-in_default-clause-near_by c = λ p e. none_some p (sym c.in_default.is ∙ e)

pub returns-clause-keeps : goal.returns-clause-keeps
returns-clause-keeps c = keeps_through c.args.aborts.now c.wait_at.new.waiting c.wait_in.new.waiting c.wait_at.ensures.keeps c.wait_in.ensures.keeps

pub returns-clause-near : goal.returns-clause-near
returns-clause-near c = calls_on (view c.args.state.now.facts) c.args.index.now c.wait_at.new.waiting c.wait_in.new.waiting c.args.before.now.address c.wait_in.ensures.keeps c.wait_at.ensures.waits

pub returns-clause-near_by : goal.returns-clause-near_by
returns-clause-near_by c = λ p e.
    subst (λ (n : Ipv6Prefix). NetworkCallsWait (view c.args.state.now.facts) c.args.index.now c.wait_in.new.waiting n)
    (c.network_of.ensures ∙ ap network_of (some_same c.in-Some.prefix p (sym c.in-Some.is ∙ e))) c.wait_in.ensures.waits
