use Rattle.std.proofs.Common.{subst}
use Rattle.pcrf_model.specs.Views.{view}
use Rattle.indexed_state.specs.Indexed.{IsUnsettled}
use Rattle.indexed_state.specs.declared.reached.Reached.{Reached}
use Rattle.indexed_state.proofs.Near.{unsettled_first, unsettled_then}
use Rattle.indexed_state.proofs.unsettling.unsettle_both.Goals as goal

pub returns-then-is_same-clause-after : goal.returns-then-is_same-clause-after
returns-then-is_same-clause-after c =
    subst (λ (r : Reached). IsUnsettled (view c.args.state.now.facts) c.args.index.now r c.args.rules.now c.unsettle_near.new.rules c.args.waiting.now c.unsettle_near.new.waiting)
    (c.is_same.ensures c.if-is_same.true) c.unsettle_near.ensures

pub returns-clause-before : goal.returns-clause-before
returns-clause-before c = unsettled_first (view c.args.state.now.facts) c.args.index.now c.args.before.now c.args.after.now c.args.rules.now c.unsettle_near.new.rules c.unsettle_near-2.new.rules
    c.args.waiting.now c.unsettle_near.new.waiting c.unsettle_near-2.new.waiting c.unsettle_near.ensures c.unsettle_near-2.ensures

pub returns-clause-after : goal.returns-clause-after
returns-clause-after c = unsettled_then (view c.args.state.now.facts) c.args.index.now c.args.before.now c.args.after.now c.args.rules.now c.unsettle_near.new.rules c.unsettle_near-2.new.rules
    c.args.waiting.now c.unsettle_near.new.waiting c.unsettle_near-2.new.waiting c.unsettle_near.ensures c.unsettle_near-2.ensures
