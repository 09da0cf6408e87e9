use Rattle.pcrf_model.specs.Views.{view}
use Rattle.indexed_state.proofs.Near.{near_unsettled}
use Rattle.indexed_state.proofs.unsettling.unsettle_near.Goals as goal

pub returns : goal.returns
returns c = near_unsettled (view c.args.state.now.facts) c.args.index.now c.args.reached.now c.args.rules.now c.touch_at.new.rules c.touch_by.new.rules c.args.waiting.now c.wait_at.new.waiting c.wait_by.new.waiting
    c.touch_at.ensures c.touch_by.ensures c.wait_at.ensures.keeps c.wait_at.ensures.waits c.wait_by.ensures.keeps c.wait_by.ensures.waits
