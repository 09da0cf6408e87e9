use Rattle.std.proofs.Common.{◌≡◌, false, length}
use Rattle.pcrf_model.specs.Views.{view}
use Rattle.rule_delta.specs.Waits.{waiting_of}
use Rattle.rule_delta.specs.Abandoned.{AbandonedWait}
use Rattle.rule_delta.proofs.aborts.aborting.next_abort.Given as goal

-- not all wait, and all that are abandoned do
abbrev pub invariant-loop-id : goal.invariant-loop-id
invariant-loop-id l = record {
  some : l.waiting.all ≡ false;
  abandoned : AbandonedWait l.site (view l.state.facts) l.waiting;
}

-- fewer wait under the host
abbrev pub decreases-loop-id : goal.decreases-loop-id
decreases-loop-id l = length (waiting_of l.waiting l.host)
