use Rattle.std.proofs.Common.{◌≡◌, false, length}
use Rattle.pcrf_model.specs.Views.{view}
use Rattle.pcc_rules.specs.Cached.{AreCached}
use Rattle.rule_delta.specs.Waits.{DueWait, waiting_of}
use Rattle.rule_delta.proofs.waiting_pushing.next_waiting.Given as goal

-- lists are kept as they were, not all wait, and all that are due do
abbrev pub invariant-loop-id : goal.invariant-loop-id
invariant-loop-id l = record {
  kept : AreCached l.tables (view l.state.facts) l.lists;
  some : l.waiting.all ≡ false;
  due : DueWait l.tables l.site (view l.state.facts) l.waiting;
}

-- fewer wait under the host
abbrev pub decreases-loop-id : goal.decreases-loop-id
decreases-loop-id l = length (waiting_of l.waiting l.host)
