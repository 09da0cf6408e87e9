use Rattle.std.proofs.Common.{◌≡◌, ◌<◌, ◌++◌, length}
use Rattle.watched_links.specs.LostRulesLimits.{most_due}
use Rattle.watched_links.specs.Refusals.{due_of}
use Rattle.watched_links.proofs.refused.first_due.Given as goal

-- those that are due so far, and those among what is left, are all that are due; and there is room for one more
abbrev pub invariant-loop-session : goal.invariant-loop-session
invariant-loop-session l = record {
  all : l.due.items ++ due_of l.pause l.now l.session-iterator ≡ due_of l.pause l.now l.stages.entries;
  few : length l.due.items < most_due;
}
