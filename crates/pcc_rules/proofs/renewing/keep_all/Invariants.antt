use Rattle.std.specs.Vec.Iter.{into_iter_items}
use Rattle.pcrf_model.specs.Tables.{Tables}
use Rattle.pcrf_model.specs.Views.{View}
use Rattle.pcc_rules.specs.Cached.{AreCached}
use Rattle.pcc_rules.specs.Many.{AreRulesOf}
use Rattle.pcc_rules.proofs.Fresh.{KeptSoFar}
use Rattle.pcc_rules.proofs.renewing.keep_all.Given as goal

-- those so far are kept
abbrev pub invariant-loop-rules : goal.invariant-loop-rules
invariant-loop-rules l = (t : Tables) (v : View) → AreRulesOf t v l.fn.sessions l.fn.made.items → AreCached t v l.fn.lists
    → KeptSoFar t v l.fn.lists l.lists l.fn.sessions l.left (into_iter_items l.rules-iterator)
