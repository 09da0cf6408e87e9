use Rattle.std.proofs.Common.{◌≡◌, List}
use Rattle.std.specs.Option.{option_copied}
use Rattle.pcrf_model.specs.Holdings.{SessionFact, facts_on}
use Rattle.pcrf_model.specs.Sessions.{gx}
use Rattle.pcrf_model.specs.Views.{view}
use Rattle.bind_index.specs.Index.{Covers}
use Rattle.site_join.specs.States.{record_facts}
use Rattle.indexed_state.proofs.forgetting.forget_given_gateway.Given as goal

-- what was covered still is
abbrev pub invariant-loop-fact : goal.invariant-loop-fact
invariant-loop-fact l = (facts : List SessionFact) → record_facts (option_copied l.known) ≡ facts_on facts (gx l.id) → Covers (view facts) l.fn.index → Covers (view facts) l.index
