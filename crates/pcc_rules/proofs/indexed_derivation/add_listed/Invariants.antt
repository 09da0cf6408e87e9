use Rattle.pcrf_model.specs.Sessions.{gx}
use Rattle.pcrf_model.specs.Views.{view}
use Rattle.pcc_rules.specs.Listed.{records_of}
use Rattle.bind_index.specs.Index.{Covers}
use Rattle.pcc_rules.proofs.SoFar.{SessionsSoFar}
use Rattle.pcc_rules.proofs.indexed_derivation.add_listed.Given as goal

-- the rules found go on with those of the calls that are left
abbrev pub invariant-loop-call : goal.invariant-loop-call
invariant-loop-call l = record {
  so_far : Covers (view l.state.facts) l.index → SessionsSoFar l.tables (view l.state.facts) (gx l.session) l.fn.found.items l.found.items
      (records_of l.state.facts l.call-iterator) (records_of l.state.facts l.fn.calls);
}
