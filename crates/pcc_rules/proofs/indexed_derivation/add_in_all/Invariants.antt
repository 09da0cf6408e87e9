use Rattle.pcrf_model.specs.Sessions.{gx}
use Rattle.pcrf_model.specs.Views.{view}
use Rattle.pcc_rules.specs.Listed.{records_of}
use Rattle.bind_index.specs.Index.{Covers}
use Rattle.pcc_rules.proofs.SoFar.{SessionsSoFar}
use Rattle.pcc_rules.specs.Calls.{all_ids, without_address}
use Rattle.pcc_rules.proofs.indexed_derivation.add_in_all.Given as goal

-- the rules found go on with those of the calls of the networks that are left
abbrev pub invariant-loop-calls : goal.invariant-loop-calls
invariant-loop-calls l = record {
  so_far : Covers (view l.state.facts) l.index → SessionsSoFar l.tables (view l.state.facts) (gx l.session) l.fn.found.items l.found.items
      (records_of l.state.facts (without_address l.state.facts (all_ids l.calls-iterator))) (records_of l.state.facts (without_address l.state.facts (all_ids l.fn.index.call_networks)));
}
