use Rattle.std.proofs.Common.{subst}
use Rattle.pcrf_model.specs.Sessions.{gx}
use Rattle.pcrf_model.specs.Views.{view}
use Rattle.pcc_rules.specs.Listed.{records_of}
use Rattle.pcc_rules.proofs.SoFar.{SessionsSoFar}
use Rattle.bind_index.specs.Index.{ByNetwork}
use Rattle.pcc_rules.specs.Calls.{all_ids, without_address}
use Rattle.pcc_rules.proofs.ByIndex.{network_added}
use Rattle.pcc_rules.proofs.indexed_derivation.add_in_all.Goals as goal

pub loop-calls-preserved : goal.loop-calls-preserved
loop-calls-preserved c =
    let facts = c.args.state.now.facts in
    let t = c.args.tables.now in
    let s = gx c.args.session.now in
    record {
      so_far = λ all. network_added t facts s c.args.found.now.items c.loop-calls.found.items c.add_unaddressed.new.found.items
          c.in-Some.calls.now (all_ids c.next.new.self) (without_address facts (all_ids c.args.index.now.call_networks)) (c.in_ok-add_unaddressed.ensures all)
          (subst (λ (es : ByNetwork). SessionsSoFar t (view facts) s c.args.found.now.items c.loop-calls.found.items
          (records_of facts (without_address facts (all_ids es))) (records_of facts (without_address facts (all_ids c.args.index.now.call_networks))))
          c.in-Some.ensures.steps (c.loop-calls.invariant.so_far all));
    }
