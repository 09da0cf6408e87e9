use Rattle.pcrf_model.proofs.HoldingAlike.{hold_alike}
use Rattle.pcrf_model.proofs.UnionLaws.{holding_of-Same, holding_of-append, In-holding}
use Rattle.pcrf_model.proofs.laws.only_the_set_of_operations_counts.Goals as goal

pub returns : goal.returns
returns c = record {
  same = holding_of-Same;
  union = holding_of-append;
  facts = In-holding;
  sites = hold_alike;
}
