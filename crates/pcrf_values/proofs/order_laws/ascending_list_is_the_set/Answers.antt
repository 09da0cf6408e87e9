use Rattle.pcrf_values.specs.Ascending.{ascending}
use Rattle.pcrf_values.proofs.AscendingLaws.{ascending-In, ascending-ascending, same_ascending}
use Rattle.pcrf_values.proofs.OrderLaws.{IsRanked}
use Rattle.pcrf_values.proofs.SetLaws.{Same-back, Same-through}
use Rattle.pcrf_values.proofs.order_laws.ascending_list_is_the_set.Goals as goal

pub returns-clause-members : goal.returns-clause-members
returns-clause-members g c = ascending-In g.T.Ord.cmp (record { total = g.met.T.Ord.total; same = g.met.T.Ranked.same })

pub returns-clause-order : goal.returns-clause-order
returns-clause-order g c = ascending-ascending g.T.Ord.cmp (record { total = g.met.T.Ord.total; same = g.met.T.Ranked.same })

pub returns-clause-only : goal.returns-clause-only
returns-clause-only g c =
    let o : IsRanked g.T.Ord.cmp = record { total = g.met.T.Ord.total; same = g.met.T.Ranked.same } in
    λ xs ys s e. same_ascending g.T.Ord.cmp o ys (ascending g.T.Ord.cmp xs) s (ascending-ascending g.T.Ord.cmp o xs) (Same-through ys xs (ascending g.T.Ord.cmp xs) e (Same-back _ _ (ascending-In g.T.Ord.cmp o xs)))
