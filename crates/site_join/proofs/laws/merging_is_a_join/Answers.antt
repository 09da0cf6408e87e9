use Rattle.pcrf_model.specs.Holdings.{union}
use Rattle.pcrf_model.proofs.UnionLaws.{kept_of-union, kept_of_twice}
use Rattle.site_join.proofs.MergeLaws.{merged_comm, merged_assoc, merged_idem}
use Rattle.site_join.proofs.laws.merging_is_a_join.Goals as goal

pub returns-clause-commutative : goal.returns-clause-commutative
returns-clause-commutative c = merged_comm

pub returns-clause-associative : goal.returns-clause-associative
returns-clause-associative c = merged_assoc

pub returns-clause-idempotent : goal.returns-clause-idempotent
returns-clause-idempotent c = merged_idem

pub returns-clause-keeps : goal.returns-clause-keeps
returns-clause-keeps c = λ h k. kept_of_twice (union h k)

pub returns-clause-keeping : goal.returns-clause-keeping
returns-clause-keeping c = kept_of-union
