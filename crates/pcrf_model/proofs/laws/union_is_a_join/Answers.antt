use Rattle.pcrf_model.proofs.UnionLaws.{union_comm, union_assoc, union_twice}
use Rattle.pcrf_model.proofs.laws.union_is_a_join.Goals as goal

pub returns : goal.returns
returns c = record { commutative = union_comm; associative = union_assoc; idempotent = union_twice }
