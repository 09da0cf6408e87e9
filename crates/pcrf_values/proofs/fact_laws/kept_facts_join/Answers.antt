use Rattle.pcrf_values.proofs.JoinedLaws.{joined_comm, joined_assoc, joined_idem, joined-held, held_twice}
use Rattle.pcrf_values.proofs.fact_laws.kept_facts_join.Goals as goal

pub returns : goal.returns
returns c = record { commutative = joined_comm; associative = joined_assoc; idempotent = joined_idem; held_first = joined-held; held_once = held_twice }
