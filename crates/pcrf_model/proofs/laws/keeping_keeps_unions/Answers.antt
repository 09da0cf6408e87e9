use Rattle.pcrf_model.proofs.HoldingLaws.{kept_facts-append, facts_on-kept}
use Rattle.pcrf_model.proofs.UnionLaws.{kept_of-union, kept_of_twice}
use Rattle.pcrf_model.proofs.laws.keeping_keeps_unions.Goals as goal

pub returns : goal.returns
returns c = record { facts = kept_facts-append; holdings = kept_of-union; sessions = facts_on-kept; once = kept_of_twice }
