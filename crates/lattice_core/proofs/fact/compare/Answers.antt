use Rattle.std.proofs.Common.{sym}
use Rattle.pcrf_values.specs.Facts.{position}
use Rattle.pcrf_values.proofs.FactLaws.{position_ranked}
use Rattle.lattice_core.proofs.fact.compare.Goals as goal

pub compare_entry-requires : goal.compare_entry-requires
compare_entry-requires g c = position_ranked.same (position (g.F.TypedFact.fact c.args.one.now)) (position (g.F.TypedFact.fact c.args.other.now)) (cc)
