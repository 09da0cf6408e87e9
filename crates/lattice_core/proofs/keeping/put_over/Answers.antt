use Rattle.lattice_core.proofs.KeepLaws.{put_over_mapped}
use Rattle.lattice_core.proofs.keeping.put_over.Goals as goal

pub returns-clause-joins : goal.returns-clause-joins
returns-clause-joins g c =
    put_over_mapped g.F.TypedFact.fact c.args.kept.now.items c.take_last.new.self.items c.push_reserved.new.self.items c.take_last.result c.args.fact
    c.take_last.ensures.items c.push_reserved.ensures.items c.requires.held c.requires.above c.requires.last
