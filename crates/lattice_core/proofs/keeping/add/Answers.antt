use Rattle.std.proofs.Common.{◌≡◌, true, false, map}
use Rattle.std.specs.List.{list_any}
use Rattle.pcrf_values.specs.Facts.{position}
use Rattle.lattice_core.specs.Beneath.{beneath_of, removes}
use Rattle.lattice_core.specs.Orders.{last_at}
use Rattle.lattice_core.proofs.KeepLaws.{put_last_mapped, put_gone}
use Rattle.lattice_core.proofs.keeping.add.Goals as goal

pub returns-then-is_removed-clause-joins : goal.returns-then-is_removed-clause-joins
returns-then-is_removed-clause-joins g c =
    let fact = g.F.TypedFact.fact in
    let off : last_at (position (fact c.args.fact)) (map fact c.args.kept.now.items) ≡ false = cc in
    let gone : list_any (removes (beneath_of (fact c.args.fact))) (map fact c.args.kept.now.items) ≡ true = cc in
    put_gone (map fact c.args.kept.now.items) (fact c.args.fact) c.requires.held c.requires.above off gone

pub returns-clause-joins : goal.returns-clause-joins
returns-clause-joins g c =
    let fact = g.F.TypedFact.fact in
    let off : last_at (position (fact c.args.fact)) (map fact c.args.kept.now.items) ≡ false = cc in
    let stays : list_any (removes (beneath_of (fact c.args.fact))) (map fact c.args.kept.now.items) ≡ false = cc in
    put_last_mapped fact c.args.kept.now.items c.push_reserved.new.self.items c.args.fact c.push_reserved.ensures.items c.requires.held c.requires.above off stays
