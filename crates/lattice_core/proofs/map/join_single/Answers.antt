use Rattle.std.proofs.Common.{ap, sym, ◌∙◌}
use Rattle.lattice_core.specs.Entries.{put, map_joined}
use Rattle.lattice_core.specs.laws.Maps.{joined_single}
use Rattle.lattice_core.proofs.SingleEntries.{only_entry}
use Rattle.lattice_core.proofs.map.join_single.Goals as goal

pub returns-clause-joins : goal.returns-clause-joins
returns-clause-joins g c =
    let cmp = g.K.Ord.cmp in
    let join = g.V.Join.joined in
    let single = only_entry c.args.single c.pop.new.self.items (c.in-Some.key, c.in-Some.value) c.requires (sym c.single.view_is ∙ c.in-Some.ensures.items) in
    c.in_default-join_at.ensures.joins
    ∙ ap (λ k. put cmp join c.args.map.now k c.in-Some.value) c.in-Ok.ensures
    ∙ sym (joined_single cmp join g.met.K.Ord.total g.met.K.Ranked.same g.met.V.Join.commutative g.met.V.Join.associative c.args.map.now c.in-Some.key c.in-Some.value c.note_valid.ensures.0)
    ∙ ap (λ m. map_joined cmp join c.args.map.now m) (sym single)
