use Rattle.std.proofs.Common.{rules, ap, ◌∙◌, add-one}
use Rattle.pcrf_values.specs.Ascending.{place}
use Rattle.pcrf_values.proofs.Placing.{passes_more, placed_before, placed_there, placed_last}
use Rattle.pcrf_values.proofs.lists.place_in.Goals as goal

pub returns-in-Less : goal.returns-in-Less
returns-in-Less g c =
    let cmp = g.T.Ord.cmp in
    let made = placed_before cmp c.args.value c.loop-at.at c.loop-at.members.items c.index.result.now (search rules) (search rules) (search rules) c.loop-at.invariant.1 in
    search rules

pub returns-in-Equal : goal.returns-in-Equal
returns-in-Equal g c =
    let cmp = g.T.Ord.cmp in
    placed_there cmp c.args.value c.loop-at.at c.loop-at.members.items c.index.result.now (search rules) (search rules) (search rules) c.loop-at.invariant.1 ∙ ap (place cmp c.args.value) c.loop-at.invariant.0

pub loop-at-preserved : goal.loop-at-preserved
loop-at-preserved g c =
    let cmp = g.T.Ord.cmp in
    (c.loop-at.invariant.0, rw add-one (passes_more cmp c.args.value c.loop-at.at c.loop-at.members.items c.index.result.now (search rules) (search rules) (search rules) c.loop-at.invariant.1))

pub returns : goal.returns
returns g c =
    let cmp = g.T.Ord.cmp in
    let made = placed_last cmp c.args.value c.loop-at.at c.loop-at.members.items (search rules) c.loop-at.invariant.1 in
    search rules
