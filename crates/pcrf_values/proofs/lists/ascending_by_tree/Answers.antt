use Rattle.std.proofs.Common.{ap, sym, ◌∙◌}
use Rattle.pcrf_values.proofs.Placing.{place_all, place_all_last, place_all_none, inserted_is_placed}
use Rattle.pcrf_values.proofs.lists.ascending_by_tree.Goals as goal

pub loop-value-init : goal.loop-value-init
loop-value-init g c =
    let cmp = g.T.Ord.cmp in
    let all = c.args.given.items in
    ap (place_all cmp all) c.new-tree.ensures.empty ∙ place_all_none cmp all

pub loop-value-preserved : goal.loop-value-preserved
loop-value-preserved g c =
    let cmp = g.T.Ord.cmp in
    let left = c.pop.new.self.items in
    let value = c.in-Some.value in
    let keys = c.loop-value.tree.keys in
    ap (place_all cmp left) (c.in_ok-insert.ensures.keys ∙ inserted_is_placed cmp value keys) ∙ sym (place_all_last cmp left value keys) ∙ ap (λ l. place_all cmp l keys) (sym c.in-Some.ensures.items) ∙ c.loop-value.invariant
