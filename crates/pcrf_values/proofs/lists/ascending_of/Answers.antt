use Rattle.std.proofs.Common.{ap, sym, ◌∙◌}
use Rattle.pcrf_values.proofs.Placing.{place_all, place_all_last, place_all_none}
use Rattle.pcrf_values.proofs.lists.ascending_of.Goals as goal

pub loop-value-init : goal.loop-value-init
loop-value-init g c =
    let cmp = g.T.Ord.cmp in
    let all = c.args.given.items in
    ap (place_all cmp all) c.in_ok-members.ensures.items ∙ place_all_none cmp all

pub loop-value-preserved : goal.loop-value-preserved
loop-value-preserved g c =
    let cmp = g.T.Ord.cmp in
    let left = c.pop.new.self.items in
    ap (place_all cmp left) c.in_ok-place_in.ensures ∙ sym (place_all_last cmp left c.in-Some.value c.loop-value.members.items) ∙ ap (λ l. place_all cmp l c.loop-value.members.items) (sym c.in-Some.ensures.items) ∙ c.loop-value.invariant
