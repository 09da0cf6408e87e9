use Rattle.std.proofs.Common.{map}
use Rattle.indexed_state.specs.Shown.{gx_pair, af_pair}
use Rattle.indexed_state.proofs.SeenLaws.{all_seen}
use Rattle.indexed_state.proofs.whole_view.value.Goals as goal

pub returns : goal.returns
returns c =
    let gxs = map gx_pair c.in_ok-gx.gx.items in
    let afs = map af_pair c.in_ok-af.af.items in
    all_seen c.args.tables.now c.args.state.now c.all_gx.result c.all_af.result
    (record { ascending = c.all_gx.ensures.ascending; reads = c.all_gx.ensures.facts })
    (record { ascending = c.all_af.ensures.ascending; reads = c.all_af.ensures.facts })
    gxs afs c.in_ok-gx.ensures c.in_ok-af.ensures _ (λ i. record { clock = c.clock.ensures.clock i; gx = gxs; af = afs })
