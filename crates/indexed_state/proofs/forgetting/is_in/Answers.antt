use Rattle.std.proofs.Common.{sym, ap, ◌∙◌}
use Rattle.std.specs.Ordering.{is_eq}
use Rattle.pcrf_values.proofs.Plain.{some_same}
use Rattle.pcrf_values.specs.Prefixes.{prefix_cmp}
use Rattle.bind_index.specs.Networks.{network_of}
use Rattle.bind_index.proofs.Covering.{network_itself}
use Rattle.indexed_state.proofs.forgetting.is_in.Goals as goal

pub returns-in-Some : goal.returns-in-Some
returns-in-Some c = λ p e f.
    let same = some_same _ _ (sym c.in-Some.is ∙ e) in
    c.is_eq.ensures ∙ ap is_eq (c.cmp.ensures ∙ ap (λ n. prefix_cmp n c.args.network.now) (c.network_of.ensures ∙ ap network_of same ∙ f)) ∙ network_itself c.args.network.now
