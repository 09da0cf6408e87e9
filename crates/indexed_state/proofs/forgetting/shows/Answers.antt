use Rattle.std.proofs.Common.{sym, ap, ◌∙◌}
use Rattle.std.specs.Ordering.{is_eq}
use Rattle.pcrf_values.proofs.Plain.{some_same}
use Rattle.bind_index.specs.Index.{address_cmp}
use Rattle.bind_index.proofs.Covering.{address_itself}
use Rattle.indexed_state.proofs.forgetting.shows.Goals as goal

pub returns-in-Some : goal.returns-in-Some
returns-in-Some c = λ e.
    let same = some_same _ _ (sym c.in-Some.is ∙ e) in
    c.is_eq.ensures ∙ ap is_eq (c.cmp.ensures ∙ ap (λ x. address_cmp x c.args.address) same) ∙ address_itself c.args.address
