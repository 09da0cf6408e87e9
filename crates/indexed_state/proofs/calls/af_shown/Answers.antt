use Rattle.std.proofs.Common.{map, sym, ap, ◌∙◌}
use Rattle.std.specs.List.{filter_map}
use Rattle.indexed_state.specs.Fields.{field_of}
use Rattle.indexed_state.specs.Shown.{af_field_shown}
use Rattle.indexed_state.proofs.CallFields.{fields_given}
use Rattle.indexed_state.proofs.calls.af_shown.Goals as goal

pub returns : goal.returns
returns c =
    let fields =
    ap (map af_field_shown) c.in_ok-fields.ensures
    ∙ fields_given c.in_ok-facts.facts.items
    ∙ ap (filter_map field_of) (c.in_ok-facts.ensures ∙ sym c.note_valid.ensures) in
    λ i. record { fields = fields i; binding = c.in_ok-binding.ensures i; aborted = c.aborted.ensures i }
