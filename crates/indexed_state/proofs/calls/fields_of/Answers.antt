use Rattle.std.proofs.Common.{List, ◌++◌, sym, ap, ◌∙◌}
use Rattle.std.specs.Option.{option_to_list}
use Rattle.indexed_state.specs.Fields.{af_field}
use Rattle.indexed_state.specs.declared.seen.AfField.{AfField}
use Rattle.indexed_state.proofs.Pushes.{taken_more}
use Rattle.indexed_state.proofs.calls.fields_of.Goals as goal

pub loop-fact-preserved : goal.loop-fact-preserved
loop-fact-preserved c =
    c.in_ok-add_field.ensures
    ∙ ap (λ (l : List AfField). l ++ option_to_list (af_field c.in-Some.fact)) c.loop-fact.invariant
    ∙ sym (taken_more af_field c.loop-fact.yielded c.in-Some.fact)
