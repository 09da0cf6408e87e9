use Rattle.std.proofs.Common.{List, ℕ, not, ◌+◌, ◌++◌, ◌∷◌, [], take, map, filter, ap, sym, ◌∙◌, arith}
use Rattle.std.specs.List.{list_any}
use Rattle.pcrf_model.specs.Differences.{has_name, told_name_of}
use Rattle.rule_delta.proofs.Steps.{mapped_more, kept_more, left_more}
use Rattle.rule_delta.proofs.differences.removed_names.Goals as goal
use Rattle.rule_delta.proofs.differences.removed_names.Goals.{then-not-contains+in_ok-copy+in_ok-push, else-not-contains}

pub loop-name-preserved : goal.loop-name-preserved
loop-name-preserved c =
    let item = c.loop-name-item.result in
    let lacks = λ (n : List ℕ). not (list_any (has_name n) c.args.rules.now) in
    let told = c.args.told.now in
    let i = c.loop-name.name-index in
    let before = map told_name_of (take i told) in
    let after = map told_name_of (take (i + 1) told) in
    let more = mapped_more told_name_of told i item (omega arith) c.loop-name-item.is in
    let asked = sym (c.in_ok-names.ensures item.0) ∙ sym c.contains.ensures in
    elim c.if-not-contains.branch [
      | then-not-contains+in_ok-copy+in_ok-push w ↦
          ap (λ v. v.items) w.removed-is
          ∙ w.in_ok-push.ensures.items
          ∙ ap (λ l. l ++ w.in_ok-copy.copy ∷ []) c.loop-name.invariant
          ∙ ap (λ n. filter lacks before ++ n ∷ []) w.in_ok-copy.ensures
          ∙ kept_more lacks before after item.0 more (ap not (asked ∙ w.if-not-contains.true))
      | else-not-contains w ↦
          ap (λ v. v.items) w.removed-is
          ∙ c.loop-name.invariant
          ∙ left_more lacks before after item.0 more (ap not (asked ∙ w.if-not-contains.false))
    ]
