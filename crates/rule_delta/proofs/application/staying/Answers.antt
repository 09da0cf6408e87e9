use Rattle.std.proofs.Common.{◌≡◌, true, false, List, ℕ, not, ◌&&◌, ◌+◌, ◌++◌, ◌∷◌, [], take, filter, ap, sym, ◌∙◌, arith}
use Rattle.std.specs.List.{list_any}
use Rattle.std.specs.Ordering.{is_eq}
use Rattle.pcrf_values.specs.Orders.{text_cmp}
use Rattle.pcrf_values.specs.RuleValues.{RuleValue}
use Rattle.pcrf_model.specs.Differences.{has_name, stays}
use Rattle.rule_delta.proofs.Steps.{taken_more, kept_more, left_more}
use Rattle.rule_delta.proofs.application.staying.Goals as goal
use Rattle.rule_delta.proofs.application.staying.Goals.{then-not-contains+then-not-contains-2+in_ok-copy+in_ok-push, else-not-contains, else-not-contains-via-then-not-contains+else-not-contains-2, else-not-contains-via-else-not-contains}

pub loop-pair-preserved : goal.loop-pair-preserved
loop-pair-preserved c =
    let pair = c.pair-item.result in
    let d = c.args.delta.now in
    let told = c.args.told.now in
    let i = c.loop-pair.pair-index in
    let more = taken_more told i pair (omega arith) c.pair-item.is in
    let removed =
    ap (λ (l : List (List ℕ)). list_any (λ n. is_eq (text_cmp n pair.0)) l) (sym c.removed.ensures)
    ∙ sym (c.in_ok-removed.ensures pair.0)
    ∙ sym c.contains.ensures in
    let installed =
    ap (λ (l : List RuleValue). list_any (has_name pair.0) l) (sym c.installed.ensures)
    ∙ sym (c.in_ok-installed.ensures pair.0) in
    elim c.if-not-contains.branch [
      | then-not-contains+then-not-contains-2+in_ok-copy+in_ok-push w ↦
          let neither : stays d pair ≡ true = λ j. not ((removed ∙ w.if-not-contains.true) j) && not ((installed ∙ sym w.contains-then-not-contains.ensures ∙ w.if-not-contains-2.true) j) in
          ap (λ v. v.items) w.kept-is
          ∙ w.in_ok-push.ensures.items
          ∙ ap (λ l. l ++ w.in_ok-copy.copy ∷ []) c.loop-pair.invariant
          ∙ ap (λ p. filter (stays d) (take i told) ++ p ∷ []) w.in_ok-copy.ensures
          ∙ kept_more (stays d) (take i told) (take (i + 1) told) pair more neither
      | else-not-contains w ↦
          let gone : stays d pair ≡ false = elim w.else-not-contains.branch [
            | else-not-contains-via-then-not-contains+else-not-contains-2 v ↦
                λ j. not ((removed ∙ v.if-not-contains.true) j) && not ((installed ∙ sym v.contains-then-not-contains.ensures ∙ v.if-not-contains-2.false) j)
            | else-not-contains-via-else-not-contains v ↦
                ap (λ b. not b && not (list_any (has_name pair.0) d.installed)) (removed ∙ v.if-not-contains.false)
          ] in
          ap (λ v. v.items) w.kept-is ∙ c.loop-pair.invariant ∙ left_more (stays d) (take i told) (take (i + 1) told) pair more gone
    ]
