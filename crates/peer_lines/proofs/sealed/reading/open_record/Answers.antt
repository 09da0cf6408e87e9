use Rattle.std.proofs.Common.{◌≡◌, ℕ, ◌+◌, ◌-◌, ◌*◌, List, Bool, length, take, drop, refl, true, false, sym, ap, ◌∙◌, rules, arith}
use Rattle.peer_lines.proofs.Unsealing.{cut_out, spent}
use Rattle.peer_lines.proofs.sealed.reading.open_record.Goals as goal

pub returns-then-not-has_room-clause-wrong : goal.returns-then-not-has_room-clause-wrong
returns-then-not-has_room-clause-wrong c =
    λ other. spent c.args.course.now c.args.begun.now.items (sym c.has_room.ensures ∙ c.if-not-has_room.true)

pub returns-then-not-are_same-clause-wrong : goal.returns-then-not-are_same-clause-wrong
returns-then-not-are_same-clause-wrong c =
    let bytes = c.args.begun.now.items in let seen = c.as_slice-bytes.ensures.value in
    let len : c.len-end.result ≡ length bytes = c.len-end.ensures ∙ sym c.as_slice-bytes.ensures.len ∙ ap length seen in
    let width : length bytes - (c.len-end.result - 32) ≡ length bytes - (c.len-end.result - 32) = refl in
    λ other. cut_out c.args.course.now bytes c.code-code.result (c.len-end.result - 32) _ (c.len-end.result - 32 - 2) false c.requires.whole
    (ap (λ (n : ℕ). n - 32) len) width refl c.requires.length (sym c.has_room.ensures ∙ c.if-not-has_room.false)
    (rw seen at c.code-code.ensures) (sym c.if-not-are_same.true ∙ (rw seen at c.are_same.ensures))

pub returns-clause-right : goal.returns-clause-right
returns-clause-right c =
    let bytes = c.args.begun.now.items in let seen = c.as_slice-bytes.ensures.value in
    let len : c.len-end.result ≡ length bytes = c.len-end.ensures ∙ sym c.as_slice-bytes.ensures.len ∙ ap length seen in
    let width : length bytes - (c.len-end.result - 32) ≡ length bytes - (c.len-end.result - 32) = refl in
    cut_out c.args.course.now bytes c.code-code.result (c.len-end.result - 32) _ (c.len-end.result - 32 - 2) true c.requires.whole
    (ap (λ (n : ℕ). n - 32) len) width refl c.requires.length (sym c.has_room.ensures ∙ c.if-not-has_room.false)
    (rw seen at c.code-code.ensures) (sym c.if-not-are_same.false ∙ (rw seen at c.are_same.ensures))
