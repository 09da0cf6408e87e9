use Rattle.std.proofs.Common.{◌+◌, ◌-◌, arith, sym, ◌∙◌}
use Rattle.pcrf_values.proofs.Words.{front_of, differing, alike, ended}
use Rattle.pcrf_values.proofs.order.compare_bytes.Goals as goal

pub returns-then-ours-theirs : goal.returns-then-ours-theirs
returns-then-ours-theirs c =
    let ours = c.word_at-ours.ensures in
    let theirs = c.word_at-theirs.ensures in
    c.cmp-then-ours-theirs.ensures ∙ differing c.loop-at.at c.args.left.now c.args.right.now ours.bytes theirs.bytes (omega arith) (omega arith) c.loop-at.invariant.0 _ _ ours.spelt theirs.spelt c.if-ours-theirs.true

pub loop-at-preserved : goal.loop-at-preserved
loop-at-preserved c =
    let ours = c.word_at-ours.ensures in
    let theirs = c.word_at-theirs.ensures in
    (alike c.loop-at.at c.args.left.now c.args.right.now ours.bytes theirs.bytes (omega arith) (omega arith) c.loop-at.invariant.0 _ _ ours.spelt theirs.spelt c.if-ours-theirs.false, omega arith)

pub returns-then-ours-theirs-2 : goal.returns-then-ours-theirs-2
returns-then-ours-theirs-2 c =
    let ours = c.word_at-ours-2.ensures in
    let theirs = c.word_at-theirs-2.ensures in
    let last = c.min-both.result - 8 in
    let same = front_of last c.loop-at.at c.args.left.now c.args.right.now (omega arith) c.loop-at.invariant.0 in
    c.cmp-then-ours-theirs-2.ensures ∙ differing last c.args.left.now c.args.right.now ours.bytes theirs.bytes (omega arith) (omega arith) same _ _ ours.spelt theirs.spelt c.if-ours-theirs-2.true

pub returns : goal.returns
returns c =
    let ours = c.word_at-ours-2.ensures in
    let theirs = c.word_at-theirs-2.ensures in
    let last = c.min-both.result - 8 in
    let same = front_of last c.loop-at.at c.args.left.now c.args.right.now (omega arith) c.loop-at.invariant.0 in
    let past = alike last c.args.left.now c.args.right.now ours.bytes theirs.bytes (omega arith) (omega arith) same _ _ ours.spelt theirs.spelt c.if-ours-theirs-2.false in
    c.cmp-2.ensures ∙ sym (ended (last + 8) c.args.left.now c.args.right.now (omega arith) past)
