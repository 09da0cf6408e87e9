use Rattle.std.proofs.Common.{◌≡◌, ap, ◌∙◌, arith, rules}
use Rattle.std.proofs.lemmas.List.{take_all}
use Rattle.pcrf_values.specs.Texts.{small_letters}
use Rattle.pcrf_values.proofs.Folded.{folded_keeps}
use Rattle.pcrf_values.proofs.text.Apn.folded.Goals as goal

pub invariant_of-result : goal.invariant_of-result
invariant_of-result c =
    let letters : c.in_ok-text.text ≡ small_letters c.args.bytes.now = c.in_ok-text.ensures ∙ c.loop-byte.invariant ∙ ap small_letters (take_all _ _ c.loop-byte-test.false) in
    folded_keeps c.args.bytes.now c.in_ok-text.text letters (search rules) (omega arith)
