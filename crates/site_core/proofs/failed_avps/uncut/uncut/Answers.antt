use Rattle.std.proofs.Common.{◌≡◌, ◌+◌, ◌-◌, rules, arith, sym, ◌∙◌, length, Some}
use Rattle.site_core.specs.Uncut.{after_first}
use Rattle.site_core.proofs.Steps.{cut_off}
use Rattle.site_core.proofs.failed_avps.uncut.uncut.Goals as goal

pub loop-turn-preserved : goal.loop-turn-preserved
loop-turn-preserved c =
    let some : after_first c.loop-turn.rest.now ≡ Some c.in-Some.after.now = search rules in
    sym (cut_off (length c.args.bytes.now - c.loop-turn._turn) (length c.args.bytes.now - (c.loop-turn._turn + 1)) c.loop-turn.rest.now c.in-Some.after.now (omega (arith, c.loop-turn-test.true)) some) ∙ c.loop-turn.invariant
