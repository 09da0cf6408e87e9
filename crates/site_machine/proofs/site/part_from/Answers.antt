use Rattle.std.proofs.Common.{rules, ◌≡◌, ◌≤◌, length, drop, sym, ◌∙◌}
use Rattle.std.proofs.lemmas.List.{take_all}
use Rattle.pcrf_values.specs.Limits.{range_limit}
use Rattle.site_machine.proofs.site.part_from.Goals as goal

pub returns-then-left-le-RANGE_LIMIT : goal.returns-then-left-le-RANGE_LIMIT
returns-then-left-le-RANGE_LIMIT c =
    let back : c.split_at.result.1.now ≡ drop c.args.from c.args.log.now = search rules in
    let few : length (drop c.args.from c.args.log.now) ≤ range_limit = rw back at c.if-left-le-RANGE_LIMIT.true in
    back ∙ sym (take_all range_limit (drop c.args.from c.args.log.now) few)
