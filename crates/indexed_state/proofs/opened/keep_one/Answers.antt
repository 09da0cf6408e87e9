use Rattle.std.proofs.Common.{sym, ◌∙◌}
use Rattle.indexed_state.proofs.Opening.{kept_one, not_refused}
use Rattle.indexed_state.proofs.opened.keep_one.Goals as goal

pub returns-else-is_err : goal.returns-else-is_err
returns-else-is_err c =
    kept_one c.args.lists.now c.keep.new.self c.args.id.now c.args.rules.items (not_refused c.keep.result _ c.keep.ensures.kept (sym c.is_err.ensures.value ∙ c.if-is_err.false))
