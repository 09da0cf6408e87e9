use Rattle.std.proofs.Common.{◌∙◌}
use Rattle.bind_index.proofs.Alike.{own_record, record_decides}
use Rattle.bind_index.proofs.Bound.{unknown_is_unbound}
use Rattle.bind_index.proofs.binding.bind.Goals as goal

pub returns-in_default : goal.returns-in_default
returns-in_default c = unknown_is_unbound c.args.state.now.facts c.args.session.now c.in_default.ensures

pub returns : goal.returns
returns c =
    let h = c.args.state.now in
    let a = c.args.session.now in
    c.bind_by.ensures a ∙ record_decides h c.in-Some.asking.now h.facts a (own_record h.facts c.in-Some.asking.now a c.in-Some.ensures)
