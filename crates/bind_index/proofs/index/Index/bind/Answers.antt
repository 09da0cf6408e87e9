use Rattle.std.proofs.Common.{◌∙◌}
use Rattle.bind_index.proofs.Alike.{own_record, record_decides}
use Rattle.bind_index.proofs.Bound.{unknown_is_unbound}
use Rattle.bind_index.proofs.index.Index.bind.Goals as goal

pub returns-in_default : goal.returns-in_default
returns-in_default c = λ all. unknown_is_unbound c.args.state.now.facts c.args.session.now c.in_default.ensures

pub returns : goal.returns
returns c = λ all.
    let h = c.args.state.now in
    let a = c.args.session.now in
    c.bind_by.ensures all a ∙ record_decides h c.in-Some.asking.now h.facts a (own_record h.facts c.in-Some.asking.now a c.in-Some.ensures)
