use Rattle.std.proofs.Common.{ap, ◌++◌, ◌∙◌}
use Rattle.op_tables.proofs.Ascending.{one_more}
use Rattle.op_tables.proofs.copies.copy_of.Goals as goal

pub loop-key-preserved-in_ok-insert : goal.loop-key-preserved-in_ok-insert
loop-key-preserved-in_ok-insert g c =
    let done = c.loop-key.copy.entries in
    one_more g.met.K.Ord.total c.args.map.now.entries done c.insert.new.self.entries c.in-Some.key.now c.in_ok-key.key c.in-Some.value.now c.in_ok-value.value c.next.new.self
    c.iter-key-items.ensures.ordered (c.loop-key.invariant ∙ ap (λ es. done ++ es) c.in-Some.ensures.steps) c.in_ok-key.ensures c.in_ok-value.ensures c.in_ok-insert.ensures.entries

pub loop-key-preserved : goal.loop-key-preserved
loop-key-preserved g c =
    let done = c.loop-key.copy.entries in
    one_more g.met.K.Ord.total c.args.map.now.entries done c.insert.new.self.entries c.in-Some.key.now c.in_ok-key.key c.in-Some.value.now c.in_ok-value.value c.next.new.self
    c.iter-key-items.ensures.ordered (c.loop-key.invariant ∙ ap (λ es. done ++ es) c.in-Some.ensures.steps) c.in_ok-key.ensures c.in_ok-value.ensures c.in_ok-insert.ensures.entries
