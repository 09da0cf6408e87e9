use Rattle.std.proofs.Common.{ℕ, List, Vec, Global, ◌∷◌, sym, ◌∙◌, subst}
use Rattle.std.specs.Vec.Iter.{into_iter_items}
use Rattle.pcrf_values.specs.RuleValues.{RuleValue}
use Rattle.pcc_rules.proofs.Fresh.{KeptSoFar, one_more, all_so_far}
use Rattle.pcc_rules.proofs.renewing.keep_all.Goals as goal

pub loop-rules-preserved : goal.loop-rules-preserved
loop-rules-preserved c = λ t v made kept.
    let session = c.in-Some-split_first.session.now in
    let rest = c.in-Some-split_first.rest.now in
    one_more t v c.args.lists.now c.loop-rules.lists c.keep.new.self c.args.sessions.now session rest c.in-Some.rules (into_iter_items c.next.new.self)
    (subst (λ (ids : List (List ℕ)). KeptSoFar t v c.args.lists.now c.loop-rules.lists c.args.sessions.now ids (c.in-Some.rules ∷ into_iter_items c.next.new.self)) c.in-Some-split_first.ensures.cases.0
    (subst (λ (ls : List (Vec RuleValue Global)). KeptSoFar t v c.args.lists.now c.loop-rules.lists c.args.sessions.now c.loop-rules.left.now ls) c.in-Some.ensures.steps.0 (c.loop-rules.invariant t v made kept)))
    c.in_ok-keep.ensures.kept

pub returns-clause-all : goal.returns-clause-all
returns-clause-all c = λ t v made kept.
    all_so_far t v c.args.lists.now c.loop-rules.lists c.args.sessions.now c.loop-rules.left.now (into_iter_items c.loop-rules.rules-iterator)
    (sym c.loop-rules.rules-iterator.rest.ok.0 ∙ c.in-None.ensures.steps.0) (c.loop-rules.invariant t v made kept)
