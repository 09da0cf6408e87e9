use Rattle.std.proofs.Common.{ℕ, List, Some, sym, ap, ◌∙◌}
use Rattle.pcrf_model.specs.Sessions.{gx}
use Rattle.pcrf_model.specs.Views.{view}
use Rattle.pcrf_model.specs.ReplyViews.{push_view}
use Rattle.rule_delta.specs.Due.{push_if_due}
use Rattle.rule_delta.proofs.PassingPushes.{passed, failed, its_push, no_push}
use Rattle.rule_delta.proofs.FirstDue.{none_due, stays, is_first, fewer, goes, put_back}
use Rattle.rule_delta.proofs.waiting_pushing.next_waiting.Goals as goal

pub returns-in_default-push_by-clause-due : goal.returns-in_default-push_by-clause-due
returns-in_default-push_by-clause-due c =
    put_back c.args.tables.now c.args.site c.args.state.now.facts c.args.host.now c.loop-id.waiting c.take_first.new.self
    c.take_first.ensures.rest c.in-Some.id c.in-Some.ensures.first c.take_first.ensures.all c.add.new.self c.loop-id.invariant.due c.add.ensures.keeps c.add.ensures.there

pub returns-then-is_some-clause-push : goal.returns-then-is_some-clause-push
returns-then-is_some-clause-push c =
    let t = c.args.tables.now in
    let i = c.args.site in
    let facts = c.args.state.now.facts in
    let its = c.in-Ok.ensures.push ∙ ap (λ (n : List ℕ). push_if_due t i (view facts) (Some n) (gx c.in-Some.id)) c.as_slice.ensures.items in
    let due = passed push_view c.in-Ok.push _ _ its (sym c.is_some.ensures ∙ c.if-is_some.true) in
    its_push t i (view facts) (Some c.args.host.now) (gx c.in-Some.id) _ its due
    (is_first t i facts c.args.host.now c.loop-id.waiting c.take_first.new.self c.take_first.ensures.rest c.in-Some.id c.in-Some.ensures.first
    c.loop-id.invariant.some c.loop-id.invariant.due c.take_first.ensures.rises due)

pub returns-then-is_some-clause-due : goal.returns-then-is_some-clause-due
returns-then-is_some-clause-due c =
    put_back c.args.tables.now c.args.site c.args.state.now.facts c.args.host.now c.loop-id.waiting c.take_first.new.self
    c.take_first.ensures.rest c.in-Some.id c.in-Some.ensures.first c.take_first.ensures.all c.add-then-is_some.new.self c.loop-id.invariant.due c.add-then-is_some.ensures.keeps c.add-then-is_some.ensures.there

pub loop-id-smaller : goal.loop-id-smaller
loop-id-smaller c =
    fewer c.args.tables.now c.args.site c.args.state.now.facts c.args.host.now c.loop-id.waiting c.take_first.new.self
    c.take_first.ensures.rest c.in-Some.id c.in-Some.ensures.first

pub loop-id-preserved : goal.loop-id-preserved
loop-id-preserved c =
    let t = c.args.tables.now in
    let i = c.args.site in
    let facts = c.args.state.now.facts in
    let its = c.in-Ok.ensures.push ∙ ap (λ (n : List ℕ). push_if_due t i (view facts) (Some n) (gx c.in-Some.id)) c.as_slice.ensures.items in
    record {
      kept = c.push_by.ensures.kept;
      some = c.take_first.ensures.all ∙ c.loop-id.invariant.some;
      due = goes t i facts c.args.host.now c.loop-id.waiting c.take_first.new.self
          c.take_first.ensures.rest c.in-Some.id c.in-Some.ensures.first c.take_first.ensures.all c.loop-id.invariant.due
          (failed push_view c.in-Ok.push _ _ its (sym c.is_some.ensures ∙ c.if-is_some.false));
    }

pub returns-clause-push : goal.returns-clause-push
returns-clause-push c =
    no_push c.args.tables.now c.args.site (view c.args.state.now.facts) (Some c.args.host.now)
    (none_due c.args.tables.now c.args.site c.args.state.now.facts c.args.host.now c.loop-id.waiting c.take_first.new.self
    c.take_first.ensures.rest c.loop-id.invariant.some c.loop-id.invariant.due c.take_first.ensures.rises c.in_default.ensures.first)

pub returns-clause-due : goal.returns-clause-due
returns-clause-due c =
    stays c.args.tables.now c.args.site c.args.state.now.facts c.args.host.now c.loop-id.waiting c.take_first.new.self
    c.take_first.ensures.rest c.take_first.ensures.all c.in_default.ensures.first c.loop-id.invariant.due
