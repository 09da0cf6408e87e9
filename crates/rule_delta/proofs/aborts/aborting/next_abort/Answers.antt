use Rattle.std.proofs.Common.{ℕ, List, Some, sym, ap, ◌∙◌}
use Rattle.pcrf_model.specs.Sessions.{af}
use Rattle.pcrf_model.specs.Views.{view}
use Rattle.rx_profile.specs.Aborts.{abort_view}
use Rattle.rule_delta.specs.Abandoned.{abort_if_left}
use Rattle.rule_delta.proofs.AbortPassing.{passed, failed, its_abort, no_abort}
use Rattle.rule_delta.proofs.FirstLeft.{none_left, stays, is_first, fewer, goes, put_back}
use Rattle.rule_delta.proofs.aborts.aborting.next_abort.Goals as goal

pub returns-in_default-abort_by-clause-abandoned : goal.returns-in_default-abort_by-clause-abandoned
returns-in_default-abort_by-clause-abandoned c =
    put_back c.args.site c.args.state.now.facts c.args.host.now c.loop-id.waiting c.take_first.new.self
    c.take_first.ensures.rest c.in-Some.id c.in-Some.ensures.first c.take_first.ensures.all c.add.new.self c.loop-id.invariant.abandoned c.add.ensures.keeps c.add.ensures.there

pub returns-then-is_some-clause-abort : goal.returns-then-is_some-clause-abort
returns-then-is_some-clause-abort c =
    let i = c.args.site in
    let facts = c.args.state.now.facts in
    let its = c.in-Ok.ensures ∙ ap (λ (n : List ℕ). abort_if_left i (view facts) (Some n) (af c.in-Some.id)) c.as_slice.ensures.items in
    let left = passed abort_view c.in-Ok.abort _ _ its (sym c.is_some.ensures ∙ c.if-is_some.true) in
    its_abort i (view facts) (Some c.args.host.now) (af c.in-Some.id) _ its left
    (is_first i facts c.args.host.now c.loop-id.waiting c.take_first.new.self c.take_first.ensures.rest c.in-Some.id c.in-Some.ensures.first
    c.loop-id.invariant.some c.loop-id.invariant.abandoned c.take_first.ensures.rises left)

pub returns-then-is_some-clause-abandoned : goal.returns-then-is_some-clause-abandoned
returns-then-is_some-clause-abandoned c =
    put_back c.args.site c.args.state.now.facts c.args.host.now c.loop-id.waiting c.take_first.new.self
    c.take_first.ensures.rest c.in-Some.id c.in-Some.ensures.first c.take_first.ensures.all c.add-then-is_some.new.self c.loop-id.invariant.abandoned c.add-then-is_some.ensures.keeps c.add-then-is_some.ensures.there

pub loop-id-smaller : goal.loop-id-smaller
loop-id-smaller c =
    fewer c.args.site c.args.state.now.facts c.args.host.now c.loop-id.waiting c.take_first.new.self
    c.take_first.ensures.rest c.in-Some.id c.in-Some.ensures.first

pub loop-id-preserved : goal.loop-id-preserved
loop-id-preserved c =
    let i = c.args.site in
    let facts = c.args.state.now.facts in
    let its = c.in-Ok.ensures ∙ ap (λ (n : List ℕ). abort_if_left i (view facts) (Some n) (af c.in-Some.id)) c.as_slice.ensures.items in
    record {
      some = c.take_first.ensures.all ∙ c.loop-id.invariant.some;
      abandoned = goes i facts c.args.host.now c.loop-id.waiting c.take_first.new.self
          c.take_first.ensures.rest c.in-Some.id c.in-Some.ensures.first c.take_first.ensures.all c.loop-id.invariant.abandoned
          (failed abort_view c.in-Ok.abort _ _ its (sym c.is_some.ensures ∙ c.if-is_some.false));
    }

pub returns-clause-abort : goal.returns-clause-abort
returns-clause-abort c =
    no_abort c.args.site (view c.args.state.now.facts) (Some c.args.host.now)
    (none_left c.args.site c.args.state.now.facts c.args.host.now c.loop-id.waiting c.take_first.new.self
    c.take_first.ensures.rest c.loop-id.invariant.some c.loop-id.invariant.abandoned c.take_first.ensures.rises c.in_default.ensures.first)

pub returns-clause-abandoned : goal.returns-clause-abandoned
returns-clause-abandoned c =
    stays c.args.site c.args.state.now.facts c.args.host.now c.loop-id.waiting c.take_first.new.self
    c.take_first.ensures.rest c.take_first.ensures.all c.in_default.ensures.first c.loop-id.invariant.abandoned
