use Rattle.std.proofs.Common.{true, refl, ap, ◌∙◌}
use Rattle.pcrf_values.proofs.Plain.{clash}
use Rattle.pcrf_model.specs.Sessions.{gx}
use Rattle.pcrf_model.specs.Views.{view}
use Rattle.site_join.specs.States.{record_facts}
use Rattle.rule_delta.proofs.Waited.{keeps_through, waits_on}
use Rattle.indexed_state.proofs.Agreeing.{Followed, agree_anew, agree_followed}
use Rattle.indexed_state.proofs.BindingAlike.{binds_alike, agree_alike}
use Rattle.indexed_state.proofs.following.follow.Goals as goal

pub returns-then-not-is_whole : goal.returns-then-not-is_whole
returns-then-not-is_whole c = λ t i h differs was a.
    agree_anew t i c.args.state.now c.keep_nothing.new.is_whole c.args.index.now c.keep_nothing.new.rules c.keep_nothing.new.waiting c.keep_nothing.new.aborts
    (λ e. clash _ e c.keep_nothing.ensures.whole) c.keep_nothing.ensures.unsettled c.keep_nothing.ensures.calls

pub returns-then-show_alike : goal.returns-then-show_alike
returns-then-show_alike c = λ t i h differs was a.
    let k = c.args.state.now in
    let id = c.args.id.now in
    let alike = binds_alike h k id _ _ (ap record_facts c.as_ref.ensures.value ∙ was) c.gx-known.ensures (c.show_alike.ensures c.if-show_alike.true) in
    agree_alike h k id differs alike t i c.args.is_whole.now c.args.index.now c.args.rules.now c.args.waiting.now c.wait_one.new.waiting c.args.aborts.now
    c.wait_one.ensures.keeps c.wait_one.ensures.waits a

pub returns-then-not-list_known : goal.returns-then-not-list_known
returns-then-not-list_known c = λ t i h differs was a.
    agree_anew t i c.args.state.now c.keep_nothing-then-not-list_known.new.is_whole c.list_known.new.index c.keep_nothing-then-not-list_known.new.rules c.keep_nothing-then-not-list_known.new.waiting c.keep_nothing-then-not-list_known.new.aborts
    (λ e. clash _ e c.keep_nothing-then-not-list_known.ensures.whole) c.keep_nothing-then-not-list_known.ensures.unsettled c.keep_nothing-then-not-list_known.ensures.calls

pub returns : goal.returns
returns c = λ t i h differs was a.
    let k = c.args.state.now in
    let id = c.args.id.now in
    let d = gx id in
    let new = c.list_known.new.index in
    let w = c.unsettle_gateway.new.waiting in
    let covers = a.covers c.if-not-is_whole.false in
    let last = c.unsettle_gateway.ensures.before.keeps in
    let z : Followed t i h k d c.args.index.now new c.args.rules.now c.unsettle_gateway.new.rules c.args.waiting.now w c.args.aborts.now c.wait_lost.new.aborts c.gateway_reached_in-before.result c.gateway_reached_in-after.result
    = record {
      differs = differs;
      covers = covers;
      covered = c.list_known.ensures.covers c.if-not-list_known.false h.facts k.facts c.gx-known.ensures differs covers;
      kept = a.kept;
      due = a.due;
      grows = c.list_known.ensures.grows;
      was_at = c.gateway_reached_in-before.ensures h.facts id (ap record_facts c.as_ref-2.ensures.value ∙ was);
      is_at = c.gateway_reached_in-after.ensures k.facts id c.gx-known.ensures;
      gone_before = c.unsettle_gateway.ensures.before.gone;
      gone_after = c.unsettle_gateway.ensures.after.gone;
      same = c.unsettle_gateway.ensures.before.same;
      keeps = keeps_through c.args.waiting.now c.wait_gateway.new.waiting w c.wait_gateway.ensures.keeps last;
      own = λ none g. waits_on (view k.facts) c.wait_gateway.new.waiting w d last (c.wait_gateway.ensures.waits none);
      near_before = c.unsettle_gateway.ensures.before.waits;
      near_after = c.unsettle_gateway.ensures.after.waits;
      all = λ _. c.unsettle_gateway.ensures.all;
      abandoned = a.abandoned;
      go_on = c.wait_lost.ensures.keeps;
      own_call = λ e. clash true refl e;
      near_calls = λ _. c.wait_lost.ensures.near;
      network_calls = λ _. c.wait_lost.ensures.near_by;
      all_calls = λ _. c.wait_lost.ensures.all;
    } in
    agree_followed t i h k d c.args.index.now new c.args.rules.now c.unsettle_gateway.new.rules c.args.waiting.now w c.args.aborts.now c.wait_lost.new.aborts c.gateway_reached_in-before.result c.gateway_reached_in-after.result
    z c.args.is_whole.now c.forget_stood.new.index
    (λ all. c.forget_stood.ensures k.facts c.gx-known.ensures (c.forget_gateway.ensures (view k.facts) (c.gateway_reached_in-after.ensures k.facts id c.gx-known.ensures) all))
