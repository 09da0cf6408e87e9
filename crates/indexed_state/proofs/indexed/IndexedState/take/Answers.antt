use Rattle.std.proofs.Common.{◌≡◌, ◌||◌, None, Some, true, false, sym, subst}
use Rattle.pcrf_values.specs.Prefixes.{Ipv6Prefix}
use Rattle.pcrf_model.specs.Holdings.{Holding}
use Rattle.pcrf_model.specs.Sessions.{Session, is_gx}
use Rattle.pcrf_model.specs.Views.{view}
use Rattle.bind_index.specs.Networks.{network_of}
use Rattle.rule_delta.specs.Waits.{WaitsIfDue}
use Rattle.rule_delta.proofs.Waited.{keeps_through, waits_on}
use Rattle.rule_delta.specs.Abandoned.{ListedCallsWait, NetworkCallsWait}
use Rattle.indexed_state.specs.Indexed.{Agree, IsReached, Unsettled, spans}
use Rattle.indexed_state.proofs.Agreeing.{Followed, agree_index, agree_grown, agree_followed, operation_differs, operation_covered}
use Rattle.indexed_state.proofs.indexed.IndexedState.take.Goals as goal

pub invariant_of-self : goal.invariant_of-self
invariant_of-self c =
    agree_index c.self.inside.tables c.self.inside.site c.self.inside.state c.self.inside.is_whole c.make_whole.new.is_whole c.self.inside.index c.make_whole.new.index _ _ _
    (c.make_whole.ensures.covers c.self.invariant.covers) c.self.invariant

pub invariant_of-self-in_err-cover : goal.invariant_of-self-in_err-cover
invariant_of-self-in_err-cover c =
    agree_grown c.self.inside.tables c.self.inside.site c.self.inside.state c.make_whole.new.is_whole c.make_whole.new.index c.cover.new.self _ _ _ c.cover.ensures.grows
    (agree_index c.self.inside.tables c.self.inside.site c.self.inside.state c.self.inside.is_whole c.make_whole.new.is_whole c.self.inside.index c.make_whole.new.index _ _ _
    (c.make_whole.ensures.covers c.self.invariant.covers) c.self.invariant)

pub invariant_of-self-in_err-shown : goal.invariant_of-self-in_err-shown
invariant_of-self-in_err-shown c =
    agree_grown c.self.inside.tables c.self.inside.site c.self.inside.state c.make_whole.new.is_whole c.make_whole.new.index c.cover.new.self _ _ _ c.cover.ensures.grows
    (agree_index c.self.inside.tables c.self.inside.site c.self.inside.state c.self.inside.is_whole c.make_whole.new.is_whole c.self.inside.index c.make_whole.new.index _ _ _
    (c.make_whole.ensures.covers c.self.invariant.covers) c.self.invariant)

pub invariant_of-self-in_err-take : goal.invariant_of-self-in_err-take
invariant_of-self-in_err-take c =
    subst (λ (h : Holding). Agree c.self.inside.tables c.self.inside.site h c.make_whole.new.is_whole c.cover.new.self c.self.inside.rules c.self.inside.waiting c.self.inside.aborts) (sym c.in_err-take.ensures.err)
    (agree_grown c.self.inside.tables c.self.inside.site c.self.inside.state c.make_whole.new.is_whole c.make_whole.new.index c.cover.new.self _ _ _ c.cover.ensures.grows
    (agree_index c.self.inside.tables c.self.inside.site c.self.inside.state c.self.inside.is_whole c.make_whole.new.is_whole c.self.inside.index c.make_whole.new.index _ _ _
    (c.make_whole.ensures.covers c.self.invariant.covers) c.self.invariant))

pub invariant_of-self-2 : goal.invariant_of-self-2
invariant_of-self-2 c =
    let h = c.self.inside.state in
    let k = c.take.new.self in
    let o = c.args.operation.now in
    let w = c.unsettle.new.waiting in
    let before = c.reached_by-before.result in
    let after = c.reached_by-after.result in
    let session = c.facts-facts.ensures.session in
    let last = c.unsettle.ensures.before.keeps in
    let is_at : IsReached (view k.facts) o.session after =
    subst (λ (s : Session). IsReached (view k.facts) s after) session c.reached_by-after.ensures in
    let own = subst (λ (s : Session). after.address ≡ None → is_gx s.kind ≡ true → WaitsIfDue (view k.facts) c.wait_unlisted.new.waiting s) session c.wait_unlisted.ensures.waits in
    let covers = c.make_whole.ensures.covers c.self.invariant.covers c.in_ok-make_whole.ensures.whole in
    let z : Followed c.self.inside.tables c.self.inside.site h k o.session c.make_whole.new.index c.cover.new.self c.self.inside.rules c.unsettle.new.rules c.self.inside.waiting w c.self.inside.aborts c.wait_calls.new.aborts before after
    = record {
      differs = operation_differs h k o c.make_whole.new.index c.cover.new.self c.in_ok-take.ensures.ok c.note_kept.ensures;
      covers = covers;
      covered = operation_covered h k o c.make_whole.new.index c.cover.new.self c.in_ok-take.ensures.ok covers c.cover.ensures.grows c.in_ok-cover.ensures.lists;
      kept = c.self.invariant.kept;
      due = c.self.invariant.due;
      grows = c.cover.ensures.grows;
      was_at = subst (λ (s : Session). IsReached (view h.facts) s before) session c.reached_by-before.ensures;
      is_at = is_at;
      gone_before = c.unsettle.ensures.before.gone;
      gone_after = c.unsettle.ensures.after.gone;
      same = c.unsettle.ensures.before.same;
      keeps = keeps_through c.self.inside.waiting c.wait_unlisted.new.waiting w c.wait_unlisted.ensures.keeps last;
      own = λ none g. waits_on (view k.facts) c.wait_unlisted.new.waiting w o.session last (own none g);
      near_before = c.unsettle.ensures.before.waits;
      near_after = c.unsettle.ensures.after.waits;
      all = subst (λ (s : Session). is_gx s.kind ≡ true → (spans before.prefix || spans after.prefix) ≡ true → Unsettled c.unsettle.new.rules w) session c.unsettle.ensures.all;
      abandoned = c.self.invariant.abandoned;
      go_on = c.wait_calls.ensures.keeps;
      own_call = subst (λ (s : Session). is_gx s.kind ≡ false → WaitsIfDue (view k.facts) c.wait_calls.new.aborts s) session c.wait_calls.ensures.own;
      near_calls = subst (λ (s : Session). is_gx s.kind ≡ true → ListedCallsWait (view k.facts) c.cover.new.self c.wait_calls.new.aborts before.address) session c.wait_calls.ensures.near;
      network_calls = subst (λ (s : Session). is_gx s.kind ≡ true → (p : Ipv6Prefix) → before.prefix ≡ Some p → NetworkCallsWait (view k.facts) c.cover.new.self c.wait_calls.new.aborts (network_of p))
          session c.wait_calls.ensures.near_by;
      all_calls = subst (λ (s : Session). is_gx s.kind ≡ true → spans before.prefix ≡ true → c.wait_calls.new.aborts.all ≡ true) session c.wait_calls.ensures.all;
    } in
    agree_followed c.self.inside.tables c.self.inside.site h k o.session c.make_whole.new.index c.cover.new.self c.self.inside.rules c.unsettle.new.rules c.self.inside.waiting w c.self.inside.aborts c.wait_calls.new.aborts
    before after z c.make_whole.new.is_whole c.forget_given.new.index
    (λ all. c.forget_given.ensures (c.forget_moved.ensures (view k.facts) (subst (λ (s : Session). IsReached (view k.facts) s after) (sym session) is_at) all))
