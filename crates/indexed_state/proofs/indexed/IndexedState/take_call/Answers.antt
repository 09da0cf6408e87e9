use Rattle.std.proofs.Common.{ℕ, max, Some, false, refl, sym, ap, ◌∙◌, subst}
use Rattle.pcrf_values.proofs.Plain.{clash}
use Rattle.pcrf_values.specs.Held.{kept_list, join_of}
use Rattle.pcrf_model.specs.Holdings.{Holding, facts_on, kept_of}
use Rattle.pcrf_model.specs.Operations.{with_operation}
use Rattle.pcrf_model.specs.Sessions.{af}
use Rattle.pcrf_model.specs.Views.{view}
use Rattle.site_join.specs.States.{record_facts}
use Rattle.indexed_state.specs.Indexed.{Agree, IndexedValue, with_holding}
use Rattle.indexed_state.proofs.Agreeing.{Followed, agree_index, agree_grown, agree_followed, operation_covered, placed_differs}
use Rattle.indexed_state.proofs.PlacedRecord.{put_is_taken, put_known, put_up_to}
use Rattle.indexed_state.proofs.indexed.IndexedState.take_call.Goals as goal

pub invariant_of-self-in_err-cover : goal.invariant_of-self-in_err-cover
invariant_of-self-in_err-cover c =
    agree_grown c.self.inside.tables c.self.inside.site c.self.inside.state c.make_whole.new.is_whole c.make_whole.new.index c.cover.new.self _ _ _ c.cover.ensures.grows
    (agree_index c.self.inside.tables c.self.inside.site c.self.inside.state c.self.inside.is_whole c.make_whole.new.is_whole c.self.inside.index c.make_whole.new.index _ _ _
    (c.make_whole.ensures.covers c.self.invariant.covers) c.self.invariant)

pub put_af-requires-clause-counted : goal.put_af-requires-clause-counted
put_af-requires-clause-counted c =
    let h = c.self.inside.state in
    let o = c.args.operation.now in
    let s = af c.args.id.now in
    let joins = c.requires.joins ∙ ap (λ (x : IndexedValue). join_of (facts_on x.holding.facts s) (kept_list o.facts)) (sym c.self.view_is) in
    let counter = sym (c.max-clock.ensures ∙ ap (λ (n : ℕ). max n c.counter.result) c.clock.ensures.clock ∙ ap (max h.clock) c.counter.ensures.counter) in
    put_up_to h o c.note_kept.ensures c.max-clock.result counter s c.requires.session c.args.known joins c.note_form.ensures c.note_form-2.ensures

pub invariant_of-self-in_err-stood : goal.invariant_of-self-in_err-stood
invariant_of-self-in_err-stood c =
    subst (λ (m : Holding). Agree c.self.inside.tables c.self.inside.site m c.make_whole.new.is_whole c.cover.new.self c.self.inside.rules c.self.inside.waiting c.self.inside.aborts) (sym c.in_err-stood.ensures.unchanged)
    (agree_grown c.self.inside.tables c.self.inside.site c.self.inside.state c.make_whole.new.is_whole c.make_whole.new.index c.cover.new.self _ _ _ c.cover.ensures.grows
    (agree_index c.self.inside.tables c.self.inside.site c.self.inside.state c.self.inside.is_whole c.make_whole.new.is_whole c.self.inside.index c.make_whole.new.index _ _ _
    (c.make_whole.ensures.covers c.self.invariant.covers) c.self.invariant))

pub invariant_of-self-2 : goal.invariant_of-self-2
invariant_of-self-2 c =
    let h = c.self.inside.state in
    let o = c.args.operation.now in
    let s = af c.args.id.now in
    let joins = c.requires.joins ∙ ap (λ (x : IndexedValue). join_of (facts_on x.holding.facts s) (kept_list o.facts)) (sym c.self.view_is) in
    let counter = sym (c.max-clock.ensures ∙ ap (λ (n : ℕ). max n c.counter.result) c.clock.ensures.clock ∙ ap (max h.clock) c.counter.ensures.counter) in
    let is = c.in_ok-stood.ensures.placed ∙ put_is_taken h o c.note_kept.ensures c.max-clock.result counter s c.requires.session c.args.known joins in
    let k = c.put_af.new.self in
    let known = put_known h o c.note_kept.ensures c.max-clock.result counter s c.requires.session c.args.known joins in
    let w = c.unsettle_both.new.waiting in
    let before = c.call_reached_in-before.result in
    let after = c.call_reached_in-after.result in
    let last = c.unsettle_both.ensures.before.keeps in
    let is_at = c.call_reached_in-after.ensures k.facts c.args.id.now (known ∙ ap (λ (m : Holding). facts_on m.facts s) (sym is)) in
    let covers = c.make_whole.ensures.covers c.self.invariant.covers c.in_ok-make_whole.ensures.whole in
    let z : Followed c.self.inside.tables c.self.inside.site h k s c.make_whole.new.index c.cover.new.self c.self.inside.rules c.unsettle_both.new.rules c.self.inside.waiting w c.self.inside.aborts c.wait_one.new.waiting before after
    = record {
      differs = placed_differs h k s (record_facts (Some c.args.known)) c.max-clock.result c.in_ok-stood.ensures.placed;
      covers = covers;
      covered = operation_covered h k o c.make_whole.new.index c.cover.new.self is covers c.cover.ensures.grows c.in_ok-cover.ensures.lists;
      kept = c.self.invariant.kept;
      due = c.self.invariant.due;
      grows = c.cover.ensures.grows;
      was_at = c.call_reached_in-before.ensures h.facts c.args.id.now (ap record_facts c.as_ref.ensures.value ∙ c.in_ok-stood.ensures.stood);
      is_at = is_at;
      gone_before = c.unsettle_both.ensures.before.gone;
      gone_after = c.unsettle_both.ensures.after.gone;
      same = c.unsettle_both.ensures.before.same;
      keeps = last;
      own = λ none g. clash false g refl;
      near_before = c.unsettle_both.ensures.before.waits;
      near_after = c.unsettle_both.ensures.after.waits;
      all = λ g. clash false g refl;
      abandoned = c.self.invariant.abandoned;
      go_on = c.wait_one.ensures.keeps;
      own_call = λ _. c.wait_one.ensures.waits;
      near_calls = λ g. clash false g refl;
      network_calls = λ g. clash false g refl;
      all_calls = λ g. clash false g refl;
    } in
    agree_followed c.self.inside.tables c.self.inside.site h k s c.make_whole.new.index c.cover.new.self c.self.inside.rules c.unsettle_both.new.rules c.self.inside.waiting w c.self.inside.aborts c.wait_one.new.waiting
    before after z c.make_whole.new.is_whole c.forget_call.new.index (λ all. c.forget_call.ensures (view k.facts) is_at all)

pub returns-clause-ok : goal.returns-clause-ok
returns-clause-ok c =
    let h = c.self.inside.state in
    let o = c.args.operation.now in
    let s = af c.args.id.now in
    let joins = c.requires.joins ∙ ap (λ (x : IndexedValue). join_of (facts_on x.holding.facts s) (kept_list o.facts)) (sym c.self.view_is) in
    let counter = sym (c.max-clock.ensures ∙ ap (λ (n : ℕ). max n c.counter.result) c.clock.ensures.clock ∙ ap (max h.clock) c.counter.ensures.counter) in
    let is = c.in_ok-stood.ensures.placed ∙ put_is_taken h o c.note_kept.ensures c.max-clock.result counter s c.requires.session c.args.known joins in
    ap (λ (m : Holding). record { tables = c.self.inside.tables; holding = m }) is
    ∙ ap (λ (x : IndexedValue). with_holding x (kept_of (with_operation x.holding o))) c.self.view_is
