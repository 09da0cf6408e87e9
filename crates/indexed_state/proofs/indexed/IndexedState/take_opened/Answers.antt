use Rattle.std.proofs.Common.{ℕ, List, max, Some, sym, ap, ◌∙◌, subst}
use Rattle.pcrf_values.specs.Facts.{Fact}
use Rattle.pcrf_values.specs.Held.{kept_list, join_of}
use Rattle.pcrf_model.specs.Holdings.{Holding, facts_on, kept_of}
use Rattle.pcrf_model.specs.Operations.{with_operation}
use Rattle.pcrf_model.specs.Sessions.{gx}
use Rattle.bind_index.specs.Index.{ListsGateway}
use Rattle.site_join.specs.States.{record_facts}
use Rattle.indexed_state.specs.Alike.{ShowAlike}
use Rattle.indexed_state.specs.Indexed.{Agree, IndexedValue, with_holding}
use Rattle.indexed_state.specs.Opened.{OpensAlone}
use Rattle.indexed_state.proofs.Agreeing.{agree_grown, agree_index, placed_differs}
use Rattle.indexed_state.proofs.Opening.{agree_opened, alike_itself}
use Rattle.indexed_state.proofs.PlacedRecord.{put_is_taken, put_known, put_up_to}
use Rattle.indexed_state.proofs.indexed.IndexedState.take_opened.Goals as goal

pub invariant_of-self-in_err-cover_gateway : goal.invariant_of-self-in_err-cover_gateway
invariant_of-self-in_err-cover_gateway c =
    agree_grown c.self.inside.tables c.self.inside.site c.self.inside.state c.make_whole.new.is_whole c.make_whole.new.index c.cover_gateway.new.self _ _ _ c.cover_gateway.ensures.grows
    (agree_index c.self.inside.tables c.self.inside.site c.self.inside.state c.self.inside.is_whole c.make_whole.new.is_whole c.self.inside.index c.make_whole.new.index _ _ _
    (c.make_whole.ensures.covers c.self.invariant.covers) c.self.invariant)

pub put_gx-requires-clause-counted : goal.put_gx-requires-clause-counted
put_gx-requires-clause-counted c =
    let h = c.self.inside.state in
    let o = c.args.operation.now in
    let s = gx c.args.id.now in
    let joins = c.requires.joins ∙ ap (λ (x : IndexedValue). join_of (facts_on x.holding.facts s) (kept_list o.facts)) (sym c.self.view_is) in
    let counter = sym (c.max-clock.ensures ∙ ap (λ (n : ℕ). max n c.counter.result) c.clock.ensures.clock ∙ ap (max h.clock) c.counter.ensures.counter) in
    put_up_to h o c.note_kept.ensures c.max-clock.result counter s c.requires.session c.args.known joins c.note_form.ensures c.note_form-2.ensures

pub invariant_of-self-in_err-put_gx : goal.invariant_of-self-in_err-put_gx
invariant_of-self-in_err-put_gx c =
    subst (λ (m : Holding). Agree c.self.inside.tables c.self.inside.site m c.make_whole.new.is_whole c.cover_gateway.new.self c.self.inside.rules c.self.inside.waiting c.self.inside.aborts) (sym c.in_err-put_gx.ensures.unchanged)
    (agree_grown c.self.inside.tables c.self.inside.site c.self.inside.state c.make_whole.new.is_whole c.make_whole.new.index c.cover_gateway.new.self _ _ _ c.cover_gateway.ensures.grows
    (agree_index c.self.inside.tables c.self.inside.site c.self.inside.state c.self.inside.is_whole c.make_whole.new.is_whole c.self.inside.index c.make_whole.new.index _ _ _
    (c.make_whole.ensures.covers c.self.invariant.covers) c.self.invariant))

pub invariant_of-self-2 : goal.invariant_of-self-2
invariant_of-self-2 c =
    let h = c.self.inside.state in
    let o = c.args.operation.now in
    let id = c.args.id.now in
    let s = gx id in
    let joins = c.requires.joins ∙ ap (λ (x : IndexedValue). join_of (facts_on x.holding.facts s) (kept_list o.facts)) (sym c.self.view_is) in
    let counter = sym (c.max-clock.ensures ∙ ap (λ (n : ℕ). max n c.counter.result) c.clock.ensures.clock ∙ ap (max h.clock) c.counter.ensures.counter) in
    let is = c.in_ok-put_gx.ensures.placed ∙ put_is_taken h o c.note_kept.ensures c.max-clock.result counter s c.requires.session c.args.known joins in
    let k = c.put_gx.new.self in
    let there = put_known h o c.note_kept.ensures c.max-clock.result counter s c.requires.session c.args.known joins ∙ ap (λ (m : Holding). facts_on m.facts s) (sym is) in
    let opens = subst (λ (x : IndexedValue). OpensAlone x.tables x.holding id c.args.known c.args.rules.items) (sym c.self.view_is) c.requires.alone in
    let differs = placed_differs h k s (record_facts (Some c.args.known)) c.max-clock.result c.in_ok-put_gx.ensures.placed in
    let alone = opens.alone k differs (subst (ShowAlike c.args.known) there (alike_itself c.args.known)) in
    let covers = c.make_whole.ensures.covers c.self.invariant.covers c.in_ok-make_whole.ensures.whole in
    agree_opened c.self.inside.tables c.self.inside.site h k id c.args.rules.items opens.unknown differs alone c.make_whole.new.index c.cover_gateway.new.self
    c.self.inside.is_whole c.make_whole.new.is_whole c.self.inside.rules c.keep_one.new.lists c.self.inside.waiting c.wait_one.new.waiting c.self.inside.aborts
    covers c.cover_gateway.ensures.grows (subst (λ (fs : List Fact). ListsGateway c.cover_gateway.new.self id fs) there c.in_ok-cover_gateway.ensures.lists)
    c.keep_one.ensures c.wait_one.ensures.keeps c.wait_one.ensures.waits
    (agree_index c.self.inside.tables c.self.inside.site h c.self.inside.is_whole c.self.inside.is_whole c.self.inside.index c.make_whole.new.index _ _ _ (λ _. covers) c.self.invariant)

pub returns-clause-ok : goal.returns-clause-ok
returns-clause-ok c =
    let h = c.self.inside.state in
    let o = c.args.operation.now in
    let s = gx c.args.id.now in
    let joins = c.requires.joins ∙ ap (λ (x : IndexedValue). join_of (facts_on x.holding.facts s) (kept_list o.facts)) (sym c.self.view_is) in
    let counter = sym (c.max-clock.ensures ∙ ap (λ (n : ℕ). max n c.counter.result) c.clock.ensures.clock ∙ ap (max h.clock) c.counter.ensures.counter) in
    let is = c.in_ok-put_gx.ensures.placed ∙ put_is_taken h o c.note_kept.ensures c.max-clock.result counter s c.requires.session c.args.known joins in
    ap (λ (m : Holding). record { tables = c.self.inside.tables; holding = m }) is
    ∙ ap (λ (x : IndexedValue). with_holding x (kept_of (with_operation x.holding o))) c.self.view_is
