use Rattle.std.proofs.Common.{rules, ◌≡◌, true, ℕ, [], ◌∷◌, sym, ap, ◌∙◌, subst}
use Rattle.pcrf_model.specs.Forms.{are_up_to}
use Rattle.pcrf_model.specs.Holdings.{Holding, with_facts_of}
use Rattle.pcrf_model.specs.Sessions.{gx}
use Rattle.ended_sessions.specs.Forgotten.{forgotten, has_ended}
use Rattle.ended_sessions.proofs.Formed.{forgotten_up_to}
use Rattle.indexed_state.specs.Indexed.{Agree}
use Rattle.indexed_state.proofs.Ending.{agree_gateway_forgotten}
use Rattle.indexed_state.proofs.indexed.IndexedState.forget_gateway.Goals as goal

pub put_gx-requires-clause-counted : goal.put_gx-requires-clause-counted
put_gx-requires-clause-counted c =
    subst (λ (n : ℕ). are_up_to n (with_facts_of c.self.inside.state (gx c.args.id.now) [] n).facts ≡ true) (sym c.clock-clock.ensures.clock)
    (forgotten_up_to c.self.inside.state (gx c.args.id.now) c.note_form.ensures)

pub invariant_of-self : goal.invariant_of-self
invariant_of-self c =
    let h : Holding = c.self.inside.state in
    let there : c.put_gx.new.self ≡ with_facts_of h (gx c.args.id.now) [] c.clock-clock.result = search rules in
    let same : c.put_gx.new.self ≡ forgotten h (gx c.args.id.now) = there ∙ ap (λ (n : ℕ). with_facts_of h (gx c.args.id.now) [] n) c.clock-clock.ensures.clock in
    let ended : has_ended h (gx c.args.id.now) ≡ true = search rules in
    subst (λ (k : Holding). Agree c.self.inside.tables c.self.inside.site k c.self.inside.is_whole c.self.inside.index c.touch_one.new.self c.self.inside.waiting c.self.inside.aborts) (sym same)
    (agree_gateway_forgotten c.self.inside.tables c.self.inside.site h (gx c.args.id.now) (c.args.id.now ∷ []) c.self.inside.is_whole c.self.inside.index c.self.inside.rules c.touch_one.new.self c.self.inside.waiting c.self.inside.aborts
    ended c.touch_one.ensures c.self.invariant)
