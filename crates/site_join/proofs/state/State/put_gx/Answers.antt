use Rattle.std.proofs.Common.{◌≡◌, true, ap, sym, subst, ◌∙◌}
use Rattle.pcrf_values.specs.Orders.{text_cmp}
use Rattle.lattice_core.specs.Entries.{IsAscending}
use Rattle.pcrf_model.specs.Sessions.{gx}
use Rattle.pcrf_model.specs.Holdings.{Holding, facts_on, with_facts_of}
use Rattle.pcrf_model.specs.Forms.{is_holding, is_session}
use Rattle.pcrf_model.proofs.RecordForms.{replaced_in_form}
use Rattle.site_join.specs.States.{Records, record_facts, held_by}
use Rattle.site_join.proofs.StateLaws.{reads_gx}
use Rattle.site_join.proofs.PlacedRecords.{where_refused, puts_gx}
use Rattle.site_join.proofs.state.State.put_gx.Goals as goal

pub returns-clause-stood : goal.returns-clause-stood
returns-clause-stood c =
    ap record_facts c.in_ok-stood.ensures.stood
    ∙ reads_gx c.self.inside.gx c.self.inside.af c.self.inside.clock c.args.id.now c.note_valid.ensures
    ∙ ap (λ (h : Holding). facts_on h.facts (gx c.args.id.now)) c.self.view_is

pub returns-clause-placed : goal.returns-clause-placed
returns-clause-placed c =
    let there = c.in_ok-stood.ensures.placed in
    ap (λ (es : Records). held_by es c.self.inside.af c.args.clock) there
    ∙ puts_gx c.self.inside.gx c.self.inside.af c.args.id.now c.args.given c.self.inside.clock c.args.clock c.note_valid.ensures.0 (subst (IsAscending text_cmp) there c.note_valid-2.ensures.0)
    ∙ ap (λ (h : Holding). with_facts_of h (gx c.args.id.now) (record_facts c.args.given) c.args.clock) c.self.view_is

pub returns-in_err-stood-clause-refused_new : goal.returns-in_err-stood-clause-refused_new
returns-in_err-stood-clause-refused_new c = where_refused c.from_residual.result (
    sym (ap (λ (h : Holding). facts_on h.facts (gx c.args.id.now)) c.self.view_is)
    ∙ sym (reads_gx c.self.inside.gx c.self.inside.af c.self.inside.clock c.args.id.now c.note_valid.ensures)
    ∙ ap record_facts c.in_err-stood.ensures.refused_new)

pub invariant_of-self-2 : goal.invariant_of-self-2
invariant_of-self-2 c =
    let there = c.in_ok-stood.ensures.placed in
    let is = ap (λ (es : Records). held_by es c.self.inside.af c.args.clock) there
    ∙ puts_gx c.self.inside.gx c.self.inside.af c.args.id.now c.args.given c.self.inside.clock c.args.clock c.note_valid.ensures.0 (subst (IsAscending text_cmp) there c.note_valid-2.ensures.0)
    ∙ ap (λ (h : Holding). with_facts_of h (gx c.args.id.now) (record_facts c.args.given) c.args.clock) c.self.view_is in
    let form : is_holding c.args.self.now ≡ true = subst (λ (h : Holding). is_holding h ≡ true) c.self.view_is c.self.invariant in
    let session : is_session (gx c.args.id.now) ≡ true = rw c.id.ensures at c.note_text.ensures in
    subst (λ (h : Holding). is_holding h ≡ true) (sym is)
    (replaced_in_form c.args.self.now (gx c.args.id.now) (record_facts c.args.given) c.args.clock form session c.note_gx.ensures c.requires.within c.requires.counted)
