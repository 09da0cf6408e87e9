use Rattle.std.proofs.Common.{ap, ◌∙◌}
use Rattle.pcrf_model.specs.Sessions.{af}
use Rattle.pcrf_model.specs.Holdings.{Holding, facts_on}
use Rattle.site_join.specs.States.{record_facts}
use Rattle.site_join.proofs.StateLaws.{reads_af}
use Rattle.site_join.proofs.state.State.af.Goals as goal

pub returns : goal.returns
returns c =
    ap record_facts c.get.ensures
    ∙ reads_af c.self.inside.gx c.self.inside.af c.self.inside.clock c.args.id.now c.note_valid.ensures
    ∙ ap (λ (h : Holding). facts_on h.facts (af c.args.id.now)) c.self.view_is
