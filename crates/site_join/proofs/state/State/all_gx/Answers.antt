use Rattle.std.proofs.Common.{ap, sym, subst, ◌∙◌}
use Rattle.pcrf_values.specs.Orders.{text_cmp}
use Rattle.lattice_core.specs.Entries.{IsAscending, value_at}
use Rattle.pcrf_model.specs.Sessions.{gx}
use Rattle.pcrf_model.specs.Holdings.{Holding, facts_on}
use Rattle.site_join.specs.States.{Records, record_facts}
use Rattle.site_join.proofs.StateLaws.{reads_gx}
use Rattle.site_join.proofs.state.State.all_gx.Goals as goal

pub returns-clause-facts : goal.returns-clause-facts
returns-clause-facts c = λ id.
    ap (λ (es : Records). record_facts (value_at text_cmp es id)) c.iter.ensures.all
    ∙ reads_gx c.self.inside.gx c.self.inside.af c.self.inside.clock id c.note_valid.ensures
    ∙ ap (λ (h : Holding). facts_on h.facts (gx id)) c.self.view_is

pub returns-clause-ascending : goal.returns-clause-ascending
returns-clause-ascending c = subst (IsAscending text_cmp) (sym c.iter.ensures.all) c.iter.ensures.ascending
