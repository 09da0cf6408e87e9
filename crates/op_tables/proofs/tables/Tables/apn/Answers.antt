use Rattle.std.proofs.Common.{ap, ◌∙◌}
use Rattle.std.proofs.lemmas.Cmp.{nat_list_cmp_total}
use Rattle.pcrf_model.specs.Tables.{Tables, apn_row}
use Rattle.op_tables.proofs.Lookups.{lookup_find}
use Rattle.op_tables.proofs.tables.Tables.apn.Goals as goal

pub returns-clause-row : goal.returns-clause-row
returns-clause-row c =
    let inside = c.self.inside in
    c.get.ensures.value ∙ lookup_find nat_list_cmp_total c.args.name.now inside.apns.entries ∙ ap (λ (t : Tables). apn_row t c.args.name.now) c.self.view_is
