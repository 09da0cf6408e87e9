use Rattle.std.proofs.Common.{ap, ◌∙◌}
use Rattle.pcrf_model.specs.Tables.{Tables, media_class}
use Rattle.op_tables.proofs.Lookups.{class_found}
use Rattle.op_tables.proofs.tables.Tables.media.Goals as goal

pub returns-in-Some : goal.returns-in-Some
returns-in-Some c =
    c.in-Some.ensures.value ∙ class_found c.args.media_type c.self.inside.media.entries ∙ ap (λ (t : Tables). media_class t c.args.media_type) c.self.view_is

pub returns-in-None : goal.returns-in-None
returns-in-None c =
    c.in-None.ensures.value ∙ class_found c.args.media_type c.self.inside.media.entries ∙ ap (λ (t : Tables). media_class t c.args.media_type) c.self.view_is
