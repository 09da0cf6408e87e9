use Rattle.std.proofs.Common.{◌≡◌, true, List, map, sym, subst}
use Rattle.pcrf_values.specs.Facts.{Fact}
use Rattle.pcrf_model.specs.Forms.{is_record}
use Rattle.pcrf_model.specs.Sessions.{Gx}
use Rattle.gx_records.specs.GxFacts.{fact_of}
use Rattle.gx_records.proofs.FieldLaws.{kept_record}
use Rattle.gx_records.proofs.record.GxRec.of.Goals as goal

pub invariant_of-result : goal.invariant_of-result
invariant_of-result c = subst (λ (l : List Fact). is_record Gx l ≡ true) (sym c.in_ok-facts.ensures) (kept_record (map fact_of c.args.facts.items) c.requires)
