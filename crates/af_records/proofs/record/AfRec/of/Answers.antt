use Rattle.std.proofs.Common.{◌≡◌, true, List, map, sym, subst}
use Rattle.pcrf_values.specs.Facts.{Fact}
use Rattle.pcrf_model.specs.Forms.{is_record}
use Rattle.pcrf_model.specs.Sessions.{Af}
use Rattle.af_records.specs.RecordFacts.{fact_of}
use Rattle.pcrf_model.proofs.RecordForms.{held_record}
use Rattle.af_records.proofs.record.AfRec.of.Goals as goal

pub invariant_of-result : goal.invariant_of-result
invariant_of-result c = subst (λ (l : List Fact). is_record Af l ≡ true) (sym c.in_ok-facts.ensures) (held_record Af (map fact_of c.args.facts.items) c.requires)
