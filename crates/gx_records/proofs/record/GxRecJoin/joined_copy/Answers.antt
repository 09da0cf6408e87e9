use Rattle.std.proofs.Common.{◌≡◌, true, List, sym, subst}
use Rattle.pcrf_values.specs.Facts.{Fact}
use Rattle.pcrf_model.specs.Forms.{is_record}
use Rattle.pcrf_model.specs.Sessions.{Gx}
use Rattle.pcrf_model.proofs.RecordForms.{joined_record}
use Rattle.gx_records.proofs.record.GxRecJoin.joined_copy.Goals as goal

pub invariant_of-result : goal.invariant_of-result
invariant_of-result c = subst (λ (l : List Fact). is_record Gx l ≡ true) (sym c.in_ok-facts.ensures) (joined_record Gx c.self.inside.facts c.other.inside.facts c.self.invariant c.other.invariant)
