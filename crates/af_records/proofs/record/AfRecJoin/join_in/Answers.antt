use Rattle.std.proofs.Common.{◌≡◌, true, List, sym, subst}
use Rattle.pcrf_values.specs.Facts.{Fact}
use Rattle.pcrf_model.specs.Forms.{is_record}
use Rattle.pcrf_model.specs.Sessions.{Af}
use Rattle.pcrf_model.proofs.RecordForms.{joined_record}
use Rattle.af_records.proofs.record.AfRecJoin.join_in.Goals as goal

pub invariant_of-self-2 : goal.invariant_of-self-2
invariant_of-self-2 c = subst (λ (l : List Fact). is_record Af l ≡ true) (sym c.in_default.ensures.joins) (joined_record Af c.self.inside.facts c.other.inside.facts c.self.invariant c.other.invariant)
