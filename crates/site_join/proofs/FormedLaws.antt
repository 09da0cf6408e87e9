-- What the form of operations and of holdings says of their counters, and of records.
use Rattle.std.proofs.Common.{◌≡◌, ◌≤◌, true, List}
use Rattle.std.specs.Cmp.{first_so, second_so}
use Rattle.std.specs.List.{list_all}
use Rattle.pcrf_values.specs.Facts.{Fact}
use Rattle.pcrf_values.specs.Limits.{last_counter}
use Rattle.pcrf_model.specs.Sessions.{Kind}
use Rattle.pcrf_model.specs.Holdings.{Holding}
use Rattle.pcrf_model.specs.Operations.{Operation}
use Rattle.pcrf_model.specs.Forms.{is_operation, is_holding, is_recorded, is_record}
use Rattle.pcrf_model.proofs.FormLaws.{formed_by_test, form_by_test, within_most}

-- an operation has no counter past the last one
pub counter_low : (o : Operation) → is_operation o ≡ true → o.counter ≤ last_counter
counter_low o form = within_most 1 last_counter o.counter (first_so _ _ (formed_by_test o form).stamp)

-- nor has a clock one
pub clock_low : (h : Holding) → is_holding h ≡ true → h.clock ≤ last_counter
clock_low h form = (form_by_test h form).clock

-- each fact of a record is one of some operation
pub recorded : (k : Kind) (facts : List Fact) → is_record k facts ≡ true → list_all (is_recorded k) facts ≡ true
recorded k facts w = second_so _ _ w
