-- A session that waits under the host that its record shows waits.
use Rattle.std.proofs.Common.{◌≡◌, ℕ, List, Some, ap, ◌∙◌, subst, option_and_then}
use Rattle.pcrf_values.specs.Sets.{In}
use Rattle.pcrf_values.specs.declared.tag.Tag.{Tag}
use Rattle.pcrf_values.proofs.Plain.{some_same}
use Rattle.pcrf_values.specs.Facts.{Fact}
use Rattle.pcrf_values.specs.Held.{entry_shown}
use Rattle.pcrf_values.specs.Places.{host}
use Rattle.pcrf_values.specs.Values.{Text}
use Rattle.pcrf_model.specs.Holdings.{SessionFact, facts_on}
use Rattle.pcrf_model.specs.Sessions.{af}
use Rattle.pcrf_model.specs.Views.{view, as_text}
use Rattle.rule_delta.specs.Waits.{WaitingValue, waiting_of, WaitsUnder, WaitsIfDue}
use Rattle.rule_delta.proofs.Reading.{value_shown}

-- so it does
pub has_host : (facts : List SessionFact) (id : List ℕ) (known : List Fact) (w : WaitingValue) (t : Tag) (n : List ℕ) → known ≡ facts_on facts (af id) → Some (t, Text n) ≡ entry_shown known host
    → WaitsUnder w n id → WaitsIfDue (view facts) w (af id)
has_host facts id known w t n k e h = record {
  there = λ a name m.
      let same : n ≡ name = some_same n name (ap (option_and_then as_text) (value_shown facts (af id) known host (Some (t, Text n)) k e) ∙ m) in
      subst (λ (x : List ℕ). In id (waiting_of w x)) same (h.there a);
}
