-- The refusals of AA requests by what a site holds, in two parts: what is seen without binding, and what follows it.
use Rattle.std.specs.Prelude.{ℕ, [], ◌∷◌, Option}
use Rattle.pcrf_values.specs.Results.{session_not_available, unable_to_comply}
use Rattle.pcrf_values.specs.declared.refusal.Refusal.{Refusal}
use Rattle.pcrf_model.specs.Holdings.{Holding}
use Rattle.pcrf_model.specs.Refusals.{first_cause, binds_to_none, is_clock_full}
use Rattle.pcrf_model.specs.Requests.{AarValue}

-- the session would be bound to none, and then no counter is left
abbrev pub late_refusal : ℕ → Holding → AarValue → Option Refusal
late_refusal i h q = first_cause ((binds_to_none i h q, session_not_available) ∷ (is_clock_full h, unable_to_comply) ∷ [])
