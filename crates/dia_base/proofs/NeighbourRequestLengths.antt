-- Every request of the base protocol that a site sends fits a message.
use Rattle.std.proofs.Common.{◌≤◌, ◌+◌, length, arith}
use Rattle.std.specs.List.{sum_by}
use Rattle.pcrf_values.specs.Limits.{identity_limit}
use Rattle.dia_codec.specs.Limits.{longest_message}
use Rattle.dia_codec.specs.Written.{padded_len}
use Rattle.dia_base.specs.Answers.{origin_avps}
use Rattle.dia_base.specs.declared.identity.Identity.{Identity}
use Rattle.dia_base.proofs.AnswerLengths.{origin_within}

-- a watchdog's
pub watchdog_within : (i : Identity) → length i.host ≤ identity_limit → length i.realm ≤ identity_limit → 20 + sum_by padded_len (origin_avps i) ≤ longest_message
watchdog_within i host realm =
    let named = origin_within i host realm in
    omega (arith, named)
