-- An answer-message fits a message.
use Rattle.std.proofs.Common.{◌≤◌, [], Some, length, arith}
use Rattle.pcrf_values.specs.Limits.{identity_limit}
use Rattle.pcrf_values.specs.declared.refusal.Refusal.{Refusal}
use Rattle.dia_codec.specs.declared.message.Header.{Header}
use Rattle.dia_codec.specs.Limits.{longest_message}
use Rattle.dia_codec.specs.Written.{written_len}
use Rattle.dia_base.specs.declared.identity.Identity.{Identity}
use Rattle.dia_base.proofs.AnswerLengths.{ending_within}
use Rattle.site_core.specs.Answering.{answer_message}

pub message_fits : (i : Identity) (h : Header) (r : Refusal) → length i.host ≤ identity_limit → length i.realm ≤ identity_limit
    → written_len (answer_message i h r) ≤ longest_message
unfolding answer_message
message_fits i h r host realm = let all = ending_within [] 0 i (Some r) (omega arith) host realm in omega (arith, all)
