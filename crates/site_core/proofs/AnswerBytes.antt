-- The bytes of an answer.
use Rattle.std.proofs.Common.{◌≡◌, ◌≤◌, ◌<◌, [], ℕ, true, false, List, nat_lt, refl, arith}
use Rattle.std.specs.Prelude.{◌≢◌}
use Rattle.std.proofs.lemmas.Bool.Decides.{nat_tests}
use Rattle.dia_codec.specs.Fields.{MessageValue}
use Rattle.dia_codec.specs.Limits.{longest_message}
use Rattle.dia_codec.specs.Written.{written_header, written_len, written_spelling}
use Rattle.site_core.specs.Answering.{answer_bytes}

-- an answer that fits a message
pub answered : (m : MessageValue) (bytes : List ℕ) → bytes ≡ written_spelling m → written_len m ≤ longest_message → bytes ≡ answer_bytes m
answered m bytes is fits =
    let short : nat_lt longest_message (written_len m) ≡ false = grind (arith, nat_tests) in
    rw short is

-- one that doesn't
pub unanswered : (m : MessageValue) → longest_message < written_len m → [] ≡ answer_bytes m
unanswered m long =
    let above : nat_lt longest_message (written_len m) ≡ true = grind (arith, nat_tests) in
    rw above refl

-- there are some
pub some_bytes : (m : MessageValue) (bytes : List ℕ) → bytes ≡ written_spelling m → bytes ≢ []
unfolding written_spelling written_header
some_bytes m bytes is = λ none. absurd (cc)
