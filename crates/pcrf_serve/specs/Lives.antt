-- The epochs of a site that sends letters.
use Rattle.std.specs.Prelude.{◌≡◌, ℕ, ◌+◌, ⊤}
use Rattle.pcrf_model.specs.Letters.{LetterValue}
use Rattle.pcrf_model.specs.Cursors.{CursorsValue, cursors_after_ack}
use Rattle.pcrf_serve.specs.declared.dialing.Life.{Life}
use Rattle.pcrf_serve.specs.declared.dialing.Written.{Written}
use Rattle.pcrf_serve.specs.declared.dialing.Written.TheVariants as written
use Rattle.pcrf_serve.specs.declared.dialing.Sent.{Sent}
use Rattle.pcrf_serve.specs.declared.dialing.Sent.TheVariants as sent

-- the epoch: the one that the site started in, and one more for each time that it began anew
abbrev pub epoch_in : Life → ℕ
epoch_in l = l.first + l.begun

-- of the letter, if there is one
abbrev pub IfLetter : Written → (LetterValue → Type 0) → Type 0
IfLetter (written.Letter letter) P = P letter
IfLetter (written.BegunAnew begun) P = ⊤

-- the cursors have counted what was acknowledged, if anything was
abbrev pub IsCounted : CursorsValue → Sent → CursorsValue → Type 0
IsCounted c (sent.Acknowledged ack) d = d ≡ cursors_after_ack c ack
IsCounted c (sent.BegunAnew begun) d = d ≡ c
