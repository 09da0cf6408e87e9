-- What a letter says, as the definitions have it.
use Rattle.std.specs.Prelude.{ℕ}
use Rattle.pcrf_model.specs.Letters.{LetterBody, LetterValue}
use Rattle.pcrf_model.specs.Letters as letters
use Rattle.peer_exchange.specs.declared.body.Body.{Body}
use Rattle.peer_exchange.specs.declared.body.Body.TheVariants.{Range, Snapshot, Acknowledgement}

-- what is said
abbrev pub body_value : Body → LetterBody
body_value (Range r) = letters.Range r.from r.operations.items
body_value (Snapshot s) = letters.Snapshot s.state s.log_length
body_value (Acknowledgement a) = letters.Acknowledgement a.maker a.maker_epoch a.cursor

-- by that sender
abbrev pub letter_value : ℕ → ℕ → ℕ → Body → LetterValue
letter_value edition site epoch body = record { edition = edition; site = site; epoch = epoch; body = body_value body }
