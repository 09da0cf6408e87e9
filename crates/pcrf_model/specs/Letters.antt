-- Letters between sites, and what each means (this project's profile).
use Rattle.std.specs.Prelude.{ℕ, ◌+◌, Bool, ◌&&◌, List, [], length, nat_le, Option, Some, None}
use Rattle.pcrf_model.specs.Holdings.{Holding}
use Rattle.pcrf_model.specs.Operations.{Operation}
use Rattle.pcrf_model.specs.Replies.{ReplyValue, Own, Copy}
use Rattle.pcrf_values.specs.Limits.{last_counter, range_limit}

-- a maker, its epoch, and how many of its operations of that epoch the sender took; the sender and its epoch stand on the letter
pub record AckValue : Type 0 where
  pub sender : ℕ
  pub sender_epoch : ℕ
  pub maker : ℕ
  pub maker_epoch : ℕ
  pub cursor : ℕ

-- Operations that the sender made itself in its present epoch, from a position in its log on; all that it holds, with the length of its log;
-- an acknowledgement: a maker, its epoch and a cursor.
pub data LetterBody : Type 0 where
  Range : ℕ → List Operation → LetterBody
  Snapshot : Holding → ℕ → LetterBody
  Acknowledgement : ℕ → ℕ → ℕ → LetterBody

-- the edition of the sender's operator tables, the sender, its epoch, and what it says
pub record LetterValue : Type 0 where
  pub edition : ℕ
  pub site : ℕ
  pub epoch : ℕ
  pub body : LetterBody

-- What a letter means, where its sender had taken these operations when it was made: a range its operations, a snapshot all that its sender had
-- taken, an acknowledgement none.
abbrev pub meaning : List Operation → LetterBody → List Operation
meaning taken (Range from os) = os
meaning taken (Snapshot h n) = taken
meaning taken (Acknowledgement m e c) = []

-- what a letter says of a reply to one who asked for operations from that position on, or for the whole; nothing of any other reply
abbrev pub body_from : ℕ → ReplyValue → Option LetterBody
body_from from (Own os n) = Some (Range from os)
body_from from (Copy h n) = Some (Snapshot h n)
body_from from r = None

-- a letter carries operations as many as are answered at once, and positions, clocks and lengths of logs up to the last counter
abbrev pub is_carried : LetterBody → Bool
is_carried (Range from os) = nat_le (length os) range_limit && nat_le (from + length os) last_counter
is_carried (Snapshot h n) = nat_le h.clock last_counter && nat_le n last_counter
is_carried (Acknowledgement m e c) = nat_le c last_counter
