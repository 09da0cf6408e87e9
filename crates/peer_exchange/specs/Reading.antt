-- Reading a letter from left to right, with the first fault that is met.
use Rattle.std.specs.Prelude.{◌≡◌, ℕ, ◌==◌, ◌&&◌, nat_le, List, [], ◌∷◌, length, if◌then◌else◌}
use Rattle.std.specs.Prelude.{Option, Some, None, Result, Ok, Err}
use Rattle.pcrf_values.specs.Limits.{session_id_limit}
use Rattle.pcrf_values.specs.Facts.{Fact}
use Rattle.pcrf_model.specs.Sessions.{Session, gx, af}
use Rattle.pcrf_model.specs.Forms.{is_within}
use Rattle.pcrf_model.specs.Operations.{Operation}
use Rattle.pcrf_model.specs.Letters.{LetterBody, Range, Snapshot, Acknowledgement, LetterValue}
use Rattle.fact_codec.specs.Reading.{Reader, ◌>>=◌, give, refuse, given, many, byte, short, word, long}
use Rattle.fact_codec.specs.Said.{text, tag_of_stamp, gx_fact, af_fact, held_gx_fact, held_af_fact, facts}
use Rattle.site_join.specs.Formed.{if_formed}
use Rattle.site_join.specs.Groups.{Group, held_in, are_groups}
use Rattle.peer_exchange.specs.declared.fault.LetterFault.{LetterFault}
use Rattle.peer_exchange.specs.declared.fault.LetterFault.TheVariants.{BadVersion, BadEdition, BadShape, NoMemory}
use Rattle.peer_exchange.specs.Limits.{longest_letter, letter_version}
use Rattle.peer_exchange.specs.Form.{if_addressed}

-- the facts of an operation on a session of each kind, with its session, in a letter of version v
abbrev pub gx_group : ℕ → ℕ → ℕ → ℕ → Reader (Session × List Fact)
gx_group v counter site number = do
  id ← text session_id_limit
  fs ← facts (gx_fact v (tag_of_stamp number counter site) (tag_of_stamp 0 counter site))
  give (gx id, fs)

abbrev pub af_group : ℕ → ℕ → ℕ → Reader (Session × List Fact)
af_group v counter site = do
  id ← text session_id_limit
  fs ← facts (af_fact v (tag_of_stamp 0 counter site))
  give (af id, fs)

-- of the kind that stands before them
unfoldable pub group : ℕ → ℕ → ℕ → ℕ → Reader (Session × List Fact)
group v counter site number = do
  kind ← byte
  if kind == 1 then gx_group v counter site number else if kind == 2 then af_group v counter site else refuse

-- an operation of the form
unfoldable pub operation : ℕ → Reader Operation
operation v = do
  counter ← long
  site ← byte
  number ← word
  on ← group v counter site number
  given (if_formed (record { counter = counter; site = site; number = number; session = on.0; facts = on.1 }))

-- a range
unfoldable pub range : ℕ → Reader LetterBody
range v = do
  from ← long
  n ← word
  os ← many (operation v) n
  give (Range from os)

-- what a state holds of a session of each kind
abbrev pub held_gx_group : ℕ → Reader Group
held_gx_group v = do
  id ← text session_id_limit
  fs ← facts (held_gx_fact v)
  give (gx id, fs)

abbrev pub held_af_group : ℕ → Reader Group
held_af_group v = do
  id ← text session_id_limit
  fs ← facts (held_af_fact v)
  give (af id, fs)

-- of the kind that stands before it
unfoldable pub held_group : ℕ → Reader Group
held_group v = do
  kind ← byte
  if kind == 1 then held_gx_group v else if kind == 2 then held_af_group v else refuse

-- the state of these groups, where one may hold them under that clock
abbrev pub if_held : ℕ → ℕ → List Group → Option LetterBody
if_held clock n gs = if are_groups clock gs then Some (Snapshot (held_in clock gs) n) else None

-- a whole state
unfoldable pub snapshot : ℕ → Reader LetterBody
snapshot v = do
  clock ← long
  n ← long
  count ← word
  gs ← many (held_group v) count
  given (if_held clock n gs)

-- an acknowledgement
unfoldable pub acknowledgement : Reader LetterBody
acknowledgement = do
  maker ← byte
  epoch ← short
  cursor ← long
  give (Acknowledgement maker epoch cursor)

-- what a letter says
unfoldable pub body : ℕ → Reader LetterBody
body v = do
  kind ← byte
  if kind == 1 then range v else if kind == 2 then snapshot v else if kind == 3 then acknowledgement else refuse

-- what follows the edition, as far as it is within its ranges
unfoldable pub content : ℕ → ℕ → Reader LetterValue
content v edition = do
  site ← byte
  epoch ← short
  said ← body v
  given (if_addressed (record { edition = edition; site = site; epoch = epoch; body = said }))

-- a letter that has all of the bytes
abbrev pub whole : Option (LetterValue × List ℕ) → Result LetterValue LetterFault
whole None = Err BadShape
whole (Some (l, [])) = Ok l
whole (Some (l, b ∷ bytes)) = Err BadShape

-- a letter of that edition, whose version and edition were judged, of so many bytes, with the rest of them
abbrev pub shaped : ℕ → ℕ → ℕ × List ℕ → List ℕ → Result LetterValue LetterFault
shaped v edition counted rest =
    if (length counted.1 == counted.0) && nat_le counted.0 longest_letter then whole (content v edition rest) else Err BadShape

-- the edition is that, and the rest a letter's
abbrev pub of_edition : ℕ → ℕ → ℕ × List ℕ → Option (ℕ × List ℕ) → Result LetterValue LetterFault
of_edition v edition counted None = Err BadShape
of_edition v edition counted (Some x) = if x.0 == edition then shaped v edition counted x.1 else Err BadEdition

-- the version is one of those that are read
abbrev pub of_version : ℕ → ℕ × List ℕ → Option (ℕ × List ℕ) → Result LetterValue LetterFault
of_version edition counted None = Err BadShape
of_version edition counted (Some x) = if is_within 1 letter_version x.0 then of_edition x.0 edition counted (word x.1) else Err BadVersion

-- behind the number of bytes
abbrev pub of_length : ℕ → Option (ℕ × List ℕ) → Result LetterValue LetterFault
of_length edition None = Err BadShape
of_length edition (Some counted) = of_version edition counted (byte counted.1)

-- The letter of that edition that the bytes are, or the first fault: the version is judged before the edition, and both before the number of
-- bytes and what else they say.
unfoldable pub letter_of : ℕ → List ℕ → Result LetterValue LetterFault
letter_of edition bytes = of_length edition (word bytes)

-- ---- what a call returned

-- a call may fail so: for want of memory in place of anything
abbrev pub Fails : LetterFault → Result LetterValue LetterFault → Type 0
Fails NoMemory read = Unit {0}
Fails fault read = read ≡ Err fault

-- what a call returned is what reading gives, unless memory ran out
abbrev pub Gives : {X : Type 0} → (X → LetterValue) → Result X LetterFault → Result LetterValue LetterFault → Type 0
Gives view (Ok x) read = read ≡ Ok (view x)
Gives view (Err e) read = Fails e read
