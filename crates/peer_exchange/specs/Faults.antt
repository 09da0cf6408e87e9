-- Faults of parts of a letter as faults of a letter.
use Rattle.fact_codec.specs.declared.fault.Unread.{Unread}
use Rattle.fact_codec.specs.declared.fault.Unread.TheVariants as unread
use Rattle.fact_codec.specs.declared.fault.Unwritten.{Unwritten}
use Rattle.fact_codec.specs.declared.fault.Unwritten.TheVariants as unwritten
use Rattle.peer_exchange.specs.declared.fault.LetterFault.{LetterFault}
use Rattle.peer_exchange.specs.declared.fault.LetterFault.TheVariants.{BadShape, TooLong, NoMemory}

-- of what was not read
abbrev pub of_reading : Unread → LetterFault
of_reading unread.BadShape = BadShape
of_reading unread.NoMemory = NoMemory

-- of what was not written
abbrev pub of_writing : Unwritten → LetterFault
of_writing unwritten.TooLong = TooLong
of_writing unwritten.NoMemory = NoMemory
