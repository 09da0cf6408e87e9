-- How a fault ends a connection.
use Rattle.pcrf_serve.specs.declared.end.LinkEnd.{LinkEnd}
use Rattle.pcrf_serve.specs.declared.end.LinkEnd.TheVariants.{Frame, NoMemory, Letter, HistoryFull}
use Rattle.dia_codec.specs.declared.fault.FrameFault.{FrameFault}
use Rattle.dia_codec.specs.declared.fault.FrameFault.TheVariants as frame
use Rattle.peer_exchange.specs.declared.fault.FrameFault as stream
use Rattle.peer_exchange.specs.declared.fault.FrameFault.TheVariants as streams
use Rattle.peer_exchange.specs.declared.fault.LetterFault.{LetterFault}
use Rattle.peer_exchange.specs.declared.fault.LetterFault.TheVariants as letter
use Rattle.site_lock.specs.StepFault.{StepFault}
use Rattle.site_lock.specs.StepFault.TheVariants as step

-- that of a stream of messages
abbrev pub end_of_frame : FrameFault → LinkEnd
end_of_frame frame.ShortLength = Frame frame.ShortLength
end_of_frame frame.OddLength = Frame frame.OddLength
end_of_frame frame.TooLong = Frame frame.TooLong
end_of_frame frame.NoMemory = NoMemory

-- that of a stream of letters
abbrev pub end_of_letters : stream.FrameFault → LinkEnd
end_of_letters streams.TooLong = Letter letter.TooLong
end_of_letters streams.NoMemory = NoMemory

-- that of a letter
abbrev pub end_of_letter : LetterFault → LinkEnd
end_of_letter letter.BadVersion = Letter letter.BadVersion
end_of_letter letter.BadEdition = Letter letter.BadEdition
end_of_letter letter.BadShape = Letter letter.BadShape
end_of_letter letter.TooLong = Letter letter.TooLong
end_of_letter letter.NoMemory = NoMemory

-- that of an event which a site doesn't take
abbrev pub end_of_step : StepFault → LinkEnd
end_of_step step.HistoryFull = HistoryFull
end_of_step step.ClockFull = HistoryFull
end_of_step step.NoMemory = NoMemory
