-- What a sealed reader has left to give.
use Rattle.std.specs.Prelude.{ℕ, List, ◌++◌, Option}
use Rattle.std.specs.Option.{option_map}
use Rattle.std.specs.Io.KnownBytes.{prepend_known}
use Rattle.peer_lines.specs.Reading.{opened}
use Rattle.peer_lines.specs.declared.sealed.course.Course.{Course}

-- What was opened and not handed on, and then what is read of the record that was begun and of all that the reader below has left.
abbrev pub left : Course → List ℕ → List ℕ → Option (List ℕ) → Option (List ℕ)
left c begun ready rest = option_map (λ bytes. ready ++ opened c bytes) (prepend_known begun rest)
