-- What writing leaves on a sealed link.
use Rattle.std.specs.Prelude.{◌≡◌, ℕ, ◌+◌, ◌<◌, ◌≤◌, List, ◌++◌, All, length, Option}
use Rattle.std.specs.List.{concat}
use Rattle.std.specs.Io.KnownBytes.{Appends}
use Rattle.peer_lines.specs.Limits.{most_piece}
use Rattle.peer_lines.specs.Records.{after, records_of}
use Rattle.peer_lines.specs.declared.sealed.course.Course.{Course}

-- a piece that a record may have
abbrev pub IsPiece : List ℕ → Type 0
IsPiece piece = (0 < length piece) × (length piece ≤ most_piece)

-- The bytes were cut into pieces, and the records of these were written behind what was known, each at its position.
abbrev pub WritesRecords : Option (List ℕ) → Option (List ℕ) → Course → Course → List ℕ → Type 0
WritesRecords old new c d bytes =
    (pieces : List (List ℕ)) × (concat pieces ≡ bytes) × All IsPiece pieces × Appends old new (records_of c pieces) × (d ≡ after c (length pieces))
