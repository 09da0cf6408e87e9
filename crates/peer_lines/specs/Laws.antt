-- Laws of sealed links.
use Rattle.std.specs.Prelude.{◌≡◌, ℕ, ◌+◌, ◌≤◌, false, List, [], ◌++◌, All, length}
use Rattle.std.specs.List.{concat}
use Rattle.peer_lines.specs.Limits.{last_position}
use Rattle.peer_lines.specs.Reading.{is_right, opened}
use Rattle.peer_lines.specs.Records.{after, records_of}
use Rattle.peer_lines.specs.Writing.{IsPiece}
use Rattle.peer_lines.specs.declared.sealed.course.Course.{Course}

-- what was written is read, and then what is read of all that stands behind it
abbrev pub RecordsAreOpened : Type 0
RecordsAreOpened = (c : Course) (pieces : List (List ℕ)) (rest : List ℕ) → All IsPiece pieces → c.position + length pieces ≤ last_position
    → opened c (records_of c pieces ++ rest) ≡ concat pieces ++ opened (after c (length pieces)) rest

-- of what begins with no record that is right nothing is read
abbrev pub OthersAreNotOpened : Type 0
OthersAreNotOpened = (c : Course) (bytes : List ℕ) → is_right c bytes ≡ false → opened c bytes ≡ []
