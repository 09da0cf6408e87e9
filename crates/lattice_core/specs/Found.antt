-- What stands at a position.
use Rattle.std.specs.Prelude.{◌≡◌, List, Option, Some, None}
use Rattle.pcrf_values.specs.Sets.{In}
use Rattle.pcrf_values.specs.Places.{Position}
use Rattle.pcrf_values.specs.Values.{Entry}
use Rattle.pcrf_values.specs.Facts.{Fact, position, entry}

-- the fact there, or none where there is none
abbrev pub IsFound : Position → List Fact → Option Fact → Type 0
IsFound p zs None = (f : Fact) → In f zs → position f ≡ p → ⊥
IsFound p zs (Some f) = In f zs × (position f ≡ p)

-- what it says
abbrev pub entry_found : Option Fact → Option Entry
entry_found None = None
entry_found (Some f) = entry f
