-- Parts of a filter as they are written.
use Rattle.std.specs.Prelude.{ℕ, List, [], ◌∷◌, ◌++◌, Option, Some, None}
use Rattle.gx_profile.specs.Filters.{EndpointValue}
use Rattle.gx_profile.specs.Words.{space, text_of}

-- an address, and ports behind it
abbrev pub with_ports_text : List ℕ → Option (List ℕ) → List ℕ
with_ports_text address None = address
with_ports_text address (Some ports) = address ++ (space ∷ ports)

abbrev pub endpoint_text : EndpointValue → List ℕ
endpoint_text e = with_ports_text e.address e.ports

-- options, each behind a space
abbrev pub options_text : List (List ℕ) → List ℕ
options_text [] = []
options_text (word ∷ words) = space ∷ text_of (word ∷ words)
