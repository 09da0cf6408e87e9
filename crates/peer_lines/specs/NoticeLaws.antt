-- Laws of notices: what is written of them is read.
use Rattle.std.specs.Prelude.{◌≡◌, ℕ, ◌+◌, ◌<◌, ◌≤◌, List, [], ◌∷◌, ◌++◌, length, Some, None}
use Rattle.std.specs.List.{concat}
use Rattle.std.specs.List.Sorted.{IsStrictlySortedBy}
use Rattle.pcrf_values.specs.Limits.{identity_limit}
use Rattle.pcrf_values.specs.Orders.{text_cmp}
use Rattle.peer_lines.specs.Notices.{TellsAll, frames_of, hear_first, heard_within, length_width, most_hosts, most_said}

-- the name of a host has a length that it may have
abbrev pub IsHost : List ℕ → Type 0
IsHost host = (0 < length host) × (length host ≤ identity_limit)

-- each of them has
abbrev pub AreHosts : List (List ℕ) → Type 0
AreHosts [] = Unit {0}
AreHosts (host ∷ hosts) = IsHost host × AreHosts hosts

-- each notice has a length that is read
abbrev pub AreRead : List (List ℕ) → Type 0
AreRead [] = Unit {0}
AreRead (frame ∷ frames) = (length frame ≤ length_width + most_said) × AreRead frames

-- each notice that tells of hosts has a length that is read
abbrev pub NoticesFit : Type 0
NoticesFit = (hosts : List (List ℕ)) → AreHosts hosts → AreRead (frames_of hosts)

-- What is told of hosts is heard, these and no others, and then what is heard of all that stands behind it.
abbrev pub WhatIsToldIsHeard : Type 0
WhatIsToldIsHeard = (hosts : List (List ℕ)) (rest : List ℕ) (n : ℕ) → AreHosts hosts → IsStrictlySortedBy text_cmp hosts → length hosts ≤ most_hosts
    → heard_within (length (frames_of hosts) + n) None (concat (frames_of hosts) ++ rest) ≡ hear_first (Some (TellsAll hosts)) (heard_within n None rest)
