-- How reads are counted, and what a writer that fails in mid-stream leaves.
use Rattle.std.specs.Prelude.{ℕ, ◌-◌, ◌^◌, Bool, ◌&&◌, ◌==◌, nat_lt, List, Option, take}
use Rattle.std.specs.Io.KnownBytes.{Appends}

-- where the number of reads stops, as `u64::MAX`
abbrev pub most_calls : ℕ
most_calls = 2 ^ 64 - 1

-- a read that gave so many bytes where there was room for so many has found the end
abbrev pub is_end : ℕ → ℕ → Bool
is_end count room = count == 0 && nat_lt 0 room

-- known bytes grow by some first part of bs
abbrev pub AppendsPart : Option (List ℕ) → Option (List ℕ) → List ℕ → Type 0
AppendsPart old new bs = (n : ℕ) × Appends old new (take n bs)
