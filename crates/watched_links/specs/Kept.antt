-- Messages that are kept, the newest first.
use Rattle.std.specs.Prelude.{◌≡◌, ℕ, suc, ◌+◌, ◌*◌, ◌≤◌, ◌<◌, Bool, nat_lt, List, [], ◌∷◌, ◌++◌, length, take, drop, Option, Some, None, option_and_then, if◌then◌else◌}
use Rattle.std.specs.List.{sum_by, find}
use Rattle.dia_codec.specs.Written.{word_bytes}
use Rattle.watched_links.specs.Keys.{same_key}
use Rattle.watched_links.specs.Limits.{entry_bytes}
use Rattle.watched_links.specs.declared.message.MessageKey.{MessageKey}
use Rattle.watched_links.specs.declared.message.RecentMessage.{RecentMessage}

-- ---- how much room a message takes

-- the bytes of what it is found by, which is there twice
abbrev pub key_bytes : MessageKey → ℕ
key_bytes k = length k.session.items + length k.host.items + length k.peer.items

abbrev pub size_of : RecentMessage → ℕ
size_of m = entry_bytes + 2 * key_bytes m.key + length m.bytes.items

abbrev pub total_of : List RecentMessage → ℕ
total_of = sum_by size_of

-- the newest of all that have room, and as many as have
abbrev pub IsShed : ℕ → List RecentMessage → List RecentMessage → Type 0
IsShed room all kept =
    (kept ≡ take (length kept) all) × (total_of kept ≤ room)
    × (length kept < length all → room < total_of (take (length kept + 1) all))

-- ---- how one is found

-- the newest that has that key
abbrev pub newest_of : MessageKey → List RecentMessage → Option RecentMessage
newest_of key kept = find (λ m. same_key m.key key) kept

-- the message, if it is kept from a time behind that one
abbrev pub bytes_behind : ℕ → RecentMessage → Option (List ℕ)
bytes_behind behind m = if nat_lt behind m.at then Some m.bytes.items else None

-- the newest that has that key, if it is kept from a time behind that one
abbrev pub found_of : MessageKey → ℕ → List RecentMessage → Option (List ℕ)
found_of key behind kept = option_and_then (bytes_behind behind) (newest_of key kept)

-- at which place it stands, where the newest of all is at that one, and each other one behind the one that came after it
abbrev pub newest_at : ℕ → MessageKey → List RecentMessage → Option ℕ
newest_at first key [] = None
newest_at first key (m ∷ kept) = if same_key m.key key then Some first else newest_at (suc first) key kept

-- ---- identifiers

-- the same bytes with another Hop-by-Hop Identifier
abbrev pub with_hop_id : ℕ → List ℕ → List ℕ
with_hop_id hop_id message = take 12 message ++ word_bytes hop_id ++ drop 16 message
