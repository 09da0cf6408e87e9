-- How long messages and names are, and how much room there is.
use Rattle.std.specs.Prelude.{ℕ, ◌+◌, ◌^◌}

-- what a message takes beside its own bytes and those of its key
abbrev pub entry_bytes : ℕ
entry_bytes = 256

-- the most bytes of a host's name
abbrev pub longest_name : ℕ
longest_name = 255

-- the most bytes of a Session-Id
abbrev pub longest_session : ℕ
longest_session = 512

-- and of a key: a Session-Id and two hosts
abbrev pub longest_key : ℕ
longest_key = longest_session + longest_name + longest_name

-- the most bytes of a message (RFC 6733, 3)
abbrev pub longest_kept : ℕ
longest_kept = 2 ^ 24

-- the most room that there is
abbrev pub most_room : ℕ
most_room = 2 ^ 32

-- what a header has (RFC 6733, 3)
abbrev pub header_bytes : ℕ
header_bytes = 20
