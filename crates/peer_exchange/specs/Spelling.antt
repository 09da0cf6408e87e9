-- The spellings of a letter in bytes, one for each version that has what it says (this project's profile): four bytes with the number of those that follow; then the version, the
-- edition of the sender's operator tables, the sender, its epoch, and what the letter says.
use Rattle.std.specs.Prelude.{ℕ, List, [], ◌∷◌, ◌++◌, length}
use Rattle.std.specs.List.{flat_map}
use Rattle.pcrf_values.specs.Facts.{Fact}
use Rattle.pcrf_model.specs.Sessions.{Session, kind_number}
use Rattle.pcrf_model.specs.Operations.{Operation}
use Rattle.pcrf_model.specs.Letters.{LetterBody, Range, Snapshot, Acknowledgement, LetterValue}
use Rattle.fact_codec.specs.Spelling.{short_bytes, word_bytes, long_bytes, text_bytes, facts_bytes, held_facts_bytes}
use Rattle.site_join.specs.Groups.{Group, groups_of_facts}
use Rattle.peer_exchange.specs.Limits.{letter_version}

-- a session by its kind and its Session-Id
abbrev pub session_bytes : Session → List ℕ
session_bytes s = kind_number s.kind ∷ [] ++ text_bytes s.id

-- a session with facts on it
unfoldable pub group_bytes : Session → List Fact → List ℕ
group_bytes s fs = session_bytes s ++ facts_bytes fs

-- an operation: its stamp, its number, and the facts on its session
unfoldable pub operation_bytes : Operation → List ℕ
operation_bytes o = long_bytes o.counter ++ o.site ∷ [] ++ word_bytes o.number ++ group_bytes o.session o.facts

-- operations, and before them how many they are
abbrev pub operations_bytes : List Operation → List ℕ
operations_bytes os = word_bytes (length os) ++ flat_map operation_bytes os

-- what a state holds of a session
unfoldable pub held_group_bytes : Group → List ℕ
held_group_bytes g = session_bytes g.0 ++ held_facts_bytes g.1

-- what a state holds session by session, and before it of how many
abbrev pub groups_bytes : List Group → List ℕ
groups_bytes gs = word_bytes (length gs) ++ flat_map held_group_bytes gs

-- a whole state by its clock, the length of a log, and what it holds
abbrev pub held_bytes : ℕ → ℕ → List Group → List ℕ
held_bytes clock n gs = 2 ∷ [] ++ long_bytes clock ++ long_bytes n ++ groups_bytes gs

-- what a letter says, by its kind
abbrev pub body_bytes : LetterBody → List ℕ
body_bytes (Range from os) = 1 ∷ [] ++ long_bytes from ++ operations_bytes os
body_bytes (Snapshot h n) = held_bytes h.clock n (groups_of_facts h.facts)
body_bytes (Acknowledgement m e c) = 3 ∷ m ∷ [] ++ short_bytes e ++ long_bytes c

-- what stands before it in a letter of version v
abbrev pub head_bytes : ℕ → LetterValue → List ℕ
head_bytes v l = v ∷ [] ++ word_bytes l.edition ++ l.site ∷ [] ++ short_bytes l.epoch

-- a letter without its length
unfoldable pub letter_bytes_in : ℕ → LetterValue → List ℕ
letter_bytes_in v l = head_bytes v l ++ body_bytes l.body

-- a letter
unfoldable pub spelling_in : ℕ → LetterValue → List ℕ
spelling_in v l = word_bytes (length (letter_bytes_in v l)) ++ letter_bytes_in v l

-- both as they are written
abbrev pub letter_bytes : LetterValue → List ℕ
letter_bytes = letter_bytes_in letter_version

abbrev pub spelling : LetterValue → List ℕ
spelling = spelling_in letter_version
