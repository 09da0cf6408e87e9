-- What is read of the head of a request (RFC 9112, sections 2 to 5), by the grammar of httparse.
use Rattle.std.specs.Prelude.{◌≡◌, ◌≤◌, ◌⊎◌, ℕ, List, ◌++◌, length, ⊤}
use Rattle.httparse.specs.Grammar.{HasNoRequest, ReadsRequest, RequestHead, print_request}
use Rattle.httparse.specs.Spans.{RequestExceeds}
use Rattle.site_status.specs.declared.head.TheConstants.{FIELD_LIMIT, HEAD_LIMIT}
use Rattle.site_status.specs.declared.head.Head.{Head}
use Rattle.site_status.specs.declared.head.Head.TheVariants.{Begun, Whole, TooLong, Malformed}

-- a whole head was read
abbrev pub IsWhole : Head → Type 0
IsWhole Begun = ⊥
IsWhole (Whole method target) = ⊤
IsWhole TooLong = ⊥
IsWhole Malformed = ⊥

-- if a whole head was read, this of its method and its target
abbrev pub IfWhole : Head → (List ℕ → List ℕ → Type 0) → Type 0
IfWhole Begun P = ⊤
IfWhole (Whole method target) P = P method.now target.now
IfWhole TooLong P = ⊤
IfWhole Malformed P = ⊤

-- a head within the limit stands at the front of the bytes, and has that method and that target
abbrev pub IsHeadOf : List ℕ → List ℕ → List ℕ → Type 0
IsHeadOf bytes method target =
    (head : RequestHead) × (rest : List ℕ) × ReadsRequest bytes head rest
    × (length (print_request head) ≤ HEAD_LIMIT) × (method ≡ head.method) × (target ≡ head.target)

-- no head stands at the front of the bytes yet, and something may follow that makes them begin with one of no more fields than one may have
abbrev pub IsPartOfHead : List ℕ → Type 0
IsPartOfHead bytes =
    HasNoRequest bytes
    × (more : List ℕ) × (head : RequestHead) × (rest : List ℕ) × ReadsRequest (bytes ++ more) head rest
    × (length head.fields ≤ FIELD_LIMIT)

-- there are as many bytes as a head may have, or, with an empty line behind some of them, a head of more fields than one may have
abbrev pub IsPastLimits : List ℕ → Type 0
IsPastLimits bytes = (HEAD_LIMIT ≤ length bytes) ⊎ RequestExceeds FIELD_LIMIT bytes
