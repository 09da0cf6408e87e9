-- HMAC-SHA-256 (RFC 2104 with the hash of FIPS 180-4), on lists of bytes.
use Rattle.std.specs.Prelude.{ℕ, ◌-◌, ◌==◌, ◌&&◌, Bool, true, false, nat_lt, bit_xor, List, [], ◌∷◌, ◌++◌, length, map, replicate, if◌then◌else◌}
use Rattle.sha2.specs.Sha256.{sha256}

-- how many bytes a block of the hash has (RFC 2104, 2: B)
abbrev pub block_bytes : ℕ
block_bytes = 64

-- what stands for a key: its digest where it is longer than a block
abbrev pub short_key : List ℕ → List ℕ
short_key key = if nat_lt block_bytes (length key) then sha256 key else key

-- zeros behind it up to a block
abbrev pub padded : List ℕ → List ℕ
padded bytes = bytes ++ replicate (block_bytes - length bytes) 0

-- a key as a block (RFC 2104, 2: step 1)
abbrev pub block_of : List ℕ → List ℕ
block_of key = padded (short_key key)

-- a block with each byte combined with that of a mask (RFC 2104, 2: ipad and opad)
abbrev pub masked : ℕ → List ℕ → List ℕ
masked mask block = map (λ b. bit_xor b mask) block

-- the code of a message under a key that is a block (RFC 2104, 2: steps 2 to 7)
unfoldable pub code_under : List ℕ → List ℕ → List ℕ
code_under block message = sha256 (masked 0x5C block ++ sha256 (masked 0x36 block ++ message))

-- the code of a message under a key
abbrev pub hmac : List ℕ → List ℕ → List ℕ
hmac key message = code_under (block_of key) message

-- two lists of bytes are the same
abbrev pub same_bytes : List ℕ → List ℕ → Bool
same_bytes [] [] = true
same_bytes (x ∷ xs) (y ∷ ys) = (x == y) && same_bytes xs ys
same_bytes [] (y ∷ ys) = false
same_bytes (x ∷ xs) [] = false
