-- Secrets as texts.
use Rattle.std.specs.Prelude.{◌≡◌, ℕ, ◌≤◌, List, length, Ok}
use Rattle.hex.specs.Hex.{decode_of}
use Rattle.peer_lines.specs.Hmac.{block_of}
use Rattle.peer_lines.specs.declared.sealed.secret.TheConstants as secret

-- how many bytes a secret has at least
abbrev pub least_secret : ℕ
least_secret = secret.LEAST_SECRET

-- the text is a secret in hexadecimal digits, and this is its key, as a block
abbrev pub IsSecret : List ℕ → List ℕ → Type 0
IsSecret text block = (bytes : List ℕ) × (decode_of text ≡ Ok bytes) × (least_secret ≤ length bytes) × (block ≡ block_of bytes)
