-- What is UTF-8 and what isn't, as a test.
use Rattle.std.proofs.Common.{◌≡◌, ℕ, true, false, List, sym}
use Rattle.std.specs.Str.{IsUtf8, is_utf8}
use Rattle.std.proofs.lemmas.Bool.{false_from_ne_true}
use Rattle.std.proofs.lemmas.Str.{IsUtf8-from_is_utf8, is_utf8-from_IsUtf8}

pub is_text : (bytes : List ℕ) → IsUtf8 bytes → true ≡ is_utf8 bytes
is_text bytes is = sym (is_utf8-from_IsUtf8 bytes is)

pub is_no_text : (bytes : List ℕ) → ¬ (IsUtf8 bytes) → false ≡ is_utf8 bytes
is_no_text bytes isnt = sym (false_from_ne_true _ (λ is. isnt (IsUtf8-from_is_utf8 bytes is)))
