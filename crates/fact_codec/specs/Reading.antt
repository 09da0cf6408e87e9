-- Readers of bytes: what stands at the front, and what follows it; none where it is not spelled so.
use Rattle.std.specs.Prelude.{◌≡◌, ℕ, zero, suc, List, [], ◌∷◌, length, take, drop, nat_lt, nat_eq, if◌then◌else◌}
use Rattle.std.specs.Prelude.{Option, Some, None, Result, Ok, Err}
use Rattle.std.specs.Int.{Width, w16, w32, w64, byte_len, from_be_bytes}
use Rattle.fact_codec.specs.declared.fault.Unread.{Unread}
use Rattle.fact_codec.specs.declared.fault.Unread.TheVariants.{BadShape, NoMemory}

-- a value, and the bytes after it
abbrev pub Reader : Type 0 → Type 0
Reader A = List ℕ → Option (A × List ℕ)

-- ---- readers of readers

-- what was read decides what is read of the rest
abbrev pub go_on : {A B : Type 0} → Option (A × List ℕ) → (A → Reader B) → Option (B × List ℕ)
go_on None f = None
go_on (Some x) f = f x.0 x.1

-- the one after the other, by which a `do` goes on
infixl 10 ◌>>=◌
abbrev pub ◌>>=◌ : {A B : Type 0} → Reader A → (A → Reader B) → Reader B
r >>= f = λ bytes. go_on (r bytes) f

-- the value, of no byte
abbrev pub give : {A : Type 0} → A → Reader A
give x bytes = Some (x, bytes)

-- no value
abbrev pub refuse : {A : Type 0} → Reader A
refuse bytes = None

-- the value, if there is one
abbrev pub given : {A : Type 0} → Option A → Reader A
given None bytes = None
given (Some x) bytes = Some (x, bytes)

-- so many values, one after another
unfoldable pub many : {A : Type 0} → Reader A → ℕ → Reader (List A)
many r zero = give []
many r (suc n) = do
  x ← r
  xs ← many r n
  give (x ∷ xs)

-- the first of the rows that has the number
abbrev pub row_with : {A : Type 0} → (A → ℕ) → List A → ℕ → Option A
row_with number [] n = None
row_with number (x ∷ xs) n = if nat_eq n (number x) then Some x else row_with number xs n

-- ---- numbers and texts

-- one byte
unfoldable pub byte : Reader ℕ
byte [] = None
byte (b ∷ bytes) = Some (b, bytes)

-- a number of so many bytes, big-endian
abbrev pub number : Width → Reader ℕ
number w bytes = if nat_lt (length bytes) (byte_len w) then None else Some (from_be_bytes w (take (byte_len w) bytes), drop (byte_len w) bytes)

-- of two, four and eight
unfoldable pub short : Reader ℕ
short bytes = number w16 bytes

unfoldable pub word : Reader ℕ
word bytes = number w32 bytes

unfoldable pub long : Reader ℕ
long bytes = number w64 bytes

-- so many bytes
unfoldable pub exactly : ℕ → Reader (List ℕ)
exactly n bytes = if nat_lt (length bytes) n then None else Some (take n bytes, drop n bytes)

-- ---- what a call returned

-- a call may fail so: for want of memory in place of anything
abbrev pub Fails : {Y : Type 0} → Unread → Option Y → Type 0
Fails BadShape read = read ≡ None
Fails NoMemory read = Unit {0}

-- what a call returned, seen by view, is what reading gives, unless memory ran out
abbrev pub Gives : {X Y : Type 0} → (X → Y) → Result X Unread → Option Y → Type 0
Gives view (Ok x) read = read ≡ Some (view x)
Gives view (Err e) read = Fails e read
