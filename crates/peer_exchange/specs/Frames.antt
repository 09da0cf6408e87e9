-- Frames of letters in a stream: four bytes with a number, big-endian, and so many bytes (this project's profile).
use Rattle.std.specs.Prelude.{◌≡◌, ℕ, zero, suc, refl, ◌+◌, ◌≤◌, List, [], ◌∷◌, length, take, drop, get_or}
use Rattle.std.specs.Prelude.{Option, Some, None, Result, Ok, Err, nat_lt, if◌then◌else◌}
use Rattle.std.specs.Coded.{Coded, code_by, coded×, coded_list, coded_option, coded_ℕ}
use Rattle.std.specs.Int.{w32, from_be_bytes}
use Rattle.peer_exchange.specs.declared.fault.FrameFault.{FrameFault}
use Rattle.peer_exchange.specs.declared.fault.FrameFault.TheVariants.{TooLong, NoMemory}
use Rattle.peer_exchange.specs.Limits.{length_bytes, longest_letter}

-- how many bytes the letter has at the front of which these stand
unfoldable pub body_length : List ℕ → ℕ
body_length bytes = from_be_bytes w32 (get_or bytes 0 0 ∷ get_or bytes 1 0 ∷ get_or bytes 2 0 ∷ get_or bytes 3 0 ∷ [])

-- the bytes are one frame: the number of the letter's bytes, and these
pub record IsFrame (bytes : List ℕ) : Type 0 where
  pub whole : length bytes ≡ length_bytes + body_length bytes
  pub most : body_length bytes ≤ longest_letter

-- the first frame and what follows it, none where it is not whole, or that its letter is too long, which is judged once its first four bytes are there
unfoldable pub front_of : List ℕ → Result (Option (List ℕ × List ℕ)) FrameFault
front_of bytes =
    if nat_lt (length bytes) length_bytes then Ok None else
    if nat_lt longest_letter (body_length bytes) then Err TooLong else
    if nat_lt (length bytes) (length_bytes + body_length bytes) then Ok None else
    Ok (Some (take (length_bytes + body_length bytes) bytes, drop (length_bytes + body_length bytes) bytes))

-- ---- what an assembler holds

-- what was fed and not yet handed out, and the fault that was answered
pub record Pending : Type 0 where
  pub bytes : List ℕ
  pub fault : Option FrameFault

-- a fault by a number, as an encoding asks
abbrev pub fault_number : FrameFault → ℕ
fault_number TooLong = 0
fault_number NoMemory = 1

-- the fault of a number
abbrev pub fault_at : ℕ → FrameFault
fault_at zero = TooLong
fault_at (suc n) = NoMemory

-- a fault is that of its number
pub fault_back : (f : FrameFault) → fault_at (fault_number f) ≡ f
fault_back TooLong = refl
fault_back NoMemory = refl

-- a fault's encoding
abbrev pub fault_code : Coded FrameFault
fault_code = code_by ℕ coded_ℕ fault_number fault_at fault_back

-- the encoding of what an assembler holds
abbrev pub pending_code : Coded Pending
pending_code = code_by (List ℕ × Option FrameFault) (coded× (coded_list coded_ℕ) (coded_option fault_code))
    (λ p. (p.bytes, p.fault)) (λ p. record { bytes = p.0; fault = p.1 }) (λ _. refl)
