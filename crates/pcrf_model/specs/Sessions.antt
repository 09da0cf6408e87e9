-- Sessions: of the gateway (Gx, TS 29.212) and of the application function (Rx, TS 29.214).
use Rattle.std.specs.Prelude.{ℕ, Bool, true, false, List}
use Rattle.std.proofs.Common.{Ordering}
use Rattle.std.specs.Ordering.{nat_cmp, on}
use Rattle.pcrf_values.specs.Orders.{pair_cmp, text_cmp}

-- which interface the session is of
pub data Kind : Type 0 where
  Gx Af : Kind

-- a kind and a Session-Id (RFC 6733, 8.8: eternally unique)
pub record Session : Type 0 where
  pub kind : Kind
  pub id : List ℕ

-- a session of the gateway
abbrev pub gx : List ℕ → Session
gx id = record { kind = Gx; id = id }

-- a session of the application function
abbrev pub af : List ℕ → Session
af id = record { kind = Af; id = id }

-- it is of the gateway
abbrev pub is_gx : Kind → Bool
is_gx Gx = true
is_gx Af = false

-- the number of the kind in letters
abbrev pub kind_number : Kind → ℕ
kind_number Gx = 1
kind_number Af = 2

-- Gx sessions first; then by Session-Id, as bytes (this project's profile)
abbrev pub session_cmp : Session → Session → Ordering
session_cmp = on (λ s. (kind_number s.kind, s.id)) (pair_cmp nat_cmp text_cmp)
