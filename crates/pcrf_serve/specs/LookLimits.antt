-- How many sessions are gone through at once.
use Rattle.std.specs.Prelude.{ℕ}
use Rattle.pcrf_serve.specs.declared.taking.TheConstants as constants

-- for how many there are requests at most
abbrev pub piece : ℕ
piece = constants.PIECE
