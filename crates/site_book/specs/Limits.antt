-- How large a book may be, this project's own limits, as numbers of their own: the law `limits_are_the_profiles` says that the code's
-- are these.
use Rattle.std.specs.Prelude.{ℕ}

-- the most seats
abbrev pub most_seats : ℕ
most_seats = 64

-- the most entries
abbrev pub most_entries : ℕ
most_entries = 1000000
