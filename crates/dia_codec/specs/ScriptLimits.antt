-- Limits of scripts, as numbers of their own: the law `read_limit_is_the_profiles` says that the code's are these.
use Rattle.std.specs.Prelude.{ℕ}

-- how many reads a script may take, 2 ^ 40: this project's own limit
abbrev pub read_limit : ℕ
read_limit = 1099511627776
