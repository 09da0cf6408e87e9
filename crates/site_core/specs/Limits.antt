-- The most reads of a conversation, this project's own limit, as a number of its own: the law `read_limit_is_the_profiles` says that
-- the code's is this.
use Rattle.std.specs.Prelude.{ℕ}

-- a reader that gives no end is read so often, 2 ^ 40 times
abbrev pub most_reads : ℕ
most_reads = 1099511627776
