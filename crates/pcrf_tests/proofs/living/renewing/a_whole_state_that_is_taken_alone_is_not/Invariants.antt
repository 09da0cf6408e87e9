use Rattle.std.proofs.Common.{length, slice_index}
use Rattle.pcrf_tests.proofs.living.renewing.a_whole_state_that_is_taken_alone_is_not.Given as goal

-- the site and the seats that were just made
abbrev pub ghosts-kept_after : goal.ghosts-kept_after
ghosts-kept_after g a = record { seats = length a.roster.seats; name_of = λ k. slice_index a.roster.seats k; keeper = a.roster.keeper; opening = a.site.state }
