use Rattle.std.proofs.Common.{length, slice_index}
use Rattle.pcrf_tests.proofs.living.epochs.who_waits_is_told_of_a_new_beginning.Given as goal

-- the site and the seats that were just made
abbrev pub ghosts-waits_across : goal.ghosts-waits_across
ghosts-waits_across g a = record { seats = length a.roster.seats; name_of = λ k. slice_index a.roster.seats k; keeper = a.roster.keeper; opening = a.site.state }
