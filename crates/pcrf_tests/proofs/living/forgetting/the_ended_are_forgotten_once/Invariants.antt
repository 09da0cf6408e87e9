use Rattle.std.proofs.Common.{length, slice_index}
use Rattle.pcrf_tests.proofs.living.forgetting.the_ended_are_forgotten_once.Given as goal

-- the site and the seats that were just made
abbrev pub ghosts-forgets_the_ended : goal.ghosts-forgets_the_ended
ghosts-forgets_the_ended g a = record { seats = length a.roster.seats; name_of = λ k. slice_index a.roster.seats k; keeper = a.roster.keeper; opening = a.site.state }
