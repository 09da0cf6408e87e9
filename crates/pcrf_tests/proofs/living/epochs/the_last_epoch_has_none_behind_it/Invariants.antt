use Rattle.std.proofs.Common.{length, slice_index}
use Rattle.pcrf_tests.proofs.living.epochs.the_last_epoch_has_none_behind_it.Given as goal

-- the site and the seats that were just made
abbrev pub ghosts-until_the_last : goal.ghosts-until_the_last
ghosts-until_the_last g a = record { seats = length a.roster.seats; name_of = λ k. slice_index a.roster.seats k; keeper = a.roster.keeper; opening = a.site.state }
