use Rattle.std.proofs.Common.{length, slice_index}
use Rattle.pcrf_tests.proofs.living.growing.a_growing_site_wakes_who_waits.Given as goal

-- the site and the seats that were just made
abbrev pub ghosts-woken : goal.ghosts-woken
ghosts-woken g a = record { seats = length a.roster.seats; name_of = λ k. slice_index a.roster.seats k; keeper = a.roster.keeper; opening = a.site.state }
