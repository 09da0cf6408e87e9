use Rattle.std.proofs.Common.{length, slice_index}
use Rattle.pcrf_tests.proofs.living.counting.no_call_is_refused_for_a_full_history.Given as goal

-- the site and the seats that were just made
abbrev pub ghosts-living_history : goal.ghosts-living_history
ghosts-living_history g a = record { seats = length a.roster.seats; name_of = λ k. slice_index a.roster.seats k; keeper = a.roster.keeper; opening = a.site.state }
