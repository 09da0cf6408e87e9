use Rattle.std.proofs.Common.{length, slice_index}
use Rattle.pcrf_checks.proofs.measures.living.measure_living.Given as goal

-- the site and the seat that were just made
abbrev pub ghosts-time_living : goal.ghosts-time_living
ghosts-time_living g a = record { seats = length a.roster.seats; name_of = λ k. slice_index a.roster.seats k; keeper = a.roster.keeper; opening = a.site.state }
