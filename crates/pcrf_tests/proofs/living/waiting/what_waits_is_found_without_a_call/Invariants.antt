use Rattle.std.proofs.Common.{length, slice_index}
use Rattle.pcrf_tests.proofs.living.waiting.what_waits_is_found_without_a_call.Given as goal

-- the site and the seats that were just made
abbrev pub ghosts-found_waiting : goal.ghosts-found_waiting
ghosts-found_waiting g a = record { seats = length a.roster.seats; name_of = λ k. slice_index a.roster.seats k; keeper = a.roster.keeper; opening = a.site.state }
