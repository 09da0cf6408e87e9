use Rattle.std.proofs.Common.{length, slice_index}
use Rattle.pcrf_tests.proofs.living.threads.eight_threads_leave_what_one_leaves.Given as goal

-- the site and the seats that were just made
abbrev pub ghosts-left_by_threads : goal.ghosts-left_by_threads
ghosts-left_by_threads g a = record { seats = length a.roster.seats; name_of = λ k. slice_index a.roster.seats k; keeper = a.roster.keeper; opening = a.site.state }

-- the ledger that was just made
abbrev pub ghosts-left_by_one : goal.ghosts-left_by_one
ghosts-left_by_one g a = record { name = a.blank.name; parts = a.blank.parts }
