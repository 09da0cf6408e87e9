use Rattle.std.proofs.Common.{length, slice_index}
use Rattle.pcrf_prog.proofs.staying.serving.run_staying.Given as goal

-- the site and the seats that were just made
abbrev pub ghosts-serve_living : goal.ghosts-serve_living
ghosts-serve_living types a = record { seats = length a.roster.seats; name_of = λ k. slice_index a.roster.seats k; keeper = a.roster.keeper; opening = a.site.state }
