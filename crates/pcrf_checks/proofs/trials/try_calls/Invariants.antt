use Rattle.pcrf_checks.proofs.trials.try_calls.Given as goal

abbrev pub ghosts-try_seats : goal.ghosts-try_seats
ghosts-try_seats types a = record { name = a.blank.name; parts = a.blank.parts }
