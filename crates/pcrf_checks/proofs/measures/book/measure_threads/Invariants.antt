use Rattle.pcrf_checks.proofs.measures.book.measure_threads.Given as goal

abbrev pub ghosts-time_locked : goal.ghosts-time_locked
ghosts-time_locked g a = record { name = a.blank.name; parts = a.blank.parts }
