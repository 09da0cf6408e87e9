use Rattle.pcrf_tests.proofs.locks.many_calls.eight_threads_make_one_history.Given as goal

abbrev pub ghosts-eight_threads : goal.ghosts-eight_threads
ghosts-eight_threads g a = record { name = a.blank.name; parts = a.blank.parts }
