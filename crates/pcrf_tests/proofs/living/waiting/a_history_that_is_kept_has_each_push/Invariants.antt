use Rattle.pcrf_tests.proofs.living.waiting.a_history_that_is_kept_has_each_push.Given as goal

-- the ledger that was just made
abbrev pub ghosts-found_locked : goal.ghosts-found_locked
ghosts-found_locked g a = record { name = a.blank.name; parts = a.blank.parts }
