use Rattle.pcrf_tests.proofs.living.counting.a_history_that_is_kept_becomes_full.Given as goal

-- the ledger that was just made
abbrev pub ghosts-kept_history : goal.ghosts-kept_history
ghosts-kept_history g a = record { name = a.blank.name; parts = a.blank.parts }
