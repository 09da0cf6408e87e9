use Rattle.pcrf_tests.proofs.living.renewing.a_whole_state_is_renewed_at_a_site_whose_history_is_kept.Given as goal

abbrev pub ghosts-kept_by_locked : goal.ghosts-kept_by_locked
ghosts-kept_by_locked g a = record { name = a.blank.name; parts = a.blank.parts }
