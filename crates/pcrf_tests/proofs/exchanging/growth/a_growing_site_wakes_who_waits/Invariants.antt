use Rattle.pcrf_tests.proofs.exchanging.growth.a_growing_site_wakes_who_waits.Given as goal

abbrev pub ghosts-growing : goal.ghosts-growing
ghosts-growing g a = record { name = a.blank.name; parts = a.blank.parts }
