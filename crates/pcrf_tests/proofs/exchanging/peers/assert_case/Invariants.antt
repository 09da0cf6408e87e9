use Rattle.pcrf_tests.proofs.exchanging.peers.assert_case.Given as goal

abbrev pub ghosts-assert_outcome : goal.ghosts-assert_outcome
ghosts-assert_outcome g a = record { name = a.blank.name; parts = a.blank.parts }
