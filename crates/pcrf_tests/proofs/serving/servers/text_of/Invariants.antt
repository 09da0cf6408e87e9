use Rattle.pcrf_tests.proofs.serving.servers.text_of.Given as goal

abbrev pub ghosts-serve : goal.ghosts-serve
ghosts-serve g a = record { name = a.blank.name; parts = a.blank.parts }
