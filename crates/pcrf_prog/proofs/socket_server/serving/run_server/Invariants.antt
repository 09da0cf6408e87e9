use Rattle.pcrf_prog.proofs.socket_server.serving.run_server.Given as goal

abbrev pub ghosts-serve_locked : goal.ghosts-serve_locked
ghosts-serve_locked types a = record { name = a.blank.name; parts = a.blank.parts }
