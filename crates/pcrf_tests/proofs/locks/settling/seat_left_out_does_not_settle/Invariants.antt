use Rattle.pcrf_tests.proofs.locks.settling.seat_left_out_does_not_settle.Given as goal

abbrev pub ghosts-seat_left_out : goal.ghosts-seat_left_out
ghosts-seat_left_out g a = record { name = a.blank.name; parts = a.blank.parts }
