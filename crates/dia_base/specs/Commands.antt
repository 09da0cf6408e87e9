-- Command-Codes by their names in the standards.
use Rattle.std.specs.Prelude.{ℕ}

-- AA-Request and AA-Answer of Rx (TS 29.214, 5.6.1)
abbrev pub aa_command : ℕ
aa_command = 265

-- Abort-Session of Rx (TS 29.214, 5.6.7)
abbrev pub abort_session_command : ℕ
abort_session_command = 274

-- Credit-Control (RFC 8506, 3; TS 29.212, 5.6.2)
abbrev pub credit_control_command : ℕ
credit_control_command = 272

-- Session-Termination of Rx (TS 29.214, 5.6.4)
abbrev pub session_termination_command : ℕ
session_termination_command = 275
