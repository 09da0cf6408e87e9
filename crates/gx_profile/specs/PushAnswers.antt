-- Re-authorisation answers as they are read (TS 29.212, 5.6.5).
use Rattle.dia_base.specs.declared.session_answer.SessionAnswer.{SessionAnswer}
use Rattle.gx_profile.specs.declared.raa.Raa.{Raa}

-- the answer, of whatever session
abbrev pub raa_view : Raa → SessionAnswer
raa_view a = record { session = a.session; result = a.result; experimental = a.experimental }
