-- Answers to the requests that a site makes of a session, as they are read: re-authorisation answers (TS 29.212, 5.6.5) and abort
-- session answers (TS 29.214, 5.6.8).
use Rattle.std.specs.Prelude.{ℕ, List, [], ◌∷◌, Option, Some, None, option_map, unwrap_or}
use Rattle.pcrf_values.specs.declared.refusal.Refusal.{Refusal}
use Rattle.dia_codec.specs.Fields.{AvpValue}
use Rattle.dia_codec.specs.Reading.{avps_of}
use Rattle.dia_base.specs.Avps.{session_id, result_code, experimental_result, experimental_result_code}
use Rattle.dia_base.specs.Rows.{Kind, Row, optional, unsigned32, grouped, value_of, number_at, text_at, rows_refusal}
use Rattle.dia_base.specs.Sessions.{session_row}
use Rattle.dia_base.specs.declared.session_answer.SessionAnswer.{SessionAnswer}

-- ---- the table

-- an Experimental-Result (RFC 6733, 7.6): what this profile reads of it is its Experimental-Result-Code
abbrev pub experimental_rows : List Row
experimental_rows = optional experimental_result_code unsigned32 ∷ []

abbrev pub experimental : Kind
experimental = grouped experimental_rows

-- the row of an Experimental-Result
abbrev pub experimental_row : Row
experimental_row = optional experimental_result experimental

-- this project's profile of such an answer, in the order in which the rows are judged
abbrev pub session_answer_rows : List Row
session_answer_rows = session_row ∷ optional result_code unsigned32 ∷ experimental_row ∷ []

-- the first refusal of its AVPs by its table
abbrev pub session_answer_refusal : List AvpValue → Option Refusal
session_answer_refusal avps = rows_refusal session_answer_rows avps

-- ---- what is read

-- the code in a group
abbrev pub code_in : Option (List AvpValue) → Option ℕ
code_in None = None
code_in (Some avps) = number_at experimental_result_code avps

abbrev pub code_of : List ℕ → Option ℕ
code_of value = code_in (avps_of value)

-- the Experimental-Result-Code, if there is one
abbrev pub experimental_at : List AvpValue → Option ℕ
experimental_at avps = unwrap_or (option_map code_of (value_of experimental_result avps)) None

-- what AVPs that aren't refused say
abbrev pub session_answer_of : List AvpValue → SessionAnswer
session_answer_of avps = record {
  session = text_at session_id avps;
  result = number_at result_code avps;
  experimental = experimental_at avps;
}
