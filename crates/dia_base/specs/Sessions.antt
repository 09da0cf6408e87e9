-- The session that a request is of (Session-Id, RFC 6733, 8.8).
use Rattle.pcrf_values.specs.Limits.{session_id_limit}
use Rattle.dia_base.specs.Avps.{session_id}
use Rattle.dia_base.specs.Rows.{Row, required, text_to}

-- Session-Id
abbrev pub session_row : Row
session_row = required session_id (text_to session_id_limit)
