-- Session termination requests as they are read (TS 29.214, 5.6.4).
use Rattle.std.specs.Prelude.{List, ◌∷◌}
use Rattle.dia_codec.specs.Fields.{AvpValue}
use Rattle.pcrf_model.specs.Requests.{StrValue}
use Rattle.dia_base.specs.Avps.{session_id, origin_host, origin_realm}
use Rattle.dia_base.specs.Origins.{origin_rows}
use Rattle.dia_base.specs.Rows.{Row, text_at}
use Rattle.dia_base.specs.Sessions.{session_row}
use Rattle.rx_profile.specs.declared.termination.Str.{Str}

-- The request without where it lies in memory.
abbrev pub str_view : Str → StrValue
str_view q = record { session = q.session; host = q.origin.host; realm = q.origin.realm }

-- this project's profile of a session termination request, in the order in which the rows are judged
abbrev pub str_rows : List Row
str_rows = session_row ∷ origin_rows

-- what AVPs that aren't refused say
abbrev pub str_of : List AvpValue → StrValue
str_of avps = record {
  session = text_at session_id avps;
  host = text_at origin_host avps;
  realm = text_at origin_realm avps;
}
