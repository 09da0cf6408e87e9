-- The node that sent a request (RFC 6733, 6.3 and 6.4).
use Rattle.std.specs.Prelude.{List, [], ◌∷◌}
use Rattle.pcrf_values.specs.Limits.{identity_limit}
use Rattle.dia_base.specs.Avps.{origin_host, origin_realm}
use Rattle.dia_base.specs.Rows.{Row, required, text_to}

-- Origin-Host, and then Origin-Realm
abbrev pub origin_rows : List Row
origin_rows = required origin_host (text_to identity_limit) ∷ required origin_realm (text_to identity_limit) ∷ []
