-- Sessions by name, of either kind.
use Rattle.pcrf_model.specs.Sessions.{Session, gx, af}
use Rattle.indexed_state.specs.declared.ended.AnySid.{AnySid}
use Rattle.indexed_state.specs.declared.ended.AnySid.TheVariants as on

-- the session of that Session-Id
abbrev pub session_named : AnySid → Session
session_named (on.Gx id) = gx id
session_named (on.Af id) = af id
