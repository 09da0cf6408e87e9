-- The push of a session that is due.
use Rattle.std.specs.Prelude.{ℕ, if◌then◌else◌, List, Option, Some, None}
use Rattle.pcrf_model.specs.Pushing.{is_due}
use Rattle.pcrf_model.specs.Replies.{PushValue}
use Rattle.pcrf_model.specs.Sessions.{Session}
use Rattle.pcrf_model.specs.Tables.{Tables}
use Rattle.pcrf_model.specs.Views.{View}
use Rattle.rule_delta.specs.Pushed.{push_of}

-- the push of the session, if it is due for the host, any where none is given
abbrev pub push_if_due : Tables → ℕ → View → Option (List ℕ) → Session → Option PushValue
push_if_due t i v name s = if is_due t i v name s then Some (push_of t v s) else None
