-- Sessions that change beside others, who waits for a push, and worlds whose letters say what their sites made or don't, for the worked examples.
use Rattle.std.specs.Prelude.{ℕ, [], ◌∷◌, Some, None, length}
use Rattle.pcrf_model.specs.Rules.{rules}
use Rattle.pcrf_model.specs.Sessions.{Session}
use Rattle.pcrf_model.specs.Steps.{SiteState}
use Rattle.pcrf_model.specs.Waiting.{Waiting}
use Rattle.pcrf_model.specs.Cursors.{Cursor, start_cursors}
use Rattle.pcrf_model.specs.Letters.{Range}
use Rattle.pcrf_model.specs.Worlds.{WorldTook}
use Rattle.pcrf_model.specs.Samples.{operator, second_session, host_address, initial, update, call, audio}
use Rattle.pcrf_model.specs.Scenes.{serves, one, seen}

-- a second session at an address of its own
abbrev pub two_apart : SiteState
two_apart = serves 0 one (initial second_session (host_address 2))

-- and a call at that address
abbrev pub far_call : SiteState
far_call = serves 0 two_apart (call (Some (host_address 2)) (audio ∷ []))

-- an update of the first session that gives no address
abbrev pub refreshed : SiteState
refreshed = serves 0 one (update 2 None)

-- how many rules the session has
abbrev pub count_rules : SiteState → Session → ℕ
count_rules s d = length (rules operator (seen s) d)

-- the session waits under every host
abbrev pub waits : Session → Waiting
waits d name = d.id ∷ []

-- none waits
abbrev pub none_waits : Waiting
none_waits name = []

-- an entry of that epoch
abbrev pub counted : ℕ → ℕ → Cursor
counted epoch cursor = record { epoch = epoch; cursor = cursor }

-- the world of one site that made one operation, and wrote it in a letter that begins at that place of its log
abbrev pub written_from : ℕ → WorldTook
written_from place = record {
  sites = (record { number = 0; taken = one.log; past = []; log = one.log; cursors = start_cursors 0 1 }) ∷ [];
  letters = (record { letter = record { edition = 7; site = 0; epoch = 1; body = Range place one.log }; behind = one.log }) ∷ [];
}
