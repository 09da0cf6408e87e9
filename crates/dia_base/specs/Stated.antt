-- What a node tells of its state: Origin-State-Id (RFC 6733, 8.16).
use Rattle.std.specs.Prelude.{ℕ, ◌%◌, ◌^◌, ◌==◌, ◌&&◌, not, Bool, true, false, if◌then◌else◌, List, [], ◌∷◌, Option, Some, None}
use Rattle.dia_codec.specs.declared.message.AvpKey.{AvpKey}
use Rattle.dia_codec.specs.declared.message.Header.{Header}
use Rattle.dia_codec.specs.Fields.{AvpValue}
use Rattle.dia_base.specs.Answers.{number_avp}
use Rattle.dia_base.specs.Avps.{base_key}
use Rattle.dia_base.specs.declared.form.MessageForm.{MessageForm}
use Rattle.dia_base.specs.declared.form.MessageForm.TheVariants.{Own, Standard}
use Rattle.dia_base.specs.declared.identity.Identity.{Identity}
use Rattle.dia_base.specs.NeighbourAvps.{disconnect_peer_command}
use Rattle.dia_base.specs.NeighbourOwnRequests.{base_application}
use Rattle.dia_base.specs.Behind.{behind}

-- Origin-State-Id
abbrev pub origin_state_id : AvpKey
origin_state_id = base_key 278

-- where a state is told
abbrev pub state_avps : Option ℕ → List AvpValue
state_avps None = []
state_avps (Some state) = number_avp origin_state_id state ∷ []

-- ---- in answers

-- each command's answer may have it but the Disconnect-Peer-Answer (RFC 6733, 10.1)
abbrev pub may_tell_state : Header → Bool
may_tell_state h = not (h.application == base_application && h.command == disconnect_peer_command)

abbrev pub state_avps_of : Identity → Header → List AvpValue
state_avps_of i h = if may_tell_state h then state_avps i.state else []

-- ---- in requests of the node's own

-- behind the AVPs of a message, where a state is told
abbrev pub with_state : Option ℕ → List ℕ → List ℕ
with_state None bytes = bytes
with_state (Some state) bytes = behind (state_avps (Some state)) bytes

abbrev pub stated_in : MessageForm → Option ℕ → List ℕ → List ℕ
stated_in Own state bytes = bytes
stated_in Standard state bytes = with_state state bytes

-- The bytes of a request of the node's own in its form: in the standards' with its Origin-State-Id behind, where there is room for it.
unfoldable pub stated : Identity → List ℕ → List ℕ
stated i bytes = stated_in i.form i.state bytes

-- ---- at a site's start

-- A site that starts without peer sites lost its sessions, and tells when it started, in seconds since 1970 as 32 bits have them. One that has
-- peer sites lost none, since those have them: it tells 0, by which nobody is to infer that sessions were lost (8.16). So it does where no
-- clock tells the time.
abbrev pub started_at : Bool → Option ℕ → ℕ
started_at true seconds = 0
started_at false None = 0
started_at false (Some seconds) = seconds % 2 ^ 32

-- in this project's own form it tells none
abbrev pub state_at_start : MessageForm → Bool → Option ℕ → Option ℕ
state_at_start Own has_peers seconds = None
state_at_start Standard has_peers seconds = Some (started_at has_peers seconds)
