-- Requests of the base protocol that a site sends its peers: Device-Watchdog-Request (RFC 6733, 5.5.1).
use Rattle.std.specs.Prelude.{ℕ, true, false}
use Rattle.dia_codec.specs.declared.message.Header.{Header}
use Rattle.dia_codec.specs.Fields.{MessageValue}
use Rattle.dia_base.specs.Answers.{origin_avps}
use Rattle.dia_base.specs.declared.identity.Identity.{Identity}
use Rattle.dia_base.specs.NeighbourAvps.{device_watchdog_command}

-- the Application-Id of the base protocol's own messages (2.4)
abbrev pub base_application : ℕ
base_application = 0

-- a request of the base protocol, which no agent passes on: R alone (3)
abbrev pub neighbour_header : ℕ → ℕ → ℕ → Header
neighbour_header command hop_id end_id = record {
  flags = record { request = true; proxiable = false; error = false; retransmitted = false };
  command = command;
  application = base_application;
  hop_id = hop_id;
  end_id = end_id;
}

-- Origin-Host and Origin-Realm
unfoldable pub dwr : Identity → ℕ → ℕ → MessageValue
dwr i hop_id end_id = record {
  header = neighbour_header device_watchdog_command hop_id end_id;
  avps = origin_avps i;
}
