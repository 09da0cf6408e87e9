-- AVPs and Command-Codes of the base protocol's own messages, by their names in RFC 6733.
use Rattle.std.specs.Prelude.{ℕ, Bool, ◌==◌, ◌||◌}
use Rattle.dia_codec.specs.declared.message.AvpKey.{AvpKey}
use Rattle.dia_base.specs.Avps.{base_key}

-- ---- commands (3.1)

abbrev pub capabilities_exchange_command : ℕ
capabilities_exchange_command = 257

abbrev pub device_watchdog_command : ℕ
device_watchdog_command = 280

abbrev pub disconnect_peer_command : ℕ
disconnect_peer_command = 282

-- one of them
abbrev pub is_base_command : ℕ → Bool
is_base_command command = command == capabilities_exchange_command || command == device_watchdog_command || command == disconnect_peer_command

-- ---- AVPs (4.5)

abbrev pub host_ip_address : AvpKey
host_ip_address = base_key 257

abbrev pub vendor_specific_application_id : AvpKey
vendor_specific_application_id = base_key 260

abbrev pub product_name : AvpKey
product_name = base_key 269
