-- How many bytes the AVPs of rules take at most, headers and padding counted. The greatest lengths of names and filters, and how many filters a
-- rule has, are this project's own (pcrf_values).
use Rattle.std.specs.Prelude.{ℕ, ◌+◌, ◌*◌}
use Rattle.pcrf_values.specs.Limits.{delta_limit}
use Rattle.dia_codec.specs.Limits.{vendor_avp_header_bytes}

-- the Flow-Information of a filter, its Flow-Description and its Flow-Direction: three headers, 256 bytes, and four
abbrev pub filter_room : ℕ
filter_room = 296

-- a Charging-Rule-Name: a header, and 600 bytes
abbrev pub name_room : ℕ
name_room = 612

-- what a Charging-Rule-Definition holds: a name, two filters, two numbers of 16 bytes, and a QoS-Information of 152
abbrev pub rule_room : ℕ
rule_room = 1388

-- a Charging-Rule-Definition
abbrev pub definition_room : ℕ
definition_room = vendor_avp_header_bytes + rule_room

-- what a message carries of a difference: the headers of both groups, and as many rules as it has entries at most
abbrev pub delta_room : ℕ
delta_room = 2 * vendor_avp_header_bytes + delta_limit * definition_room

-- Session-Id, Auth-Application-Id, Origin-Host and Origin-Realm: headers of 8 bytes, and 512, 4, 256 and 256
abbrev pub opening_room : ℕ
opening_room = 1060
