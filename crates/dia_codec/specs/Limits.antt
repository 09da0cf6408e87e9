-- Sizes, limits and bits of messages (RFC 6733, sections 3 and 4.1). They stand apart from those of the code, so that
-- they are a check on it.
use Rattle.std.specs.Prelude.{ℕ, ◌^◌}

-- ---- messages

-- the version of Diameter
abbrev pub diameter_version : ℕ
diameter_version = 1

-- the bytes of a header
abbrev pub header_bytes : ℕ
header_bytes = 20

-- the first bytes of a header, to the end of its length field
abbrev pub length_field_end : ℕ
length_field_end = 4

-- the most bytes that a message may have: the greatest multiple of four below 2 ^ 16 (this project's profile)
abbrev pub longest_message : ℕ
longest_message = 65532

-- ---- AVPs

-- the bytes before an AVP's value where it has no Vendor-Id
abbrev pub avp_header_bytes : ℕ
avp_header_bytes = 8

-- the bytes before an AVP's value where it has a Vendor-Id
abbrev pub vendor_avp_header_bytes : ℕ
vendor_avp_header_bytes = 12

-- ---- numbers

-- a command is below it, and so is a length: both have three bytes
abbrev pub command_bound : ℕ
command_bound = 2 ^ 24

-- a number of type Unsigned32 is below it
abbrev pub unsigned32_bound : ℕ
unsigned32_bound = 2 ^ 32

-- ---- the command flags

-- R: a request, and not an answer
abbrev pub request_bit : ℕ
request_bit = 0x80

-- P: an agent may proxy, relay or redirect the message
abbrev pub proxiable_bit : ℕ
proxiable_bit = 0x40

-- E: an answer that tells of a protocol error
abbrev pub error_bit : ℕ
error_bit = 0x20

-- T: a request that may have been sent before
abbrev pub retransmitted_bit : ℕ
retransmitted_bit = 0x10

-- ---- the AVP flags

-- V: a Vendor-Id stands before the value
abbrev pub vendor_bit : ℕ
vendor_bit = 0x80

-- M: a receiver must understand the AVP
abbrev pub mandatory_bit : ℕ
mandatory_bit = 0x40

-- P: reserved for protection from end to end
abbrev pub protected_bit : ℕ
protected_bit = 0x20
