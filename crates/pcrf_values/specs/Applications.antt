-- Application-Ids (RFC 6733, 2.4) of the applications that the PCRF speaks.
use Rattle.std.specs.Prelude.{ℕ}

-- the common messages of the base protocol (RFC 6733, 2.4)
abbrev pub base_application : ℕ
base_application = 0

-- Rx, of the application functions' requests (TS 29.214, 5.1)
abbrev pub rx_application : ℕ
rx_application = 16777236

-- Gx, of the gateways' requests (TS 29.212, 5.1)
abbrev pub gx_application : ℕ
gx_application = 16777238

-- a relay's, which stands for every application (RFC 6733, 2.4)
abbrev pub relay_application : ℕ
relay_application = 0xFFFFFFFF
