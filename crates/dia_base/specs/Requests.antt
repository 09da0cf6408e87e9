-- Requests that a server makes (RFC 6733, 3).
use Rattle.std.specs.Prelude.{ℕ, true, false}
use Rattle.dia_codec.specs.declared.message.Header.{Header}

-- a request that agents may pass on: R and P
abbrev pub request_header : ℕ → ℕ → ℕ → ℕ → Header
request_header command application hop_id end_id = record {
  flags = record { request = true; proxiable = true; error = false; retransmitted = false };
  command = command;
  application = application;
  hop_id = hop_id;
  end_id = end_id;
}
