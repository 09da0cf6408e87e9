-- The numbers by which the standard names the types of requests that leave a session open.
use Rattle.std.specs.Prelude.{ℕ, if◌then◌else◌, ◌==◌}
use Rattle.gx_records.specs.declared.open_request_type.OpenRequestType.{OpenRequestType}
use Rattle.gx_records.specs.declared.open_request_type.OpenRequestType.TheVariants as request

-- CC-Request-Type: INITIAL_REQUEST, UPDATE_REQUEST (RFC 8506, 8.3)
abbrev pub open_request_number : OpenRequestType → ℕ
open_request_number request.Initial = 1
open_request_number request.Update = 2

-- the type of a number, of another one UPDATE_REQUEST
abbrev pub open_request_of : ℕ → OpenRequestType
open_request_of n = if n == open_request_number request.Initial then request.Initial else request.Update
