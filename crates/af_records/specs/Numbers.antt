-- The number that stands for the type of a request on an AF session.
use Rattle.std.specs.Prelude.{ℕ}
use Rattle.af_records.specs.declared.af_request_type.AfRequestType.{AfRequestType}
use Rattle.af_records.specs.declared.af_request_type.AfRequestType.TheVariants as request

-- Rx has one type of request (this project's profile)
abbrev pub af_request_number : AfRequestType → ℕ
af_request_number request.AaRequest = 0

-- the type, whatever the number
abbrev pub af_request_of : ℕ → AfRequestType
af_request_of n = request.AaRequest
