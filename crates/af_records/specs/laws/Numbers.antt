-- A value of an enumeration is the value of its number.
use Rattle.std.specs.Prelude.{◌≡◌, refl}
use Rattle.af_records.specs.declared.af_request_type.AfRequestType.{AfRequestType}
use Rattle.af_records.specs.declared.af_request_type.AfRequestType.TheVariants as request
use Rattle.af_records.specs.Numbers.{af_request_number, af_request_of}

-- of what stands for the type of a request
pub request_of_its_number : (x : AfRequestType) → af_request_of (af_request_number x) ≡ x
request_of_its_number request.AaRequest = refl
