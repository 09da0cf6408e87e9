-- A value of an enumeration is the value of its number.
use Rattle.std.specs.Prelude.{◌≡◌, refl}
use Rattle.gx_records.specs.declared.open_request_type.OpenRequestType.{OpenRequestType}
use Rattle.gx_records.specs.declared.open_request_type.OpenRequestType.TheVariants as request
use Rattle.gx_records.specs.Numbers.{open_request_number, open_request_of}

-- of a CC-Request-Type
pub request_of_its_number : (x : OpenRequestType) → open_request_of (open_request_number x) ≡ x
request_of_its_number request.Initial = refl
request_of_its_number request.Update = refl
