-- Which initial requests are refused for what they say.
use Rattle.std.specs.Prelude.{Bool, not, ◌||◌}
use Rattle.pcrf_model.specs.Refusals.{lacks_parameters, names_no_row}
use Rattle.pcrf_model.specs.Requests.{CcrValue}
use Rattle.pcrf_model.specs.Tables.{Tables}

-- It lacks nothing, and its access point has a row: of the causes by which an initial request is refused (`ccr_causes`) those alone are left
-- that are the site's, that its session has ended and that no counter is left.
abbrev pub is_grantable : Tables → CcrValue → Bool
is_grantable t q = not (lacks_parameters q || names_no_row t q.user.apn)
