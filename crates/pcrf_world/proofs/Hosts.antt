-- The names of sites.
use Rattle.std.proofs.Common.{◌≡◌, ℕ, ◌^◌, ◌<◌, ◌≤◌, length, Some, arith}
use Rattle.std.proofs.lemmas.Bool.Decides.{nat_tests}
use Rattle.std.proofs.lemmas.Fmt.{length-decimal-le}
use Rattle.std.specs.Fmt.{decimal}
use Rattle.pcrf_values.specs.Limits.{identity_limit}
use Rattle.pcrf_values.specs.Texts.{one_to}
use Rattle.pcrf_world.specs.Identities.{host_text}

-- the number of a site has three digits at most
digits_fit : (n : ℕ) → n < 2 ^ 8 → length (decimal n) ≤ 3
digits_fit n small = length-decimal-le 3 n (omega arith) (omega arith) (omega arith)

-- so its name is a host's
pub host_fits : (n : ℕ) → n < 2 ^ 8 → one_to identity_limit (host_text n) ≡ Some (host_text n)
host_fits n small = let fits = digits_fit n small in grind (arith, nat_tests)
