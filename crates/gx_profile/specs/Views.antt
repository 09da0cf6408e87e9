-- Parts of a text as they lie in it, by their words.
use Rattle.std.specs.Prelude.{ℕ, List, Option, option_copied}
use Rattle.gx_profile.specs.declared.filters.parts.Endpoint.{Endpoint}
use Rattle.gx_profile.specs.declared.filters.parts.Parts.{Parts}
use Rattle.gx_profile.specs.Filters.{EndpointValue, FilterValue}
use Rattle.gx_profile.specs.Words.{words_left}
use Rattle.std.specs.Borrow.{Bor}

-- what is left of a text
abbrev pub rest_view : Option (Bor (List ℕ)) → List (List ℕ)
rest_view rest = words_left (option_copied rest)

-- a word, and what is left behind it
abbrev pub word_view : Bor (List ℕ) × Option (Bor (List ℕ)) → List ℕ × List (List ℕ)
word_view x = (x.0.now, rest_view x.1)

abbrev pub endpoint_view : Endpoint → EndpointValue
endpoint_view e = record { address = e.address.now; ports = option_copied e.ports }

-- src or dst, and what is left behind it
abbrev pub end_view : Endpoint × Option (Bor (List ℕ)) → EndpointValue × List (List ℕ)
end_view x = (endpoint_view x.0, rest_view x.1)

abbrev pub parts_view : Parts → FilterValue
parts_view p = record {
  direction = p.direction;
  protocol = p.protocol.now;
  source = endpoint_view p.source;
  destination = endpoint_view p.destination;
  options = rest_view p.options;
}
