-- The laws of filters.
use Rattle.std.specs.Prelude.{◌≡◌, ℕ, ◌+◌, ◌≤◌, true, List, codes, length, nat_eq, Some, ◌↔◌}
use Rattle.std.specs.List.{starts_with}
use Rattle.gx_profile.specs.Filters.{FilterValue, Spells, parts_of}
use Rattle.gx_profile.specs.Downlinks.{direction_of, as_downlink, as_given, enforced}

-- the parts of a text are just those that spell it
abbrev pub PartsAreThoseSpelled : Type 0
PartsAreThoseSpelled = (text : List ℕ) (f : FilterValue) → parts_of text ≡ Some f ↔ Spells text f

-- what is written for a gateway gives back what was given
abbrev pub TextsComeBack : Type 0
TextsComeBack = (text : List ℕ) → as_given (direction_of text) (as_downlink text) ≡ text

-- what a gateway lets pass in each direction is what was described
abbrev pub EnforcedAsDescribed : Type 0
EnforcedAsDescribed = (text : List ℕ) → enforced (direction_of text) (as_downlink text) ≡ parts_of text

-- every filter is written as one to the terminal
abbrev pub FiltersAreOfTheDownlink : Type 0
FiltersAreOfTheDownlink = (text : List ℕ) (f : FilterValue) → parts_of text ≡ Some f → starts_with nat_eq (as_downlink text) (codes "permit out ") ≡ true

-- a text becomes a byte longer at most
abbrev pub GrowsByOneByte : Type 0
GrowsByOneByte = (text : List ℕ) → length (as_downlink text) ≤ length text + 1
