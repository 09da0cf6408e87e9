-- Filters as a gateway takes them: as those of packets to the terminal, with a Flow-Direction beside each (TS 29.212, 5.3.65 and 5.4.2).
use Rattle.std.specs.Prelude.{ℕ, nat_eq, if◌then◌else◌, List, codes, Option, Some, None, option_map}
use Rattle.std.specs.List.{starts_with}
use Rattle.gx_profile.specs.declared.filters.direction.Direction.{Direction}
use Rattle.gx_profile.specs.declared.filters.direction.Direction.TheVariants.{Uplink, Downlink}
use Rattle.gx_profile.specs.Filters.{FilterValue, parts_of, spelled}

-- Flow-Direction as an AVP value (TS 29.212, 5.3.65): DOWNLINK 1, UPLINK 2
abbrev pub direction_number : Direction → ℕ
direction_number Uplink = 2
direction_number Downlink = 1

-- the direction of a text by its first two words: what isn't from the terminal is to it
abbrev pub direction_of : List ℕ → Direction
direction_of text = if starts_with nat_eq text (codes "permit in ") then Uplink else Downlink

abbrev pub opposite : Direction → Direction
opposite Uplink = Downlink
opposite Downlink = Uplink

-- the same flow as it is seen the other way: source and destination are exchanged
abbrev pub exchanged : FilterValue → FilterValue
exchanged f = record {
  direction = opposite f.direction;
  protocol = f.protocol;
  source = f.destination;
  destination = f.source;
  options = f.options;
}

abbrev pub downlink_text : List ℕ → FilterValue → Direction → List ℕ
downlink_text text f Uplink = spelled (exchanged f)
downlink_text text f Downlink = text

abbrev pub downlink_by : List ℕ → Option FilterValue → List ℕ
downlink_by text None = text
downlink_by text (Some f) = downlink_text text f f.direction

-- `permit in P from A to B` is written `permit out P from B to A`; what is to the terminal, and what is no filter, as it is
unfoldable pub as_downlink : List ℕ → List ℕ
as_downlink text = downlink_by text (parts_of text)

-- ---- what others make of it

-- what a gateway lets pass in a direction by such a text: its source and destination are those of packets to the terminal (TS 29.212, 5.4.2)
abbrev pub seen_from : Direction → FilterValue → FilterValue
seen_from Uplink f = exchanged f
seen_from Downlink f = f

abbrev pub enforced : Direction → List ℕ → Option FilterValue
enforced direction text = option_map (seen_from direction) (parts_of text)

-- the text as it was before, of one that was in this direction
abbrev pub uplink_text : List ℕ → FilterValue → Direction → List ℕ
uplink_text text f Uplink = text
uplink_text text f Downlink = spelled (exchanged f)

abbrev pub uplink_by : List ℕ → Option FilterValue → List ℕ
uplink_by text None = text
uplink_by text (Some f) = uplink_text text f f.direction

abbrev pub as_given : Direction → List ℕ → List ℕ
as_given Uplink text = uplink_by text (parts_of text)
as_given Downlink text = text
