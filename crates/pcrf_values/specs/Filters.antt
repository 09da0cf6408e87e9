-- The filters that this project takes: IPFilterRules (RFC 6733, 4.3.1) that permit, in one direction.
use Rattle.std.specs.Prelude.{ℕ, Bool, ◌&&◌, ◌||◌, List, length, codes, nat_le, nat_eq, Option, Some, None, if◌then◌else◌}
use Rattle.std.specs.List.{list_all, starts_with}
use Rattle.pcrf_values.specs.Limits.{filter_limit}

-- a printable character of ASCII, or a space
abbrev pub is_printable : ℕ → Bool
is_printable byte = nat_le 0x20 byte && nat_le byte 0x7E

-- the action and the direction come first
abbrev pub begins_as_filter : List ℕ → Bool
begins_as_filter text =
    starts_with nat_eq text (codes "permit in ") || starts_with nat_eq text (codes "permit out ")

-- what is taken as a filter
abbrev pub is_filter : List ℕ → Bool
is_filter text = nat_le (length text) filter_limit && begins_as_filter text && list_all is_printable text

-- the text, where it is a filter
abbrev pub filter_of : List ℕ → Option (List ℕ)
filter_of text = if is_filter text then Some text else None
