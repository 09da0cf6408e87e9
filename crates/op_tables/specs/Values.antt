-- Values of a document: where they are of a kind and in a range, and what they are.
use Rattle.std.specs.Prelude.{ℕ, ℤ, pos, negsuc, Bool, false, ◌&&◌, nat_le, if◌then◌else◌, List, [], ◌∷◌, Option, Some, None, option_map, option_and_then, unwrap_or}
use Rattle.std.specs.List.{list_all}
use Rattle.pcrf_values.specs.Filters.{filter_of}
use Rattle.pcrf_values.specs.Numbers.{number_within}
use Rattle.pcrf_values.specs.Texts.{one_to, small_letters}
use Rattle.toml.specs.Data.{Data, boolean, Items, no_items, item, Members, no_members, get_member, as_integer, as_str, as_array, as_table}

-- ---- values, where they are of the kind and in the range that is asked

abbrev pub as_natural : Option ℤ → Option ℕ
as_natural (Some (pos n)) = Some n
as_natural (Some (negsuc n)) = None
as_natural None = None

abbrev pub number : ℕ → ℕ → Data → Option ℕ
number least most d = option_and_then (number_within least most) (as_natural (as_integer d))

-- a text with a small letter in the place of each capital
abbrev pub name : ℕ → Data → Option (List ℕ)
name most d = option_and_then (λ bytes. one_to most (small_letters bytes)) (as_str d)

-- from the exclamation mark to the tilde
abbrev pub is_visible : ℕ → Bool
is_visible byte = nat_le 0x21 byte && nat_le byte 0x7E

abbrev pub visible : List ℕ → Option (List ℕ)
visible bytes = if list_all is_visible bytes then Some bytes else None

abbrev pub word : ℕ → Data → Option (List ℕ)
word most d = option_and_then visible (option_and_then (one_to most) (as_str d))

abbrev pub filter : Data → Option (List ℕ)
filter d = option_and_then filter_of (as_str d)

abbrev pub elements : Items → List Data
elements no_items = []
elements (item d ds) = d ∷ elements ds

-- the elements of an array
abbrev pub as_list : Data → Option (List Data)
as_list d = option_map elements (as_array d)

-- the values of f, where each has one
abbrev pub all_of : {X Y : Type 0} → (X → Option Y) → List X → Option (List Y)
all_of f [] = Some []
all_of f (x ∷ xs) = option_and_then (λ y. option_map (λ ys. y ∷ ys) (all_of f xs)) (f x)

abbrev pub filters : ℕ → List Data → Option (List (List ℕ))
filters most ds = option_and_then (one_to most) (all_of filter ds)

-- ---- what a value is, and what stands at a key

abbrev pub number_in : Data → ℕ
number_in d = unwrap_or (as_natural (as_integer d)) 0

abbrev pub text_in : Data → List ℕ
text_in d = unwrap_or (as_str d) []

abbrev pub table_in : Data → Members
table_in d = unwrap_or (as_table d) no_members

abbrev pub list_in : Data → List Data
list_in d = unwrap_or (as_list d) []

abbrev pub data_at : List ℕ → Members → Data
data_at key ms = unwrap_or (get_member key ms) (boolean false)

abbrev pub number_at : List ℕ → Members → ℕ
number_at key ms = number_in (data_at key ms)

abbrev pub rows_at : List ℕ → Members → List Data
rows_at key ms = list_in (data_at key ms)
