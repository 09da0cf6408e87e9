-- Facts one after another, as a merge takes them.
use Rattle.std.specs.Prelude.{◌≡◌, ℕ, ◌⊎◌, Bool, true, false, List, [], ◌∷◌}
use Rattle.std.specs.List.{list_any}
use Rattle.std.specs.Ordering.{is_lt, nat_cmp}
use Rattle.std.specs.declared.cmp.Ordering.{Ordering}
use Rattle.pcrf_values.specs.Orders.{pair_cmp, text_cmp}
use Rattle.std.specs.declared.cmp.Ordering.TheVariants.{Less}
use Rattle.pcrf_values.specs.Sets.{In, Same}
use Rattle.pcrf_values.specs.Facts.{Fact, Field, position, fact_cmp, is_shaded_by}
use Rattle.pcrf_values.specs.Held.{kept_list}
use Rattle.pcrf_values.specs.Places.{Position, position_cmp}
use Rattle.lattice_core.specs.Beneath.{stands_at}

-- none of these is below the fact
abbrev pub NoneBelow : Fact → List Fact → Type 0
NoneBelow f zs = (z : Fact) → In z zs → is_lt (fact_cmp z f) ≡ false

-- none is below one before it
abbrev pub Climbs : List Fact → Type 0
Climbs [] = Unit {0}
Climbs (x ∷ xs) = NoneBelow x xs × Climbs xs

-- none of the second is below one of the first
abbrev pub Follow : List Fact → List Fact → Type 0
Follow gs zs = (g : Fact) → In g gs → NoneBelow g zs

-- the last one stands at the position
abbrev pub last_at : Position → List Fact → Bool
last_at p [] = false
last_at p (x ∷ []) = stands_at p x
last_at p (x ∷ y ∷ ys) = last_at p (y ∷ ys)

-- The fact and what is left are what there was, and none of that is below the fact.
pub record IsLeast (f : Fact) (left were : List Fact) : Type 0 where
  pub same : Same (f ∷ left) were
  pub least : NoneBelow f left

-- the least of two lists is the second's first
abbrev pub first_is_theirs : List Fact → List Fact → Bool
first_is_theirs [] ys = true
first_is_theirs (x ∷ xs) [] = false
first_is_theirs (x ∷ xs) (y ∷ ys) = is_lt (fact_cmp y x)

-- the last one stands below the position, if there is one
abbrev pub last_before : Position → List Fact → Bool
last_before p [] = true
last_before p (x ∷ []) = is_lt (position_cmp (position x) p)
last_before p (x ∷ y ∷ ys) = last_before p (y ∷ ys)

-- it is the other, or overshadowed by that
abbrev pub AtOrUnder : Fact → Fact → Type 0
AtOrUnder f g = (f ≡ g) ⊎ (is_shaded_by f g ≡ true)

-- one of these is the fact, or overshadows it
abbrev pub IsCovered : Fact → List Fact → Type 0
IsCovered f zs = (g : Fact) × In g zs × AtOrUnder f g

-- the fact is a field
abbrev pub is_field : Fact → Bool
is_field (Field p t v) = true
is_field f = false

-- all of these stand below the position, and all of those above it
pub record IsGap (p : Position) (lows highs : List Fact) : Type 0 where
  pub below : (g : Fact) → In g lows → position_cmp (position g) p ≡ Less
  pub above : (g : Fact) → In g highs → position_cmp p (position g) ≡ Less

-- flows, fields and names in order
abbrev pub fields_cmp : ℕ × (ℕ × List ℕ) → ℕ × (ℕ × List ℕ) → Ordering
fields_cmp = pair_cmp nat_cmp (pair_cmp nat_cmp text_cmp)

-- components before them
abbrev pub parts_cmp : ℕ × (ℕ × (ℕ × List ℕ)) → ℕ × (ℕ × (ℕ × List ℕ)) → Ordering
parts_cmp = pair_cmp nat_cmp fields_cmp

-- all of these are kept, and stand in their order
abbrev pub AreKept : List Fact → Type 0
AreKept zs = kept_list zs ≡ zs

-- they are not
abbrev pub AreNotKept : List Fact → Type 0
AreNotKept zs = AreKept zs → ⊥

-- a fact stands where each of these does
abbrev pub AreThere : List Fact → List Fact → Type 0
AreThere fs zs = (f : Fact) → In f fs → list_any (stands_at (position f)) zs ≡ true
