-- What of its session a fact stands beneath, and which facts remove that: so positions alone tell whether a fact overshadows another.
use Rattle.std.specs.Prelude.{Bool, false, ◌||◌}
use Rattle.std.specs.Ordering.{is_eq}
use Rattle.pcrf_values.specs.Places.{Place, OfSession, OfComponent, OfFlow, OfRuleName, Removable, Position, position_cmp, removed_position}
use Rattle.pcrf_values.specs.Places as places
use Rattle.pcrf_values.specs.Facts.{Fact, End, Removed, Field, Aborted, position}
use Rattle.lattice_core.specs.declared.fact.Beneath.{Beneath}
use Rattle.lattice_core.specs.declared.fact.Beneath.TheVariants.{Nothing, Session, Component, Flow}

-- what a place is in
abbrev pub beneath_place : Place → Beneath
beneath_place (OfSession f) = Session
beneath_place (OfComponent c f) = Component c
beneath_place (OfFlow c n f) = Flow c n
beneath_place (OfRuleName t) = Session

-- what a removal is in
abbrev pub beneath_removal : places.Removable → Beneath
beneath_removal (places.Component c) = Session
beneath_removal (places.Flow c n) = Component c

-- what a fact is in, and so falls with
abbrev pub beneath_of : Fact → Beneath
beneath_of End = Nothing
beneath_of (Removed r) = beneath_removal r
beneath_of (Field p t v) = beneath_place p
beneath_of Aborted = Session

-- the fact stands there
abbrev pub stands_at : Position → Fact → Bool
stands_at p f = is_eq (position_cmp (position f) p)

-- the fact removes what is beneath that
abbrev pub removes : Beneath → Fact → Bool
removes Nothing f = false
removes Session f = stands_at (position End) f
removes (Component c) f = stands_at (position End) f || stands_at (removed_position (places.Component c)) f
removes (Flow c n) f = (stands_at (position End) f || stands_at (removed_position (places.Component c)) f) || stands_at (removed_position (places.Flow c n)) f
