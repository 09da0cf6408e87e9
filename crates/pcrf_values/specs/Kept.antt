-- The bytes of a text, wherever they are.
use Rattle.std.specs.Prelude.{ℕ, List}
use Rattle.std.specs.Arc.{arc_slice_items}
use Rattle.pcrf_values.specs.declared.text.Kept.{Kept}
use Rattle.pcrf_values.specs.declared.text.Kept.TheVariants.{Here, Shared}

abbrev pub kept_bytes : Kept → List ℕ
kept_bytes (Here bytes) = bytes
kept_bytes (Shared bytes) = arc_slice_items bytes
