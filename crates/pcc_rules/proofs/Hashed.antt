-- What a map by hashes has under a text is what a look-up by the order of texts finds.
use Rattle.std.proofs.Common.{◌≡◌, ℕ, List, Option, cond, sym, ◌∙◌}
use Rattle.std.specs.BTreeMap.{is_at}
use Rattle.std.specs.Cmp.Lexicographic.{pointwise}
use Rattle.std.specs.Map.{lookup}
use Rattle.std.specs.Ordering.{is_eq}
use Rattle.std.specs.Prelude.{nat_eq}
use Rattle.std.proofs.lemmas.Map.Text.{is_eq-slice_cmp}
use Rattle.pcrf_values.specs.Orders.{text_cmp}

-- a text that is equal is one that the order doesn't tell apart
pub found_alike : {X : Type 0} (id : List ℕ) (es : List (List ℕ × X)) → lookup (pointwise nat_eq id) es ≡ lookup (is_at (text_cmp id)) es
found_alike id es = λ i. lookup (λ k. sym (is_eq-slice_cmp id k) i) es

-- so are the texts at which a change of the map is seen
pub changed_alike : {X : Type 0} (id : List ℕ) (w : Option X) (es fs : List (List ℕ × X))
    → ((q : List ℕ) → lookup (pointwise nat_eq q) fs ≡ cond (pointwise nat_eq id q) w (lookup (pointwise nat_eq q) es))
    → (q : List ℕ) → lookup (is_at (text_cmp q)) fs ≡ cond (is_eq (text_cmp id q)) w (lookup (is_at (text_cmp q)) es)
changed_alike id w es fs changes q = sym (found_alike q fs) ∙ changes q ∙ (λ i. cond (sym (is_eq-slice_cmp id q) i) w (found_alike q es i))
