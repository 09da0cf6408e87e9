-- The entries of a map, in order.
use Rattle.std.proofs.Common.{List, [], ◌∷◌, Ordering}
use Rattle.pcrf_values.specs.Ascending.{Rises}
use Rattle.pcrf_values.proofs.OrderLaws.{IsRanked}
use Rattle.lattice_core.specs.Entries as entries
use Rattle.lattice_core.proofs.MapParts.{below_member}

module _ {K V : Type 0} {cmp : K → K → Ordering} (o : IsRanked cmp) where
  -- entries in order of their keys
  pub entries_ascending : (es : List (K × V)) → entries.IsAscending cmp es → Rises (λ (e g : K × V). cmp e.0 g.0) es
  entries_ascending [] s = tt
  entries_ascending (e ∷ es) s = (λ g i. below_member o e.0 g es s.0 i, entries_ascending es s.1)
