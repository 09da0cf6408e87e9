-- What facts remove, in order.
use Rattle.std.proofs.Common.{◌≡◌, List, [], ◌∷◌, map, refl, sym, ap, ◌∙◌}
use Rattle.std.specs.List.{filter_map}
use Rattle.pcrf_values.specs.Places as places
use Rattle.pcrf_values.specs.Facts.{Fact}
use Rattle.pcrf_values.specs.Held.{kept_list, removal, removed_parts}
use Rattle.lattice_core.specs.declared.fact.SessionValue.TheVariants as session
use Rattle.af_records.specs.declared.fact.ComponentValue.TheVariants as component
use Rattle.af_records.specs.declared.fact.FlowValue.TheVariants as flow
use Rattle.af_records.specs.declared.fact.AfFact.{AfFact}
use Rattle.af_records.specs.declared.fact.AfFact.TheVariants.{End, ComponentRemoved, FlowRemoved, Aborted, Session, Component, Flow}
use Rattle.af_records.specs.RecordFacts.{fact_of}
use Rattle.af_records.specs.RemovedLists.{removable_of, removed_part}

-- fact by fact
same_removed : (xs : List AfFact) → map removable_of (filter_map removed_part xs) ≡ filter_map removal (map fact_of xs)
same_removed [] = refl
same_removed (End ∷ xs) = same_removed xs
same_removed (Aborted ∷ xs) = same_removed xs
same_removed (ComponentRemoved c ∷ xs) = ap (λ (l : List places.Removable). places.Component c ∷ l) (same_removed xs)
same_removed (FlowRemoved c n ∷ xs) = ap (λ (l : List places.Removable). places.Flow c n ∷ l) (same_removed xs)
same_removed (Session t (session.Address x) ∷ xs) = same_removed xs
same_removed (Session t (session.Apn x) ∷ xs) = same_removed xs
same_removed (Session t (session.Subscribers x) ∷ xs) = same_removed xs
same_removed (Session t (session.Host x) ∷ xs) = same_removed xs
same_removed (Session t (session.Realm x) ∷ xs) = same_removed xs
same_removed (Session t (session.Last x) ∷ xs) = same_removed xs
same_removed (Session t (session.Prefix x) ∷ xs) = same_removed xs
same_removed (Component c t (component.MediaType x) ∷ xs) = same_removed xs
same_removed (Component c t (component.Status x) ∷ xs) = same_removed xs
same_removed (Component c t (component.RateUp x) ∷ xs) = same_removed xs
same_removed (Component c t (component.RateDown x) ∷ xs) = same_removed xs
same_removed (Flow c n t (flow.Descriptions x) ∷ xs) = same_removed xs
same_removed (Flow c n t (flow.Usage x) ∷ xs) = same_removed xs
same_removed (Flow c n t (flow.Status x) ∷ xs) = same_removed xs
same_removed (Flow c n t (flow.RateUp x) ∷ xs) = same_removed xs
same_removed (Flow c n t (flow.RateDown x) ∷ xs) = same_removed xs

-- of what is kept
pub removed_is : (xs : List AfFact) (zs : List Fact) → map fact_of xs ≡ zs → kept_list zs ≡ zs → map removable_of (filter_map removed_part xs) ≡ removed_parts zs
removed_is xs zs e k = same_removed xs ∙ ap (filter_map removal) (e ∙ sym k)
