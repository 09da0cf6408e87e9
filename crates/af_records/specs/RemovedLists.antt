-- What facts remove.
use Rattle.std.specs.Prelude.{Option, Some, None}
use Rattle.pcrf_values.specs.Places as places
use Rattle.af_records.specs.declared.removed.RemovedPart.{RemovedPart}
use Rattle.af_records.specs.declared.removed.RemovedPart.TheVariants as part
use Rattle.af_records.specs.declared.fact.AfFact.{AfFact}
use Rattle.af_records.specs.declared.fact.AfFact.TheVariants.{ComponentRemoved, FlowRemoved}

-- a part as what removals name
abbrev pub removable_of : RemovedPart → places.Removable
removable_of (part.Component c) = places.Component c
removable_of (part.Flow c n) = places.Flow c n

-- what the fact removes
abbrev pub removed_part : AfFact → Option RemovedPart
removed_part (ComponentRemoved c) = Some (part.Component c)
removed_part (FlowRemoved c n) = Some (part.Flow c n)
removed_part f = None
