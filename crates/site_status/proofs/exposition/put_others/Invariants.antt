use Rattle.std.proofs.Common.{◌≡◌, ◌++◌, take}
use Rattle.std.specs.List.{flat_map}
use Rattle.std.specs.Prelude.{codes}
use Rattle.site_status.specs.declared.exposition.Label.{Label}
use Rattle.site_status.specs.Exposition.{label_text}
use Rattle.site_status.proofs.exposition.put_others.Given as goal

-- what was written so far
abbrev pub invariant-loop-label : goal.invariant-loop-label
invariant-loop-label l =
    l.out.items ≡ l.fn.out.items
    ++ flat_map (λ (label : Label). codes "," ++ label_text label) (take l.label-index l.others)
