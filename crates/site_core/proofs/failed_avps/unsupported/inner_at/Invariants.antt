use Rattle.std.proofs.Common.{◌≡◌, drop}
use Rattle.std.specs.Prelude.{find}
use Rattle.dia_base.specs.Rows.{same_key}
use Rattle.site_core.specs.declared.failed_avps.grammar.GrammarRow.{GrammarRow}
use Rattle.site_core.specs.Grammars.{rows_of}
use Rattle.site_core.proofs.failed_avps.unsupported.inner_at.Given as goal

-- the first with the key is among those that are left
abbrev pub invariant-loop-row : goal.invariant-loop-row
invariant-loop-row l =
    find (λ (row : GrammarRow). same_key row.key l.key) (drop l.row-index l.row-items)
    ≡ find (λ (row : GrammarRow). same_key row.key l.key) (rows_of l.fn.grammar)
