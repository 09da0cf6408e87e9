use Rattle.std.proofs.Common.{◌≡◌, true, take}
use Rattle.std.specs.List.{list_all}
use Rattle.pcrf_values.specs.Limits.{filter_limit}
use Rattle.pcrf_model.specs.Forms.{is_text}
use Rattle.site_machine.proofs.facts.forms.note_permit_filters.Given as goal

-- those so far are texts
abbrev pub invariant-loop-filter : goal.invariant-loop-filter
invariant-loop-filter l = list_all (is_text filter_limit) (take l.filter-index l.filter-items) ≡ true
