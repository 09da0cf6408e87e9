use Rattle.std.proofs.Common.{◌≡◌, true, take}
use Rattle.std.specs.List.{list_all}
use Rattle.pcrf_values.specs.Limits.{rule_name_limit}
use Rattle.pcrf_model.specs.Forms.{is_text}
use Rattle.site_machine.proofs.facts.gateway.note_names.Given as goal

-- those so far are texts
abbrev pub invariant-loop-name : goal.invariant-loop-name
invariant-loop-name l = list_all (is_text rule_name_limit) (take l.name-index l.names) ≡ true
