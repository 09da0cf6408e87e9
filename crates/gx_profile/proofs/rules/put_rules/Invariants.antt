use Rattle.std.proofs.Common.{◌≤◌, ◌*◌, map, take}
use Rattle.std.specs.List.{sum_by}
use Rattle.dia_codec.specs.Drafts.{Adds}
use Rattle.dia_codec.specs.Written.{padded_len}
use Rattle.gx_profile.specs.Lengths.{definition_room}
use Rattle.gx_profile.specs.Rules.{rule_avp}
use Rattle.gx_profile.proofs.rules.put_rules.Given as goal

-- those so far are written, and take so many bytes at most
abbrev pub invariant-loop-rule : goal.invariant-loop-rule
invariant-loop-rule l = record {
  so_far : Adds l.initial.out l.out (map (rule_avp l.form) (take l.rule-index l.rules));
  within : sum_by padded_len (map (rule_avp l.form) (take l.rule-index l.rules)) ≤ definition_room * l.rule-index;
}
