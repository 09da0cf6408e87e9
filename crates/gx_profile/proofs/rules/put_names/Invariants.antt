use Rattle.std.proofs.Common.{◌≤◌, ◌*◌, map, take}
use Rattle.std.specs.List.{sum_by}
use Rattle.dia_codec.specs.Drafts.{Adds}
use Rattle.dia_codec.specs.Written.{padded_len}
use Rattle.gx_profile.specs.Lengths.{name_room}
use Rattle.gx_profile.specs.Rules.{name_avp}
use Rattle.gx_profile.proofs.rules.put_names.Given as goal

-- those so far are written, and take so many bytes at most
abbrev pub invariant-loop-name : goal.invariant-loop-name
invariant-loop-name l = record {
  so_far : Adds l.initial.out l.out (map name_avp (take l.name-index l.names));
  within : sum_by padded_len (map name_avp (take l.name-index l.names)) ≤ name_room * l.name-index;
}
