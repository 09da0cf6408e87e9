use Rattle.std.proofs.Common.{◌≤◌, ◌*◌, map, take}
use Rattle.std.specs.List.{sum_by}
use Rattle.dia_codec.specs.Drafts.{Adds}
use Rattle.dia_codec.specs.Written.{padded_len}
use Rattle.gx_profile.specs.Lengths.{filter_room}
use Rattle.gx_profile.specs.Rules.{filter_avp}
use Rattle.gx_profile.proofs.rules.put_filters.Given as goal

-- those so far are written, and take so many bytes at most
abbrev pub invariant-loop-filter : goal.invariant-loop-filter
invariant-loop-filter l = record {
  so_far : Adds l.initial.out l.out (map (filter_avp l.form) (take l.filter-index l.filter-items));
  within : sum_by padded_len (map (filter_avp l.form) (take l.filter-index l.filter-items)) ≤ filter_room * l.filter-index;
}
