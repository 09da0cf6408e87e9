use Rattle.std.proofs.Common.{◌≡◌, map, None}
use Rattle.dia_base.specs.Rows.{refusal_among}
use Rattle.rx_profile.proofs.component.each_from.Given as goal

-- none was refused so far, and of each a value was made
abbrev pub invariant-loop-raw : goal.invariant-loop-raw
invariant-loop-raw g l = record {
  granted : refusal_among g.X.FromRaw.refusal_of l.yielded ≡ None;
  made : l.each.items ≡ map g.X.FromRaw.of_raw l.yielded;
}
