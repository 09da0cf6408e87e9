use Rattle.std.proofs.Common.{◌≤◌, ◌+◌, ◌*◌, length, rules}
use Rattle.std.specs.List.{sum_by}
use Rattle.dia_codec.specs.Written.{padded_len}
use Rattle.gx_profile.specs.Lengths.{name_room}
use Rattle.gx_profile.specs.Rules.{remove_avps}
use Rattle.gx_profile.proofs.RuleLengths.{remove_within}
use Rattle.gx_profile.proofs.rules.put_removed.Goals as goal

pub returns-clause-within : goal.returns-clause-within
returns-clause-within c =
    let within : sum_by padded_len (remove_avps c.args.names.now) ≤ 12 + name_room * length c.args.names.now = remove_within c.args.names.now c.in_ok-put_remove.ensures.within in
    search rules
