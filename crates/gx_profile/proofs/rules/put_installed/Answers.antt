use Rattle.std.proofs.Common.{◌≤◌, ◌+◌, ◌*◌, length, rules}
use Rattle.std.specs.List.{sum_by}
use Rattle.dia_codec.specs.Written.{padded_len}
use Rattle.gx_profile.specs.Lengths.{definition_room}
use Rattle.gx_profile.specs.Rules.{install_avps}
use Rattle.gx_profile.proofs.RuleLengths.{install_within}
use Rattle.gx_profile.proofs.rules.put_installed.Goals as goal

pub returns-clause-within : goal.returns-clause-within
returns-clause-within c =
    let within : sum_by padded_len (install_avps c.args.form c.args.rules.now) ≤ 12 + definition_room * length c.args.rules.now = install_within c.args.form c.args.rules.now c.in_ok-put_install.ensures.within in
    search rules
