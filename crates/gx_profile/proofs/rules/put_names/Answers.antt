use Rattle.std.proofs.Common.{◌≡◌, ◌≤◌, ◌*◌, ◌<◌, length, map, get_or, rules}
use Rattle.std.specs.List.{sum_by}
use Rattle.dia_codec.specs.Written.{padded_len}
use Rattle.gx_profile.specs.Lengths.{name_room}
use Rattle.gx_profile.specs.Rules.{name_avp}
use Rattle.gx_profile.proofs.RuleLengths.{one_more, one_more_within, all_added, all_within}
use Rattle.gx_profile.proofs.rules.put_names.Goals as goal

pub loop-name-preserved : goal.loop-name-preserved
loop-name-preserved c =
    let items = c.args.names.now in
    let lt : c.loop-name.name-index < length items = search rules in
    let is : c.name-item.result ≡ get_or items c.loop-name.name-index c.name-item.result = search rules in
    record {
      so_far = one_more name_avp items _ c.name-item.result lt is c.loop-name.invariant.so_far c.in_ok-put_name.ensures.added;
      within = one_more_within name_avp items _ c.name-item.result name_room lt is c.loop-name.invariant.within c.in_ok-put_name.ensures.within;
    }

pub returns-clause-added : goal.returns-clause-added
returns-clause-added c = all_added name_avp c.args.names.now c.loop-name.name-index c.loop-name-test.false c.loop-name.invariant.so_far

pub returns-clause-within : goal.returns-clause-within
returns-clause-within c = all_within name_avp c.args.names.now c.loop-name.name-index name_room c.loop-name-test.false c.loop-name.auto.name-index-end c.loop-name.invariant.within
