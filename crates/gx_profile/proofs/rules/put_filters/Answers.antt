use Rattle.std.proofs.Common.{◌≡◌, ◌≤◌, ◌*◌, ◌<◌, length, map, get_or, rules}
use Rattle.std.specs.List.{sum_by}
use Rattle.dia_codec.specs.Written.{padded_len}
use Rattle.gx_profile.specs.Lengths.{filter_room}
use Rattle.gx_profile.specs.Rules.{filter_avp}
use Rattle.gx_profile.proofs.RuleLengths.{one_more, one_more_within, all_added}
use Rattle.gx_profile.proofs.rules.put_filters.Goals as goal

pub loop-filter-preserved : goal.loop-filter-preserved
loop-filter-preserved c =
    let items = c.as_slice-filter-items.result.now in
    let lt : c.loop-filter.filter-index < length items = search rules in
    let is : c.filter-item.result ≡ get_or items c.loop-filter.filter-index c.filter-item.result = search rules in
    record {
      so_far = one_more (filter_avp c.args.form) items _ c.filter-item.result lt is c.loop-filter.invariant.so_far c.in_ok-put_filter.ensures.added;
      within = one_more_within (filter_avp c.args.form) items _ c.filter-item.result filter_room lt is c.loop-filter.invariant.within c.in_ok-put_filter.ensures.within;
    }
