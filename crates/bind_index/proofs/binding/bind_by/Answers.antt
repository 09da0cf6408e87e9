use Rattle.std.proofs.Common.{Some, None}
use Rattle.pcrf_model.specs.Sessions.{af}
use Rattle.bind_index.specs.Asking.{with_record}
use Rattle.bind_index.specs.Matches.{match_value}
use Rattle.bind_index.proofs.Alike.{placed_record}
use Rattle.bind_index.proofs.Bound.{is_bound_by}
use Rattle.bind_index.proofs.binding.bind_by.Goals as goal

pub returns-in_default : goal.returns-in_default
returns-in_default c = λ a.
    let h = c.args.state.now in
    let asking = c.args.asking.now in
    is_bound_by h.facts c.all_gx.result (record { ascending = c.all_gx.ensures.ascending; reads = c.all_gx.ensures.facts })
    asking (with_record h (af a) asking).facts a (placed_record h asking a) None c.in_default.ensures

pub returns : goal.returns
returns c = λ a.
    let h = c.args.state.now in
    let asking = c.args.asking.now in
    is_bound_by h.facts c.all_gx.result (record { ascending = c.all_gx.ensures.ascending; reads = c.all_gx.ensures.facts })
    asking (with_record h (af a) asking).facts a (placed_record h asking a) (Some (match_value c.in-Some.found)) c.in-Some.ensures
