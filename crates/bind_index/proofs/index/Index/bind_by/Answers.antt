use Rattle.std.proofs.Common.{Some, None}
use Rattle.pcrf_model.specs.Sessions.{af}
use Rattle.bind_index.specs.Asking.{with_record}
use Rattle.bind_index.specs.Matches.{match_value}
use Rattle.bind_index.proofs.Alike.{placed_record}
use Rattle.bind_index.proofs.Indexed.{listed_is_bound}
use Rattle.bind_index.proofs.index.Index.bind_by.Goals as goal

pub returns-in_default : goal.returns-in_default
returns-in_default c = λ all a.
    let h = c.args.state.now in
    let asking = c.args.asking.now in
    listed_is_bound h.facts asking (with_record h (af a) asking).facts a (placed_record h asking a) c.args.self.now None all c.in_default.ensures

pub returns : goal.returns
returns c = λ all a.
    let h = c.args.state.now in
    let asking = c.args.asking.now in
    listed_is_bound h.facts asking (with_record h (af a) asking).facts a (placed_record h asking a) c.args.self.now (Some (match_value c.in-Some.found)) all c.in-Some.ensures
