use Rattle.std.proofs.Common.{ℕ, List, option_map, sym, ap, ◌∙◌}
use Rattle.bind_index.specs.Matches.{best_from, match_value}
use Rattle.bind_index.proofs.Bound.{goes_on}
use Rattle.bind_index.specs.Index.{matches_listed}
use Rattle.bind_index.proofs.Indexed.{more_listed}
use Rattle.bind_index.proofs.lookup.greatest_listed.Goals as goal

pub loop-session-preserved-in-Some-listed_match : goal.loop-session-preserved-in-Some-listed_match
loop-session-preserved-in-Some-listed_match c =
    let asking = c.args.asking.now in
    let facts = c.args.state.now.facts in
    let rest = c.next.new.self in
    let one = match_value c.in-Some-listed_match.found in
    let so_far = option_map match_value c.loop-session.best in
    goes_on so_far one (match_value c.greater.result) (matches_listed asking facts rest) c.greater.ensures
    ∙ ap (best_from so_far) (more_listed asking facts c.in-Some-session.session.now rest one c.in-Some-listed_match.ensures)
    ∙ ap (λ (ids : List (List ℕ)). best_from so_far (matches_listed asking facts ids)) (sym c.in-Some-session.ensures.steps)
    ∙ c.loop-session.invariant
