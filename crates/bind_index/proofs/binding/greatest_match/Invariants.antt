use Rattle.std.proofs.Common.{◌≡◌, option_map}
use Rattle.pcrf_values.specs.Sets.{greatest}
use Rattle.pcrf_model.specs.Bindings.{candidate_cmp}
use Rattle.bind_index.specs.Matches.{best_from, match_value, matches_among}
use Rattle.bind_index.proofs.binding.greatest_match.Given as goal

-- the best so far goes on to the best of all
abbrev pub invariant-loop-session : goal.invariant-loop-session
invariant-loop-session l =
    best_from (option_map match_value l.best) (matches_among l.asking l.session-iterator)
    ≡ greatest candidate_cmp (matches_among l.asking l.fn.sessions)
