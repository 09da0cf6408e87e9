use Rattle.std.proofs.Common.{◌≡◌, option_map}
use Rattle.bind_index.specs.Index.{matches_listed}
use Rattle.bind_index.specs.Matches.{best_from, match_value}
use Rattle.bind_index.proofs.lookup.greatest_listed.Given as goal

-- the best so far goes on to the best of all
abbrev pub invariant-loop-session : goal.invariant-loop-session
invariant-loop-session l =
    best_from (option_map match_value l.best) (matches_listed l.asking l.state.facts l.session-iterator)
    ≡ best_from (option_map match_value l.fn.so_far) (matches_listed l.asking l.state.facts l.initial.session-iterator)
