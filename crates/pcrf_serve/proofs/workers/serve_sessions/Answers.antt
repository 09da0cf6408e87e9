use Rattle.std.proofs.Common.{rules}
use Rattle.pcrf_serve.proofs.Joining.{given_back}
use Rattle.pcrf_serve.proofs.workers.serve_sessions.Goals as goal

-- There is room for the workers, and what they take along may cross threads.
pub scoped-requires : goal.scoped-requires
scoped-requires g c = record {
  at = λ scope. (
    search rules,
    (search rules, search rules, search rules, search rules, search rules, search rules, search rules),
  );
}

pub returns-clause-seats : goal.returns-clause-seats
returns-clause-seats g c = given_back g.S.SharedSite.seen c.args.connections.items c.scoped.result.items (search rules)
