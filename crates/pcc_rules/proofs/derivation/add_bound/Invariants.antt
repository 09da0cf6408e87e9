use Rattle.pcrf_model.specs.Sessions.{gx}
use Rattle.pcrf_model.specs.Views.{view}
use Rattle.pcc_rules.proofs.SoFar.{SessionsSoFar}
use Rattle.pcc_rules.proofs.derivation.add_bound.Given as goal

abbrev pub invariant-loop-asking : goal.invariant-loop-asking
invariant-loop-asking l = SessionsSoFar l.tables (view l.state.facts) (gx l.session) l.fn.found.items l.found.items l.asking-iterator l.fn.sessions
