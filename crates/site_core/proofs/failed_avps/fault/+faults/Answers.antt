use Rattle.std.proofs.Common.{◌≡◌, ◌-◌, arith, sym, subst, Option, option_map}
use Rattle.std.specs.Prelude.{IfOk}
use Rattle.dia_codec.specs.Spelling.{avp_views}
use Rattle.site_core.specs.Faults.{FaultValue, fault_view}
use Rattle.site_core.proofs.Steps.{judged_within}
use Rattle.site_core.proofs.failed_avps.fault.+faults.Goals as goal

pub fault_within-returns : goal.fault_within-returns
fault_within-returns t c =
    let judged = judged_within c.args.depth (c.args.depth - 1) c.args.grammar (avp_views c.args.avps.now) (omega (arith, c.if-depth-eq0.false)) in
    subst (λ (expected : Option FaultValue). IfOk c.rows_fault.result (λ fault. option_map fault_view fault ≡ expected)) (sym judged) (rw c.rows_of.ensures at c.rows_fault.ensures)
