use Rattle.std.proofs.Common.{◌≡◌, ◌-◌, arith, sym, subst, Option, option_map}
use Rattle.std.specs.Prelude.{IfOk}
use Rattle.dia_codec.specs.Spelling.{avp_views}
use Rattle.site_core.specs.Faults.{FaultValue, fault_view}
use Rattle.site_core.proofs.Steps.{looked_into}
use Rattle.site_core.proofs.failed_avps.unsupported.+unsupported.Goals as goal

pub unsupported_within-returns : goal.unsupported_within-returns
unsupported_within-returns t c =
    let looked = looked_into c.args.depth (c.args.depth - 1) c.args.grammar (avp_views c.args.avps.now) (omega (arith, c.if-depth-eq0.false)) in
    subst (λ (expected : Option FaultValue). IfOk c.first_unsupported.result (λ fault. option_map fault_view fault ≡ expected)) (sym looked) c.first_unsupported.ensures
