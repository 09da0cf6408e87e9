use Rattle.std.proofs.Common.{arith}
use Rattle.dia_base.specs.Answers.{origin_avps}
use Rattle.dia_base.proofs.neighbours.own_request.write_dwr.Goals as goal

pub unreachable-requires : goal.unreachable-requires
unreachable-requires c =
    let long = c.in-None.ensures.too_long (origin_avps c.args.identity.now) c.in_ok-out.ensures.added in
    omega (arith, c.in_ok-out.ensures.within, long)
