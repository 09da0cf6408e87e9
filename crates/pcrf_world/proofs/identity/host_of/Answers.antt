use Rattle.std.proofs.Common.{rules, ◌≡◌, ◌∙◌, ap}
use Rattle.pcrf_values.specs.Limits.{identity_limit}
use Rattle.pcrf_values.specs.Texts.{one_to}
use Rattle.pcrf_world.specs.Identities.{host_text}
use Rattle.pcrf_world.proofs.Hosts.{host_fits}
use Rattle.pcrf_world.proofs.identity.host_of.Goals as goal

pub unreachable-requires : goal.unreachable-requires
unreachable-requires c =
    let text : c.as_bytes.result.now ≡ host_text c.args.number = search rules in
    c.in_default.not-Some (host_text c.args.number) (c.in_ok-host.ensures ∙ ap (one_to identity_limit) text ∙ host_fits c.args.number c.ranges.number.fits)
