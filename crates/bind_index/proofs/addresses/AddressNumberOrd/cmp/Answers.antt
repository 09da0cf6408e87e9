use Rattle.std.proofs.Common.{ap, ◌∙◌}
use Rattle.std.specs.declared.net.ipv4_addr.Ipv4Addr.{Ipv4Addr}
use Rattle.bind_index.specs.Index.{address_cmp}
use Rattle.bind_index.specs.Numbers.{address_of}
use Rattle.bind_index.proofs.Spelt.{compare_alike}
use Rattle.bind_index.proofs.addresses.AddressNumberOrd.cmp.Goals as goal

pub returns : goal.returns
returns c =
    c.cmp.ensures
    ∙ compare_alike c.self.inside.number c.other.inside.number c.self.invariant c.other.invariant
    ∙ ap (λ (a : Ipv4Addr). address_cmp a (address_of c.other.inside.number)) c.self.view_is
    ∙ ap (address_cmp c.args.self.now) c.other.view_is
