use Rattle.std.proofs.Common.{rules, ◌≡◌, ap}
use Rattle.pcrf_model.specs.Operations.{Operation}
use Rattle.pcrf_model.specs.Retelling.{all_removed}
use Rattle.site_machine.specs.Facts.{operation_pushed}
use Rattle.site_machine.proofs.Telling.{told_each}
use Rattle.site_machine.proofs.site.Site.tell_away.Goals as goal

pub add_pushed-requires-clause-told : goal.add_pushed-requires-clause-told
add_pushed-requires-clause-told c =
    let s = c.args.self.now in
    let d = all_removed c.args.told.now in
    let is : c.with_stamp-operation.result ≡ operation_pushed s.number c.args.counter c.args.session.now d = search rules in
    told_each c.args.counter s.number d _ (ap (λ (o : Operation). o.facts) is)
