use Rattle.std.proofs.Common.{◌≡◌, ◌++◌, Some, subst, rules}
use Rattle.pcrf_values.proofs.Plain.{came_from, some_same}
use Rattle.pcrf_model.specs.Operations.{Operation}
use Rattle.pcrf_model.specs.Forms.{is_operation}
use Rattle.site_join.specs.Formed.{operation_of, if_formed}
use Rattle.peer_exchange.specs.Spelling.{operation_bytes}
use Rattle.peer_exchange.proofs.Added.{added}
use Rattle.peer_exchange.proofs.reading.operation_at.Goals as goal

pub returns-clause-spelled : goal.returns-clause-spelled
unfolding operation_bytes
returns-clause-spelled c =
    let o : Operation = operation_of c.in_ok-counter.counter c.in_ok-site.site c.in_ok-number.number c.in_ok-facts.facts in
    let made : if_formed o ≡ Some c.in-Some.operation = search rules in
    let k = came_from (is_operation o) (Some o) c.in-Some.operation made in
    let spelled : c.args.bytes.now ≡ operation_bytes o ++ c.in_ok-facts.rest.now = search (rules, added) in
    subst (λ (x : Operation). c.args.bytes.now ≡ operation_bytes x ++ c.in_ok-facts.rest.now) (some_same o c.in-Some.operation k.1) spelled
