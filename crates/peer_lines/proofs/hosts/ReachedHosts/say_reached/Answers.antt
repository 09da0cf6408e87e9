use Rattle.std.proofs.Common.{◌≤◌, length, arith}
use Rattle.std.proofs.lemmas.Result.{on_ok_weaker, on_err_weaker}
use Rattle.peer_lines.proofs.Places.{said_shows, same_shows, unsaid_stays}
use Rattle.peer_lines.proofs.hosts.ReachedHosts.say_reached.Goals as goal

pub returns-clause-ok : goal.returns-clause-ok
returns-clause-ok c =
    on_ok_weaker c.say_reached.result
    (λ said. said_shows _ _ _ c.self.view_is _ _ _ _ c.in-Some.ensures.value said)
    c.say_reached.ensures.ok

pub returns-clause-err : goal.returns-clause-err
returns-clause-err c =
    on_err_weaker c.say_reached.result
    (λ same. same_shows _ _ _ c.self.view_is _ (λ said. said) _ _ c.in-Some.ensures.value same)
    c.say_reached.ensures.err

pub returns-in_default-clause-ok : goal.returns-in_default-clause-ok
returns-in_default-clause-ok c =
    let past : length c.self.inside.places.items ≤ c.args.site = grind (arith, c.in_default.ensures.variant, c.self.inside.places.ok) in
    unsaid_stays _ _ _ c.self.view_is _ _ past
