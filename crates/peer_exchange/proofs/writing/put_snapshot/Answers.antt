use Rattle.std.proofs.Common.{◌≡◌, ℕ, ◌^◌, ◌≤◌, List, ◌++◌, length, map, OnOk, IsErrOf, sym, ap, ◌∙◌, subst}
use Rattle.fact_codec.specs.declared.fault.Unwritten.TheVariants.{TooLong}
use Rattle.site_join.specs.Groups.{Group, group_of, groups_of_facts}
use Rattle.site_join.proofs.FormedGroups.{formed_again}
use Rattle.peer_exchange.specs.Spelling.{held_bytes}
use Rattle.peer_exchange.proofs.writing.put_snapshot.Goals as goal

pub returns-clause-written : goal.returns-clause-written
returns-clause-written c =
    let h = c.args.snapshot.now.state in
    let n = c.args.snapshot.now.log_length in
    let gs : List Group = map group_of c.in_ok-groups.groups.items in
    let same : groups_of_facts h.facts ≡ map group_of c.as_slice.result.now =
    ap groups_of_facts (sym c.in_ok-groups.ensures.facts) ∙ formed_again h.clock gs c.in_ok-groups.ensures.form ∙ ap (map group_of) (sym c.as_slice.ensures.value) in
    subst (λ (k : ℕ × List Group). OnOk c.put_held.result (c.put_held.new.out.items ≡ c.args.out.now.items ++ held_bytes k.0 n k.1))
    (λ i. (c.clock-clock.ensures.clock i, sym same i)) c.put_held.ensures.written

pub returns-clause-too_long : goal.returns-clause-too_long
returns-clause-too_long c =
    let h = c.args.snapshot.now.state in
    let n = c.args.snapshot.now.log_length in
    let gs : List Group = map group_of c.in_ok-groups.groups.items in
    let same : groups_of_facts h.facts ≡ map group_of c.as_slice.result.now =
    ap groups_of_facts (sym c.in_ok-groups.ensures.facts) ∙ formed_again h.clock gs c.in_ok-groups.ensures.form ∙ ap (map group_of) (sym c.as_slice.ensures.value) in
    subst (λ (k : ℕ × List Group). IsErrOf c.put_held.result TooLong → 2 ^ 32 ≤ length (held_bytes k.0 n k.1))
    (λ i. (c.clock-clock.ensures.clock i, sym same i)) c.put_held.ensures.too_long
