use Rattle.std.proofs.Common.{sym}
use Rattle.std.proofs.lemmas.Result.{on_ok_weaker}
use Rattle.pcc_rules.proofs.ByIndex.{no_address, none_listed, listed_added}
use Rattle.pcc_rules.proofs.indexed_derivation.add_at_address.Goals as goal

pub returns-in_default : goal.returns-in_default
returns-in_default c = λ its all. no_address c.args.tables.now c.args.state.now.facts c.args.session.now c.args.gateway.now its c.args.found.now.items (sym c.in_default.ensures)

pub returns-in_default-calls_at : goal.returns-in_default-calls_at
returns-in_default-calls_at c = λ its all.
    none_listed c.args.tables.now c.args.state.now.facts c.args.session.now c.args.gateway.now its c.args.index.now all _ c.in-Some.address.now c.in-Some.ensures
    c.args.found.now.items c.in_default-calls_at.ensures

pub returns : goal.returns
returns c =
    on_ok_weaker c.add_listed.result
    (λ h its all.
    listed_added c.args.tables.now c.args.state.now.facts c.args.session.now c.args.gateway.now its c.args.index.now all _ c.in-Some.address.now c.in-Some.ensures
    c.in-Some-calls_at.calls.now c.args.found.now.items c.add_listed.new.found.items c.in-Some-calls_at.ensures (h all))
    c.add_listed.ensures
