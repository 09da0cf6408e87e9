use Rattle.std.proofs.lemmas.Result.{on_ok_weaker}
use Rattle.pcc_rules.proofs.ByIndex.{all_called}
use Rattle.pcc_rules.proofs.indexed_derivation.add_called.Goals as goal

pub returns : goal.returns
returns c =
    on_ok_weaker c.add_by_prefix.result
    (λ h its all.
    all_called c.args.tables.now c.args.state.now.facts c.args.session.now c.args.gateway.now its c.args.found.now.items c.add_at_address.new.found.items c.add_by_prefix.new.found.items
    (c.in_ok-add_at_address.ensures its all) (h its all))
    c.add_by_prefix.ensures
