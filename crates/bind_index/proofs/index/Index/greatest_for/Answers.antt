use Rattle.std.proofs.Common.{option_map}
use Rattle.bind_index.specs.Matches.{match_value}
use Rattle.bind_index.proofs.Indexed.{found_by_address, found_by_none, found_by_prefix}
use Rattle.bind_index.proofs.index.Index.greatest_for.Goals as goal

pub returns-in-Some : goal.returns-in-Some
returns-in-Some c =
    found_by_address c.args.self.now c.args.asking.now c.args.state.now.facts _ c.in-Some.address.now _ (option_map match_value c.greatest_listed.result)
    c.in-Some.ensures c.gateways_at.ensures c.greatest_listed.ensures

pub returns-in_default-prefix : goal.returns-in_default-prefix
returns-in_default-prefix c = found_by_none c.args.self.now c.args.asking.now c.args.state.now.facts c.in_default.ensures c.in_default-prefix.ensures

pub returns : goal.returns
returns c =
    found_by_prefix c.args.self.now c.args.asking.now c.args.state.now.facts _ c.in-Some-prefix.prefix.now (option_map match_value c.greatest_by.result)
    c.in_default.ensures c.in-Some-prefix.ensures c.greatest_by.ensures
