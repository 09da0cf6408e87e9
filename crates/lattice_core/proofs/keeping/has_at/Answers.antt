use Rattle.std.proofs.Common.{◌≡◌, map, option_map, is_some, rules, ◌∙◌}
use Rattle.std.specs.Option.{option_copied}
use Rattle.lattice_core.proofs.FoundLaws.{is_found}
use Rattle.lattice_core.proofs.keeping.has_at.Goals as goal

pub returns : goal.returns
returns g c =
    let something : c.is_some.result ≡ is_some (option_map g.F.TypedFact.fact (option_copied c.find.result)) = search rules in
    something ∙ is_found (map g.F.TypedFact.fact c.args.facts.now) c.args.sought.now (option_map g.F.TypedFact.fact (option_copied c.find.result)) c.find.ensures
