use Rattle.std.proofs.Common.{rules, arith, ◌≡◌, length, sym, ap, ◌∙◌}
use Rattle.pcrf_model.specs.Holdings.{kept_of}
use Rattle.site_lock.specs.Deeds.{KeptValue}
use Rattle.site_lock.specs.Sound.{AreNames}
use Rattle.site_lock.proofs.Opening.{counted, named_notes, opened, names_of}
use Rattle.site_lock.proofs.living.chronicle.Chronicle.start.Goals as goal

pub seated-seats-requires-clause-count : goal.seated-seats-requires-clause-count
seated-seats-requires-clause-count g c =
    let r = c.roster.inside in
    let names : AreNames g.L.Roll.name_of g.L.Roll.seats (names_of r.chairs.items) = search rules in
    (counted g.L.Roll.seats r.chairs.items r.receipts.items c.roster.invariant.0 names.0).1

pub seated-seats-requires-clause-notes : goal.seated-seats-requires-clause-notes
seated-seats-requires-clause-notes g c =
    let r = c.roster.inside in
    let names : AreNames g.L.Roll.name_of g.L.Roll.seats (names_of r.chairs.items) = search rules in
    named_notes g.L.Roll.name_of g.L.Roll.seats r.chairs.items r.receipts.items c.roster.invariant.0 names

pub invariant_of-chronicle : goal.invariant_of-chronicle
invariant_of-chronicle g c =
    let r = c.roster.inside in
    let names : AreNames g.L.Roll.name_of g.L.Roll.seats (names_of r.chairs.items) = search rules in
    let kept : kept_of c.args.site.state.holding ≡ c.args.site.state.holding = search rules in
    let is : r.begun.name ≡ g.L.Roll.keeper = search rules in
    opened g.L.Roll.name_of g.L.Roll.seats g.L.Roll.keeper g.L.Roll.opening c.args.site c.new-history.result.0 c.new-history.result.1 r.chairs.items r.receipts.items r.begun r.beginnings
    c.roster.invariant.0 c.roster.invariant.1 names is c.requires.opening kept c.new-history.ensures.original c.new-history.ensures.name

pub invariant_of-keeper : goal.invariant_of-keeper
invariant_of-keeper g c =
    let r = c.roster.inside in
    let is : r.begun.name ≡ g.L.Roll.keeper = search rules in
    let blank = c.roster.invariant.1 in
    (blank.0 ∙ is, sym (ap (λ (k : KeptValue). length k.beginnings) blank.2), omega arith, omega arith)
