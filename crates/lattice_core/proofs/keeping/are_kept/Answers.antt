use Rattle.std.proofs.Common.{◌∙◌, sym, ap, refl, ◌++◌, ◌∷◌, suc, take, drop}
use Rattle.std.proofs.Math.Seq.{split_at}
use Rattle.lattice_core.proofs.KeepLaws.{not_kept_from}
use Rattle.lattice_core.proofs.keeping.are_kept.Goals as goal

pub returns-then-not-may_follow-clause-not_kept : goal.returns-then-not-may_follow-clause-not_kept
returns-then-not-may_follow-clause-not_kept g c _ kept =
    let facts = c.args.facts.now in
    let n = c.each.number in
    let here = c.index-facts-number.result in
    not_kept_from g.F.TypedFact.fact facts (take n facts) (drop (suc n) facts) here
    (split_at facts n here c.each-test.true ∙ ap (λ y. take n facts ++ y ∷ drop (suc n) facts) (sym c.index-facts-number.is))
    (c.if-not-may_follow.ensures.not_kept refl) kept
