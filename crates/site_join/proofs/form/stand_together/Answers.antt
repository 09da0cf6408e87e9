use Rattle.std.proofs.Common.{sym, ◌∙◌, map}
use Rattle.site_join.proofs.StandingLaws.{has_some, stands_where}
use Rattle.site_join.proofs.form.stand_together.Goals as goal

pub returns-then-not-is_empty : goal.returns-then-not-is_empty
returns-then-not-is_empty g c =
    stands_where (map g.F.TypedFact.fact c.args.facts.now) c.are_kept.result c.are_kept.ensures.kept c.are_kept.ensures.not_kept
    (has_some g.F.TypedFact.fact c.args.facts.now (sym c.is_empty.ensures ∙ c.if-not-is_empty.true))
