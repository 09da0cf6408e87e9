use Rattle.std.proofs.Common.{sym, ◌∙◌}
use Rattle.std.proofs.lemmas.Result.{on_ok_weaker}
use Rattle.pcrf_model.specs.Views.{view}
use Rattle.pcc_rules.proofs.Keeping.{kept_is, one_kept_or_not, its_kept}
use Rattle.pcc_rules.proofs.cached.Rules.fill.Goals as goal

pub returns-then-is_some-clause-filled : goal.returns-then-is_some-clause-filled
returns-then-is_some-clause-filled c =
    kept_is c.args.tables.now (view c.args.state.now.facts) c.args.self.now c.requires.kept (λ x. x.now) c.args.session.now c.get.result c.get.ensures (sym c.is_some.ensures ∙ c.if-is_some.true)

pub returns-clause-filled : goal.returns-clause-filled
returns-clause-filled c =
    on_ok_weaker c.keep.result
    (λ keeps. its_kept c.args.tables.now (view c.args.state.now.facts) c.args.self.now c.requires.kept c.args.session.now c.in_ok-made.made.items
    (c.in_ok-made.ensures.derived c.requires.covers) (c.in_ok-made.ensures.names_apart c.requires.covers) c.keep.new.self keeps)
    c.keep.ensures.kept

pub returns-clause-kept : goal.returns-clause-kept
returns-clause-kept c =
    one_kept_or_not c.args.tables.now (view c.args.state.now.facts) c.args.self.now c.requires.kept c.args.session.now c.in_ok-made.made.items
    (c.in_ok-made.ensures.derived c.requires.covers) (c.in_ok-made.ensures.names_apart c.requires.covers) c.keep.result c.keep.new.self c.keep.ensures.kept c.keep.ensures.unchanged
