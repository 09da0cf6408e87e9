use Rattle.std.proofs.Common.{rules, not}
use Rattle.std.proofs.lemmas.Map.Made.{filter_same_pairs}
use Rattle.watched_links.specs.Stages.{is_over}
use Rattle.watched_links.proofs.refused.forget_over.Goals as goal

pub returns : goal.returns
returns c = filter_same_pairs _ (λ e. not (is_over c.args.pause c.args.now e.1)) _ (λ k v b w f' t. search rules) _ _ c.retain.ensures.filtered
