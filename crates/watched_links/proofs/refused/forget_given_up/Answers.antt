use Rattle.std.proofs.Common.{rules, not}
use Rattle.std.proofs.lemmas.Map.Made.{filter_same_pairs}
use Rattle.watched_links.specs.Stages.{is_given_up}
use Rattle.watched_links.proofs.refused.forget_given_up.Goals as goal

pub returns : goal.returns
returns c = filter_same_pairs _ (λ e. not (is_given_up e.1)) _ (λ k v b w f' t. search rules) _ _ c.retain.ensures.filtered
