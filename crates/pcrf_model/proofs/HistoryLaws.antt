-- Histories by what is kept after each event.
use Rattle.std.proofs.Common.{◌≡◌, ℕ, [], ◌∷◌, sym, subst}
use Rattle.pcrf_model.specs.Tables.{Tables}
use Rattle.pcrf_model.specs.Replies.{ReplyValue}
use Rattle.pcrf_model.specs.Steps.{SiteState, kept_state, SiteEvent, state_after, kept_state_after, Replays}
use Rattle.pcrf_model.specs.Laws.{HistoriesCompose, HistoriesKeep}
use Rattle.pcrf_model.proofs.UnionLaws.{kept_of_twice}

-- one after the other
pub compose : HistoriesCompose
compose most t i before between after [] ys first second = subst (λ (s : SiteState). Replays most t i s ys after) (sym first) second
compose most t i before between after (x ∷ xs) ys first second = (first.0, compose most t i (kept_state_after most t i before x.0 x.1) between after xs ys first.1 second)

-- what an event leaves is kept
left_is_kept : (most : ℕ) (t : Tables) (i : ℕ) (s : SiteState) (e : SiteEvent) (r : ReplyValue) → kept_state (kept_state_after most t i s e r) ≡ kept_state_after most t i s e r
left_is_kept most t i s e r =
    let z : SiteState = state_after most t i s e r in
    let held = kept_of_twice z.holding in
    λ j. record { holding = held j; log = z.log }

-- to the end
pub keep : HistoriesKeep
keep most t i before after [] kept is = subst (λ (s : SiteState). kept_state s ≡ s) is kept
keep most t i before after (x ∷ xs) kept is = keep most t i (kept_state_after most t i before x.0 x.1) after xs (left_is_kept most t i before x.0 x.1) is.1
