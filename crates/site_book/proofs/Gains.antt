-- What the entries of a history added.
use Rattle.std.proofs.Common.{◌≡◌, ℕ, List, [], ◌∷◌, map, Option, Some, None, refl, sym, ◌∙◌, ap}
use Rattle.pcrf_values.specs.Limits.{delta_limit}
use Rattle.pcrf_model.specs.Tables.{Tables}
use Rattle.pcrf_model.specs.Holdings.{Holding, nothing_held, union, kept_of}
use Rattle.pcrf_model.specs.Operations.{Operation}
use Rattle.pcrf_model.specs.Replies.{ReplyValue, Taken}
use Rattle.pcrf_model.specs.Serving.{serve}
use Rattle.pcrf_model.specs.Pushing.{push}
use Rattle.pcrf_model.specs.Aborting.{abort}
use Rattle.pcrf_model.specs.Retelling.{retell}
use Rattle.pcrf_model.specs.Steps.{SiteState, SiteEvent, Replays, with_own, state_after, kept_state_after, Serve, Push, Ops, Whole, AskOwn, AskWhole, Abort, Retell}
use Rattle.pcrf_model.proofs.UnionLaws.{union_assoc, union_nothing, kept_of-union, kept_of_twice}
use Rattle.site_book.specs.Books.{BookValue, called, IsHistoryOf}
use Rattle.site_book.specs.Gains.{gain, gained, holding_added, HoldsAll}

added : (s : SiteState) (o : Option Operation) → kept_of (with_own s o).holding ≡ kept_of (union s.holding (holding_added o))
added s None = sym (union_nothing s.holding)
added s (Some o) = refl

-- what is kept after a step is what is kept of the union of what was held and what it adds
step_adds : (t : Tables) (i : ℕ) (s : SiteState) (e : SiteEvent) (r : ReplyValue) → kept_of (state_after delta_limit t i s e r).holding ≡ kept_of (union s.holding (gain t i s e r))
step_adds t i s (Serve q) r = added s (serve delta_limit t i s.holding q).added
step_adds t i s (Push name) r = added s (push delta_limit t i s.holding name).added
step_adds t i s (Ops os) (Taken n) = refl
step_adds t i s (Whole k) r = refl
step_adds t i s (Abort name) r = added s (abort i s.holding name).added
step_adds t i s (Retell id) r = added s (retell i s.holding id).added
step_adds t i s e r = sym (union_nothing s.holding)

-- so it is after all of them
replay_adds : (t : Tables) (i : ℕ) (s z : SiteState) (xs : List (SiteEvent × ReplyValue)) → kept_of s.holding ≡ s.holding → Replays delta_limit t i s xs z
    → z.holding ≡ kept_of (union s.holding (gained t i s xs))
replay_adds t i s z [] kept same = ap (λ (x : SiteState). x.holding) (sym same) ∙ sym kept ∙ sym (union_nothing s.holding)
replay_adds t i s z (x ∷ xs) kept rep =
    let next : SiteState = kept_state_after delta_limit t i s x.0 x.1 in
    let rest : Holding = gained t i next xs in
    let first : Holding = gain t i s x.0 x.1 in
    replay_adds t i next z xs (kept_of_twice (state_after delta_limit t i s x.0 x.1).holding) rep.1
    ∙ ap (λ (h : Holding). kept_of (union h rest)) (step_adds t i s x.0 x.1)
    ∙ kept_of-union (union s.holding first) rest
    ∙ ap kept_of (union_assoc s.holding first rest)

-- a site to which a history leads holds what is kept of the opening and of all that was added
pub holds_all : (b : BookValue) → kept_of b.opening.holding ≡ b.opening.holding → IsHistoryOf b → HoldsAll b
holds_all b kept history = replay_adds b.site.tables b.site.number b.opening b.site.state (map called b.history) kept history
