-- What the entries of a history added. A new beginning adds nothing, and nothing is forgotten here.
use Rattle.std.proofs.Common.{◌≡◌, ℕ, List, [], ◌∷◌, map, Option, Some, None, refl, sym, ◌∙◌, ap}
use Rattle.pcrf_values.specs.Limits.{delta_limit}
use Rattle.pcrf_model.specs.Tables.{Tables}
use Rattle.pcrf_model.specs.Holdings.{Holding, union, kept_of}
use Rattle.pcrf_model.specs.Operations.{Operation}
use Rattle.pcrf_model.specs.Replies.{ReplyValue, Taken}
use Rattle.pcrf_model.specs.Serving.{serve}
use Rattle.pcrf_model.specs.Pushing.{push}
use Rattle.pcrf_model.specs.Aborting.{abort}
use Rattle.pcrf_model.specs.Retelling.{retell}
use Rattle.pcrf_model.specs.Steps.{SiteState, SiteEvent, with_own, state_after, kept_state_after, Serve, Push, Ops, Whole, Abort, Retell}
use Rattle.pcrf_model.proofs.UnionLaws.{union_assoc, union_nothing, kept_of-union, kept_of_twice}
use Rattle.site_book.specs.Books.{called}
use Rattle.site_book.specs.Gains.{gain, gained, holding_added, HoldsAll}
use Rattle.site_lock.specs.Deeds.{Deed, Entered, BegunAnew, Forgot, ChronicleValue, Runs, LeadsTo, calls, begun_anew, as_book, forgotten_in}

added : (s : SiteState) (o : Option Operation) → kept_of (with_own s o).holding ≡ kept_of (union s.holding (holding_added o))
added s None = sym (union_nothing s.holding)
added s (Some o) = refl

-- what is kept after a step is what is kept of the union of what was held and what it adds
pub step_adds : (t : Tables) (i : ℕ) (s : SiteState) (e : SiteEvent) (r : ReplyValue) → kept_of (state_after delta_limit t i s e r).holding ≡ kept_of (union s.holding (gain t i s e r))
step_adds t i s (Serve q) r = added s (serve delta_limit t i s.holding q).added
step_adds t i s (Push name) r = added s (push delta_limit t i s.holding name).added
step_adds t i s (Ops os) (Taken n) = refl
step_adds t i s (Whole k) r = refl
step_adds t i s (Abort name) r = added s (abort i s.holding name).added
step_adds t i s (Retell id) r = added s (retell i s.holding id).added
step_adds t i s e r = sym (union_nothing s.holding)

-- what it adds doesn't depend on what was made before
same_gain : (t : Tables) (i : ℕ) (s q : SiteState) (e : SiteEvent) (r : ReplyValue) → s.holding ≡ q.holding → gain t i s e r ≡ gain t i q e r
same_gain t i s q (Serve x) r same = ap (λ (h : Holding). holding_added (serve delta_limit t i h x).added) same
same_gain t i s q (Push name) r same = ap (λ (h : Holding). holding_added (push delta_limit t i h name).added) same
same_gain t i s q (Ops os) (Taken n) same = refl
same_gain t i s q (Whole k) r same = refl
same_gain t i s q (Abort name) r same = ap (λ (h : Holding). holding_added (abort i h name).added) same
same_gain t i s q (Retell id) r same = ap (λ (h : Holding). holding_added (retell i h id).added) same
same_gain t i s q e r same = refl

same_after : (t : Tables) (i : ℕ) (s q : SiteState) (e : SiteEvent) (r : ReplyValue) → s.holding ≡ q.holding
    → (kept_state_after delta_limit t i s e r).holding ≡ (kept_state_after delta_limit t i q e r).holding
same_after t i s q e r same =
    step_adds t i s e r
    ∙ (ap (λ (h : Holding). kept_of (union h (gain t i s e r))) same
    ∙ (ap (λ (g : Holding). kept_of (union q.holding g)) (same_gain t i s q e r same)
    ∙ sym (step_adds t i q e r)))

-- so it is after all of them, where none is forgotten
run_adds : (t : Tables) (i : ℕ) (s q z : SiteState) (ds : List Deed) → forgotten_in ds ≡ [] → s.holding ≡ q.holding → kept_of s.holding ≡ s.holding → Runs t i s ds z
    → z.holding ≡ kept_of (union q.holding (gained t i q (map called (calls ds))))
run_adds t i s q z [] none same kept runs = ap (λ (x : SiteState). x.holding) (sym runs) ∙ sym kept ∙ ap kept_of same ∙ sym (union_nothing q.holding)
run_adds t i s q z (Entered x ∷ ds) none same kept runs =
    let next : SiteState = kept_state_after delta_limit t i s x.event x.reply in
    let there : SiteState = kept_state_after delta_limit t i q x.event x.reply in
    let first : Holding = gain t i q x.event x.reply in
    let rest : Holding = gained t i there (map called (calls ds)) in
    run_adds t i next there z ds none (same_after t i s q x.event x.reply same) (kept_of_twice (state_after delta_limit t i s x.event x.reply).holding) runs.1
    ∙ ap (λ (h : Holding). kept_of (union h rest)) (step_adds t i q x.event x.reply)
    ∙ kept_of-union (union q.holding first) rest
    ∙ ap kept_of (union_assoc q.holding first rest)
run_adds t i s q z (BegunAnew ∷ ds) none same kept runs = run_adds t i (begun_anew s) q z ds none same kept runs.1
run_adds t i s q z (Forgot r ∷ ds) none same kept runs = absurd (cc)

-- a site to which a history leads in which none is forgotten holds what is kept of the opening and of all that was added
pub holds_all : (seats : ℕ) (opening : SiteState) (c : ChronicleValue) → forgotten_in c.history ≡ [] → kept_of opening.holding ≡ opening.holding → LeadsTo opening c.history c.site → HoldsAll (as_book seats opening c)
holds_all seats opening c none kept leads = run_adds c.site.tables c.site.number opening opening c.site.state c.history none refl kept leads
