-- What is left where sessions are forgotten.
use Rattle.std.proofs.Common.{◌≡◌, ℕ, true, List, [], ◌∷◌, ◌++◌, ◌⊎◌, inl, inr, refl, sym, ap, ◌∙◌, subst}
use Rattle.pcrf_values.specs.Facts.{Fact}
use Rattle.pcrf_values.specs.Held.{ends, is_ended, kept_set}
use Rattle.pcrf_values.specs.Sets.{In, Same}
use Rattle.pcrf_values.proofs.SetLaws.{In-left, any-In, In-any, Same-itself, Same-through}
use Rattle.pcrf_values.proofs.ShownLaws.{is_ended-kept, is_ended-Same}
use Rattle.pcrf_model.specs.Sessions.{Session}
use Rattle.pcrf_model.specs.Tables.{Tables}
use Rattle.pcrf_model.specs.Holdings.{Holding, facts_on, union, kept_of}
use Rattle.pcrf_model.specs.Steps.{SiteState}
use Rattle.pcrf_model.specs.Views.{View, view}
use Rattle.pcrf_model.proofs.UnionLaws.{kept_of-union, view-kept_of}
use Rattle.pcrf_model.proofs.NeighbourLaws.{which}
use Rattle.site_machine.specs.Forgotten.{has_ended, forgotten, LacksTheEnded}
use Rattle.ended_sessions.specs.Laws.{LivesAlike}
use Rattle.ended_sessions.proofs.Gone.{gone, elsewhere, on_kept, on_union, kept_on, union_on, forgetting_keeps}
use Rattle.ended_sessions.proofs.Alike.{leaves_the_live, lacking_reads_alike}
use Rattle.site_book.specs.Gains.{gain}
use Rattle.site_lock.specs.Deeds.{Deed, Entered, BegunAnew, Forgot, ChronicleValue, Runs, LeadsTo, after, forgotten_in}
use Rattle.site_lock.specs.Left.{gathered, taken, all_taken, HoldsWhatIsLeft, NoneAgain, ForgotForGood, LeavesTheRest, HistoriesLeaveTheRest, ForgettingChangesNoLife}
use Rattle.site_lock.proofs.Gains.{step_adds, holds_all}

-- ---- what is left

-- after each run what is held is what is kept of what was gathered
run_leaves : (t : Tables) (i : ℕ) (s z : SiteState) (h : Holding) (ds : List Deed) → s.holding ≡ kept_of h → Runs t i s ds z → z.holding ≡ kept_of (gathered t i s h ds)
run_leaves t i s z h [] held runs = ap (λ (x : SiteState). x.holding) (sym runs) ∙ held
run_leaves t i s z h (Entered x ∷ ds) held runs =
    let g : Holding = gain t i s x.event x.reply in
    run_leaves t i (after t i s (Entered x)) z (union h g) ds (step_adds t i s x.event x.reply ∙ ap (λ (k : Holding). kept_of (union k g)) held ∙ kept_of-union h g) runs.1
run_leaves t i s z h (BegunAnew ∷ ds) held runs = run_leaves t i (after t i s BegunAnew) z h ds held runs.1
run_leaves t i s z h (Forgot r ∷ ds) held runs =
    run_leaves t i (after t i s (Forgot r)) z (forgotten h r) ds (ap (λ (k : Holding). forgotten k r) held ∙ sym (forgetting_keeps h r)) runs.1

pub what_is_left : (opening : SiteState) (c : ChronicleValue) → kept_of opening.holding ≡ opening.holding → LeadsTo opening c.history c.site → HoldsWhatIsLeft opening c
what_is_left opening c kept leads = run_leaves c.site.tables c.site.number opening c.site.state opening.holding c.history (sym kept) leads

-- ---- beside all that was taken

-- of each session that isn't one of these both have the same
record Beside (gone : List Session) (h k : Holding) : Type 0 where
  same : (r : Session) → (In r gone → ⊥) → Same (facts_on h.facts r) (facts_on k.facts r)

module _ (t : Tables) (i : ℕ) where
  -- what was gathered stands beside what was taken
  runs_beside : (s : SiteState) (h k : Holding) (gone : List Session) (ds : List Deed) → Beside gone h k
      → (r : Session) → (In r gone → ⊥) → (In r (forgotten_in ds) → ⊥) → Same (facts_on (gathered t i s h ds).facts r) (facts_on (taken t i s k ds).facts r)
  runs_beside s h k gone [] b r out never = b.same r out
  runs_beside s h k gone (Entered x ∷ ds) b r out never =
      let g : Holding = gain t i s x.event x.reply in
      runs_beside (after t i s (Entered x)) (union h g) (union k g) gone ds (record { same = λ q o. union_on h k g q (b.same q o) }) r out never
  runs_beside s h k gone (BegunAnew ∷ ds) b r out never = runs_beside (after t i s BegunAnew) h k gone ds b r out never
  runs_beside s h k gone (Forgot f ∷ ds) b r out never =
      runs_beside (after t i s (Forgot f)) (forgotten h f) k (f ∷ gone) ds
      (record { same = λ q o. Same-through (facts_on (forgotten h f).facts q) (facts_on h.facts q) (facts_on k.facts q) (elsewhere h f q (λ e. o (inl e))) (b.same q (λ j. o (inr j))) })
      r (elim [ inl e ↦ never (inl e) | inr j ↦ out j ]) (λ j. never (inr j))

-- ---- where nothing is taken again

-- of each session both have the same; or it is one of these, the first has none, and the second shows that it ended
record LacksThese (gone : List Session) (h k : Holding) : Type 0 where
  each : (r : Session) → Same (facts_on h.facts r) (facts_on k.facts r) ⊎ (In r gone × (facts_on h.facts r ≡ []) × (is_ended (facts_on k.facts r) ≡ true))

-- what ended stays so with more
ended_more : (k g : Holding) (r : Session) → is_ended (facts_on k.facts r) ≡ true → is_ended (facts_on (union k g).facts r) ≡ true
ended_more k g r h =
    let f = any-In ends (facts_on k.facts r) h in
    In-any ends f.0 (facts_on (union k g).facts r) ((on_union k g r f.0).1 (In-left f.0 (facts_on k.facts r) (facts_on g.facts r) f.1)) f.2

-- what has no member is empty
nothing_in : {A : Type 0} (xs : List A) → Same xs [] → xs ≡ []
nothing_in [] h = refl
nothing_in (x ∷ xs) h = absurd ((h x).0 (inl refl))

-- nothing and nothing is nothing
none_more : (h g : Holding) (r : Session) → facts_on h.facts r ≡ [] → facts_on g.facts r ≡ [] → facts_on (union h g).facts r ≡ []
none_more h g r a b = nothing_in (facts_on (union h g).facts r) (subst (λ (fs : List Fact). Same (facts_on (union h g).facts r) fs) ((λ j. a j ++ b j)) (on_union h g r))

-- a session that ended by what is kept ended
ended_held : (h : Holding) (r : Session) → has_ended (kept_of h) r ≡ true → is_ended (facts_on h.facts r) ≡ true
ended_held h r e = sym (is_ended-kept (facts_on h.facts r)) ∙ sym (is_ended-Same (facts_on (kept_of h).facts r) (kept_set (facts_on h.facts r)) (on_kept h r)) ∙ e

module _ (t : Tables) (i : ℕ) where
  run_lacks : (s z : SiteState) (h k : Holding) (gone_ : List Session) (ds : List Deed) → s.holding ≡ kept_of h → LacksThese gone_ h k → Runs t i s ds z → NoneAgain t i s gone_ ds
      → LacksTheEnded (gathered t i s h ds).facts (taken t i s k ds).facts
  run_lacks s z h k gone_ [] held b runs again = record { each = λ r. elim (b.each r) [ inl e ↦ inl e | inr e ↦ inr (e.1, e.2) ] }
  run_lacks s z h k gone_ (Entered x ∷ ds) held b runs again =
      let g : Holding = gain t i s x.event x.reply in
      run_lacks (after t i s (Entered x)) z (union h g) (union k g) gone_ ds
      (step_adds t i s x.event x.reply ∙ ap (λ (q : Holding). kept_of (union q g)) held ∙ kept_of-union h g)
      (record { each = λ r. elim (b.each r) [ inl e ↦ inl (union_on h k g r e) | inr e ↦ inr (e.0, none_more h g r e.1 (again.0 r e.0), ended_more k g r e.2) ] })
      runs.1 again.1
  run_lacks s z h k gone_ (BegunAnew ∷ ds) held b runs again = run_lacks (after t i s BegunAnew) z h k gone_ ds held b runs.1 again
  run_lacks s z h k gone_ (Forgot f ∷ ds) held b runs again =
      run_lacks (after t i s (Forgot f)) z (forgotten h f) k (f ∷ gone_) ds (ap (λ (q : Holding). forgotten q f) held ∙ sym (forgetting_keeps h f))
      (record { each = lacking }) runs.1 again
    where
      ended : is_ended (facts_on h.facts f) ≡ true
      ended = ended_held h f (ap (λ (q : Holding). has_ended q f) (sym held) ∙ runs.0)

      ended_there : is_ended (facts_on k.facts f) ≡ true
      ended_there = elim (b.each f) [
        | inl e ↦ sym (is_ended-Same (facts_on h.facts f) (facts_on k.facts f) e) ∙ ended
        | inr e ↦ e.2
      ]

      lacking : (r : Session) → Same (facts_on (forgotten h f).facts r) (facts_on k.facts r) ⊎ (In r (f ∷ gone_) × (facts_on (forgotten h f).facts r ≡ []) × (is_ended (facts_on k.facts r) ≡ true))
      lacking r = elim (which f r) [
        | inl e ↦ inr (inl e, ap (λ (q : Session). facts_on (forgotten h f).facts q) e ∙ gone h f, ap (λ (q : Session). is_ended (facts_on k.facts q)) e ∙ ended_there)
        | inr n ↦ elim (b.each r) [
          | inl e ↦ inl (Same-through (facts_on (forgotten h f).facts r) (facts_on h.facts r) (facts_on k.facts r) (elsewhere h f r n) e)
          | inr e ↦ inr (inr e.0, nothing_in (facts_on (forgotten h f).facts r) (subst (λ (fs : List Fact). Same (facts_on (forgotten h f).facts r) fs) e.1 (elsewhere h f r n)), e.2)
        ]
      ]

-- what is kept lacks the ended too
kept_lacks : (h k : Holding) → LacksTheEnded h.facts k.facts → LacksTheEnded (kept_of h).facts (kept_of k).facts
kept_lacks h k b = record {
  each = λ r. elim (b.each r) [
    | inl e ↦ inl (kept_on h k r e)
    | inr e ↦ inr (
      nothing_in (facts_on (kept_of h).facts r) (subst (λ (fs : List Fact). Same (facts_on (kept_of h).facts r) fs) (ap kept_set e.0) (on_kept h r)),
      is_ended-Same (facts_on (kept_of k).facts r) (kept_set (facts_on k.facts r)) (on_kept k r) ∙ is_ended-kept (facts_on k.facts r) ∙ e.1,
    )
  ];
}

module _ (opening : SiteState) (c : ChronicleValue) (kept : kept_of opening.holding ≡ opening.holding) (leads : LeadsTo opening c.history c.site) where
  -- all that was gathered, and all that was taken
  abbrev left_of_all : Holding
  left_of_all = gathered c.site.tables c.site.number opening opening.holding c.history

  abbrev all_of_it : Holding
  all_of_it = all_taken opening c

  left : c.site.state.holding ≡ kept_of left_of_all
  left = what_is_left opening c kept leads

  same_of : (r : Session) → (In r (forgotten_in c.history) → ⊥) → Same (facts_on c.site.state.holding.facts r) (facts_on (kept_of all_of_it).facts r)
  same_of r never = subst (λ (h : Holding). Same (facts_on h.facts r) (facts_on (kept_of all_of_it).facts r)) (sym left)
      (kept_on left_of_all all_of_it r (runs_beside c.site.tables c.site.number opening opening.holding opening.holding [] c.history (record { same = λ q o. Same-itself (facts_on opening.holding.facts q) }) r (λ j. absurd j) never))

  lacking_all : ForgotForGood opening c → LacksTheEnded c.site.state.holding.facts (kept_of all_of_it).facts
  lacking_all again = subst (λ (h : Holding). LacksTheEnded h.facts (kept_of all_of_it).facts) (sym left)
      (kept_lacks left_of_all all_of_it (run_lacks c.site.tables c.site.number opening c.site.state opening.holding opening.holding [] c.history (sym kept)
      (record { each = λ r. inl (Same-itself (facts_on opening.holding.facts r)) }) leads again))

  reads_alike : ForgotForGood opening c → LivesAlike (view c.site.state.holding.facts) (view all_of_it.facts)
  reads_alike again = subst (λ (v : View). LivesAlike (view c.site.state.holding.facts) v) (view-kept_of all_of_it) (lacking_reads_alike c.site.state.holding.facts (kept_of all_of_it).facts (lacking_all again))

  leaves : LeavesTheRest opening c
  leaves = record {
    each = same_of;
    none = λ none seats. holds_all seats opening c none kept leads;
    lacks = lacking_all;
    alike = reads_alike;
  }

pub leave_the_rest : HistoriesLeaveTheRest
leave_the_rest opening c kept leads = leaves opening c kept leads

pub no_life_changes : ForgettingChangesNoLife
no_life_changes t i s r may = leaves_the_live s.holding r may
