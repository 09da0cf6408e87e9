-- A binding reads what the Gx sessions and the AF session itself show, and no more.
use Rattle.std.proofs.Common.{◌≡◌, ℕ, true, List, [], Option, Some, None, refl, sym, ap, ◌∙◌, subst, option_map}
use Rattle.std.specs.List.{filter_map}
use Rattle.pcrf_values.specs.Sets.{In}
use Rattle.pcrf_values.proofs.Plain.{clash, came_from}
use Rattle.pcrf_values.proofs.SetLaws.{Same-back, In-filter_map, filter_map-In, greatest-Same}
use Rattle.pcrf_values.specs.Facts.{Fact}
use Rattle.pcrf_values.specs.Held.{kept_list, entry_shown, removed_parts, is_ended, is_aborted}
use Rattle.pcrf_values.specs.FactLaws.{ShowTheSame}
use Rattle.pcrf_values.proofs.ShownLaws.{members_show_the_same, held_shows_the_same}
use Rattle.pcrf_model.specs.Bindings.{Candidate, candidate_cmp, candidate, matches, standing, bind}
use Rattle.pcrf_model.specs.Holdings.{SessionFact, Holding, facts_on}
use Rattle.pcrf_model.specs.Live.{is_live}
use Rattle.pcrf_model.specs.Sessions.{Session, Kind, Gx, Af, gx, af, is_gx}
use Rattle.pcrf_model.specs.Views.{View, view}
use Rattle.pcrf_model.proofs.BindLaws.{candidate_ranked, matched, of_gx, gx_is, live-known}
use Rattle.pcrf_model.proofs.HoldingLaws.{replaces_one}
use Rattle.bind_index.specs.Asking.{with_record}
use Rattle.bind_index.specs.Beside.{of_kind, beside}
use Rattle.bind_index.specs.Matches.{match_of}

-- ---- what a candidate says

-- what is mapped from something was there
pub was_there : {A B : Type 0} (f : A → B) (x : Option A) (y : B) → option_map f x ≡ Some y → (z : A) × (x ≡ Some z)
was_there f None y h = absurd (cc)
was_there f (Some z) y h = (z, refl)

module _ (v : View) (a s : Session) (c : Candidate) (h : candidate v a s ≡ Some c) where
  -- it is a Gx session
  pub of_gateway : gx s.id ≡ s
  of_gateway = gx_is s s.kind refl (of_gx v a s (came_from (matches v a s) (standing v s) c h).0)

  -- and is live
  pub candidate_lives : is_live v s ≡ true
  candidate_lives = (matched v a s (came_from (matches v a s) (standing v s) c h).0).lives

-- so it is known
pub candidate_known : (facts : List SessionFact) (a s : Session) (c : Candidate) → candidate (view facts) a s ≡ Some c → In s (view facts).sessions
candidate_known facts a s c h = live-known facts s (candidate_lives (view facts) a s c h)

-- ---- two sessions that show the same

-- of either kind
same_by_kind : (k : Kind) (gxs gys afs ays : List Fact) → ShowTheSame gxs gys → ShowTheSame afs ays → ShowTheSame (of_kind k gxs afs) (of_kind k gys ays)
same_by_kind Gx gxs gys afs ays g f = g
same_by_kind Af gxs gys afs ays g f = f

-- they are read alike
beside_same : (gxs gys afs ays : List Fact) → ShowTheSame gxs gys → ShowTheSame afs ays → beside gxs afs ≡ beside gys ays
beside_same gxs gys afs ays g f = λ i. record {
  shows = λ s p. (same_by_kind s.kind gxs gys afs ays g f).shows p i;
  ended = λ s. (same_by_kind s.kind gxs gys afs ays g f).ended i;
  removals = λ s. (same_by_kind s.kind gxs gys afs ays g f).removals i;
  aborted = λ s. (same_by_kind s.kind gxs gys afs ays g f).aborts i;
  all = [];
  sessions = [];
}

-- ---- facts with a record

-- The second facts show of each Gx session what the first show, and of the AF session what the record shows.
pub record HasRecord (first : List SessionFact) (asking : List Fact) (second : List SessionFact) (a : List ℕ) : Type 0 where
  pub gateways : (id : List ℕ) → ShowTheSame (facts_on first (gx id)) (facts_on second (gx id))
  pub own : ShowTheSame asking (facts_on second (af a))

-- the same facts show the same
same_facts : (xs ys : List Fact) → xs ≡ ys → ShowTheSame xs ys
same_facts xs ys e = record { shows = λ p. ap (λ (fs : List Fact). entry_shown fs p) e; ended = ap is_ended e; removals = ap removed_parts e; aborts = ap is_aborted e }

-- so it is where each Gx session has the same facts, and the record is what is kept of the AF session's
pub kept_record : (first : List SessionFact) (asking : List Fact) (second : List SessionFact) (a : List ℕ)
    → ((id : List ℕ) → facts_on first (gx id) ≡ facts_on second (gx id)) → asking ≡ kept_list (facts_on second (af a)) → HasRecord first asking second a
kept_record first asking second a gateways own = record {
  gateways = λ id. same_facts (facts_on first (gx id)) (facts_on second (gx id)) (gateways id);
  own = subst (λ (fs : List Fact). ShowTheSame fs (facts_on second (af a))) (sym own) (held_shows_the_same (facts_on second (af a)));
}

-- and where the record is the session's own
pub own_record : (facts : List SessionFact) (asking : List Fact) (a : List ℕ) → asking ≡ facts_on facts (af a) → HasRecord facts asking facts a
own_record facts asking a own = record {
  gateways = λ id. same_facts (facts_on facts (gx id)) (facts_on facts (gx id)) refl;
  own = same_facts asking (facts_on facts (af a)) own;
}

-- and where it is put in the place of the session's facts
pub placed_record : (h : Holding) (asking : List Fact) (a : List ℕ) → HasRecord h.facts asking (with_record h (af a) asking).facts a
placed_record h asking a =
    let placed : List SessionFact = (with_record h (af a) asking).facts in
    let one = replaces_one h (af a) asking h.clock in
    record {
      gateways = λ id.
          let other : gx id ≡ af a → ⊥ = λ e. clash true refl (ap (λ (s : Session). is_gx s.kind) e) in
          members_show_the_same (facts_on h.facts (gx id)) (facts_on placed (gx id)) (Same-back (facts_on placed (gx id)) (facts_on h.facts (gx id)) (one.elsewhere (gx id) other));
      own = members_show_the_same asking (facts_on placed (af a)) (Same-back (facts_on placed (af a)) asking one.there);
    }

-- a Gx session matches as the record and its own facts say
pub match_is : (first : List SessionFact) (asking : List Fact) (second : List SessionFact) (a : List ℕ) → HasRecord first asking second a
    → (id : List ℕ) → match_of asking id (facts_on first (gx id)) ≡ candidate (view second) (af a) (gx id)
unfolding view
match_is first asking second a w id = λ i.
    candidate (beside_same (facts_on first (gx id)) (facts_on second (gx id)) asking (facts_on second (af a)) (w.gateways id) w.own i) (af []) (gx id)

-- ---- the same binding

-- the candidates of the AF session by these facts
abbrev candidates : List SessionFact → List ℕ → List Candidate
candidates facts a = filter_map (candidate (view facts) (af a)) (view facts).sessions

-- where two lists of facts have the record, each candidate by the one is a candidate by the other
candidate_stays : (first : List SessionFact) (asking : List Fact) (xs ys : List SessionFact) (a : List ℕ) → HasRecord first asking xs a → HasRecord first asking ys a
    → (c : Candidate) → In c (candidates xs a) → In c (candidates ys a)
candidate_stays first asking xs ys a v w c i =
    let s = filter_map-In (candidate (view xs) (af a)) c (view xs).sessions i in
    let id : List ℕ = s.0.id in
    let stands : candidate (view ys) (af a) (gx id) ≡ Some c =
    sym (match_is first asking ys a w id)
    ∙ match_is first asking xs a v id
    ∙ ap (candidate (view xs) (af a)) (of_gateway (view xs) (af a) s.0 c s.2)
    ∙ s.2 in
    In-filter_map (candidate (view ys) (af a)) (gx id) c (view ys).sessions (candidate_known ys (af a) (gx id) c stands) stands

-- so with the record in its place the session is bound as by any facts that have the record
pub record_decides : (h : Holding) (asking : List Fact) (facts : List SessionFact) (a : List ℕ) → HasRecord h.facts asking facts a
    → bind (view (with_record h (af a) asking).facts) (af a) ≡ bind (view facts) (af a)
unfolding bind
record_decides h asking facts a w =
    let placed : List SessionFact = (with_record h (af a) asking).facts in
    let v = placed_record h asking a in
    ap (option_map (λ (c : Candidate). gx c.1.1))
    (greatest-Same candidate_cmp candidate_ranked.total candidate_ranked.same (candidates facts a) (candidates placed a)
    (λ c. (candidate_stays h.facts asking facts placed a w v c, candidate_stays h.facts asking placed facts a v w c)))
