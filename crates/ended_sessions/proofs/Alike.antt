-- All that is read of sessions that live, where sessions are lacking that have ended.
use Rattle.std.proofs.Common.{◌≡◌, ℕ, Bool, true, false, cond, not, ◌&&◌, List, [], ◌∷◌, ◌++◌, ◌⊎◌, Option, Some, None, find, inl, inr, map, refl, sym, ap, ◌∙◌, option_map, option_and_then, unwrap_or}
use Rattle.std.specs.Cmp.{first_so, second_so}
use Rattle.std.specs.Prelude.{is_some, is_none}
use Rattle.std.specs.Ordering.{is_eq, is_lt}
use Rattle.std.specs.List.{filter, filter_map, list_all}
use Rattle.pcrf_values.specs.Ascending.{ascending, Rises}
use Rattle.pcrf_values.specs.Sets.{In}
use Rattle.pcrf_values.specs.Facts.{Fact, End, Removed, Field, Aborted}
use Rattle.pcrf_values.specs.Held.{ends, is_ended, blocks, is_gone, entry_shown, greatest_entry}
use Rattle.pcrf_values.specs.Places.{Place, address, prefix, apn, subscribers}
use Rattle.pcrf_values.specs.Values.{Entry}
use Rattle.pcrf_values.specs.Live.{gx_has_what_it_needs, af_has_what_it_needs, shows_at}
use Rattle.pcrf_values.proofs.Plain.{clash, is_false, lt_less}
use Rattle.pcrf_values.proofs.SetLaws.{In-any, any-In, In-filter, filter-In, both_top}
use Rattle.pcrf_values.proofs.AscendingLaws.{ascending-ascending, same_ascending, filter-ascending}
use Rattle.pcrf_values.proofs.ShownLaws.{members_show_the_same}
use Rattle.pcrf_model.specs.Sessions.{Kind, Gx, Af, Session, session_cmp, is_gx}
use Rattle.pcrf_model.specs.Holdings.{SessionFact, facts_on}
use Rattle.pcrf_model.specs.Views.{View, Shown, shown_cmp, entry_shown_on, shown_by_fact, view, value}
use Rattle.pcrf_model.specs.Live.{is_live, has_what_it_needs, home}
use Rattle.pcrf_model.specs.Bindings.{party, suits, matches, standing, bind, is_bound_to}
use Rattle.pcrf_model.specs.Tables.{Tables}
use Rattle.pcrf_model.specs.Rules.{flow_at, rule_of, rule_at, operator_rules, flow_rules, listed_cmp, rules}
use Rattle.pcrf_model.specs.Differences.{told_rules_of, difference, is_empty}
use Rattle.pcrf_model.specs.Pushing.{is_of_host, is_home, is_due, due_session}
use Rattle.pcrf_model.specs.Aborting.{client_places, is_abandoned, abandoned_session}
use Rattle.pcrf_model.specs.SiteOverviews.{bound_value, binding_id, bindings_of}
use Rattle.pcrf_model.specs.Laws.{IsBinding, Exceeds}
use Rattle.pcrf_model.proofs.HoldingLaws.{session_ranked}
use Rattle.pcrf_model.proofs.ViewLaws.{its_session, shown_ranked, In-all, all-shows}
use Rattle.pcrf_model.proofs.BindLaws.{bind-greatest, bind-none, live-known}
use Rattle.pcrf_model.proofs.DueLaws.{first_passing, none_passing}
use Rattle.pcrf_model.proofs.AbortingLaws.{abandoned_lives}
use Rattle.ended_sessions.specs.Forgotten.{forgotten, LacksTheEnded}
use Rattle.ended_sessions.specs.Laws.{LivesAlike, LackingTheEndedReadsAlike, ForgettingLeavesTheLive}
use Rattle.ended_sessions.proofs.Gone.{lacks_one}

-- ---- what has ended shows nothing

-- where there is the end, each place is blocked
end_blocks : (p : Place) (f : Fact) → ends f ≡ true → blocks p f ≡ true
end_blocks p End h = refl
end_blocks p (Removed r) h = clash false h refl
end_blocks p (Field q t v) h = clash false h refl
end_blocks p Aborted h = clash false h refl

ended_gone : (facts : List Fact) (p : Place) → is_ended facts ≡ true → is_gone facts p ≡ true
ended_gone facts p h = let r = any-In ends facts h in In-any (blocks p) r.0 facts r.1 (end_blocks p r.0 r.2)

ended_shows : (facts : List Fact) (p : Place) → is_ended facts ≡ true → entry_shown facts p ≡ None
ended_shows facts p h = ap (λ b. cond b None (greatest_entry facts p)) (ended_gone facts p h)

-- a view in which every session shows this, and no other thing is so
abbrev only : (Session → Place → Option Entry) → View
only shows = record { shows = shows; ended = λ s. false; removals = λ s. []; aborted = λ s. false; all = []; sessions = [] }

-- a view that lists this
abbrev listing : List Shown → View
listing all = record { shows = λ s p. None; ended = λ s. false; removals = λ s. []; aborted = λ s. false; all = all; sessions = [] }

-- what shows nothing isn't live
nothing_shown : Place → Option Entry
nothing_shown p = None

needs_something : (k : Kind) (s : Session) (v : View) → v.shows s ≡ nothing_shown → has_what_it_needs v s k ≡ false
unfolding nothing_shown
needs_something Gx s v h = ap gx_has_what_it_needs h
needs_something Af s v h = ap af_has_what_it_needs h

never : (b c : Bool) → c ≡ false → (b && c) ≡ false
never true c h = h
never false c h = refl

both_false : (a b : Bool) → a ≡ false → b ≡ false → a ≡ b
both_false a b h k = h ∙ sym k

-- who is due is live
due_lives : (t : Tables) (i : ℕ) (v : View) (name : Option (List ℕ)) (s : Session) → is_due t i v name s ≡ true → is_live v s ≡ true
due_lives t i v name s h = second_so (is_gx s.kind) _ (first_so _ _ (first_so _ _ (first_so _ _ h)))

-- a list of what some have goes by those that have some
through : {A B : Type 0} (f : A → Option B) (xs : List A) → filter_map f xs ≡ filter_map f (filter (λ x. is_some (f x)) xs)
through f [] = refl
through {B = B} f (x ∷ xs) = by (f x) refl (through f xs)
  where
    by : (o : Option B) → f x ≡ o → filter_map f xs ≡ filter_map f (filter (λ y. is_some (f y)) xs) → filter_map f (x ∷ xs) ≡ filter_map f (filter (λ y. is_some (f y)) (x ∷ xs))
    by None h rest = rw h rest
    by (Some y) h rest = rw (h, h) (ap (λ ys. y ∷ ys) rest)

-- ---- the two views

module _ (xs ys : List SessionFact) (lacks : LacksTheEnded xs ys) where
  abbrev v : View
  v = view xs

  abbrev w : View
  w = view ys

  -- of each session both say the same, or neither shows anything
  record SaysAlike (s : Session) : Type 0 where
    ended : v.ended s ≡ w.ended s
    aborted : v.aborted s ≡ w.aborted s

  record SaysNothing (s : Session) : Type 0 where
    first : v.shows s ≡ nothing_shown
    second : w.shows s ≡ nothing_shown

  same_or_none : (s : Session) → (v.shows s ≡ w.shows s) × (SaysAlike s ⊎ SaysNothing s)
  unfolding view nothing_shown
  same_or_none s = elim (lacks.each s) [
    | inl h ↦ (let k = members_show_the_same (facts_on xs s) (facts_on ys s) h in (λ i p. k.shows p i, inl (record { ended = k.ended; aborted = k.aborts })))
    | inr h ↦ (
        let none : (p : Place) → entry_shown (facts_on xs s) p ≡ None = λ p. ap (λ fs. entry_shown fs p) h.0 in
        let other : (p : Place) → entry_shown (facts_on ys s) p ≡ None = λ p. ended_shows (facts_on ys s) p h.1 in
        (λ i p. (none p ∙ sym (other p)) i, inr (record { first = λ i p. none p i; second = λ i p. other p i })))
  ]

  shown : v.shows ≡ w.shows
  shown = λ i s. (same_or_none s).0 i

  -- who shows nothing isn't live
  dead : (s : Session) → SaysNothing s → is_live v s ≡ false
  dead s h = never (not (v.ended s)) (has_what_it_needs v s s.kind) (needs_something s.kind s v h.first)

  dead_too : (s : Session) → SaysNothing s → is_live w s ≡ false
  dead_too s h = never (not (w.ended s)) (has_what_it_needs w s s.kind) (needs_something s.kind s w h.second)

  -- the same live
  lives : (s : Session) → is_live v s ≡ is_live w s
  lives s = elim (same_or_none s).1 [
    | inl h ↦ (λ i. not (h.ended i) && has_what_it_needs (only (shown i)) s s.kind)
    | inr h ↦ both_false (is_live v s) (is_live w s) (dead s h) (dead_too s h)
  ]

  -- ---- bindings

  party_alike : (s : Session) → party v s ≡ party w s
  party_alike s = λ i. record {
    live = lives s i;
    address = value (only (shown i)) s address;
    prefix = value (only (shown i)) s prefix;
    subscribers = value (only (shown i)) s subscribers;
    apn = value (only (shown i)) s apn;
  }

  match_alike : (a s : Session) → matches v a s ≡ matches w a s
  match_alike a s = λ i. not (is_gx a.kind) && is_gx s.kind && suits (party_alike a i) (party_alike s i)

  stands_alike : (s : Session) → standing v s ≡ standing w s
  stands_alike s = λ i. standing (only (shown i)) s

  exceeds_back : (r s : Session) → Exceeds w r s → Exceeds v r s
  exceeds_back r s x = record {
    upper = x.upper;
    lower = x.lower;
    of_upper = stands_alike r ∙ x.of_upper;
    of_lower = stands_alike s ∙ x.of_lower;
    above = x.above;
  }

  binding_there : (a s : Session) → IsBinding v a s → IsBinding w a s
  binding_there a s b = record {
    fits = sym (match_alike a s) ∙ b.fits;
    no_other = λ r m x. b.no_other r (match_alike a r ∙ m) (exceeds_back r s x);
  }

  bind_alike : (a : Session) → bind v a ≡ bind w a
  bind_alike a = by (bind v a) refl
    where
      by : (o : Option Session) → bind v a ≡ o → bind v a ≡ bind w a
      by None h = h ∙ sym ((bind-none ys a).1 (λ s. sym (match_alike a s) ∙ (bind-none xs a).0 h s))
      by (Some s) h = h ∙ sym ((bind-greatest ys a s).1 (binding_there a s ((bind-greatest xs a s).0 h)))

  -- ---- all that shows

  rises_all : (facts : List SessionFact) → Rises shown_cmp (view facts).all
  unfolding view
  rises_all facts = ascending-ascending shown_cmp shown_ranked (filter_map (λ (x : SessionFact). shown_by_fact (entry_shown_on facts) x.0 x.1) facts)

  all_alike : v.all ≡ w.all
  all_alike = same_ascending shown_cmp shown_ranked v.all w.all (rises_all xs) (rises_all ys) (λ x. (
    λ i. In-all ys x.session x.place (x.tag, x.value) (sym (λ j. shown j x.session x.place) ∙ all-shows xs x i),
    λ i. In-all xs x.session x.place (x.tag, x.value) ((λ j. shown j x.session x.place) ∙ all-shows ys x i),
  ))

  -- ---- rules

  bound_alike : (s a : Session) → is_bound_to v s a ≡ is_bound_to w s a
  bound_alike s a = ap (λ o. unwrap_or (option_map (λ x. is_eq (session_cmp x s)) o) false) (bind_alike a)

  rule_at_alike : (t : Tables) (s : Session) → rule_at t v s ≡ rule_at t w s
  rule_at_alike t s = λ i x. cond (bound_alike s x.session i) (option_and_then (λ f. rule_of t (only (shown i)) f) (flow_at x.session x.place)) None

  flow_rules_alike : (t : Tables) (s : Session) → flow_rules t v s ≡ flow_rules t w s
  flow_rules_alike t s = λ i. filter_map (rule_at_alike t s i) (all_alike i)

  rules_alike : (t : Tables) (s : Session) → rules t v s ≡ rules t w s
  unfolding rules
  rules_alike t s = λ i. cond (lives s i) (ascending listed_cmp (operator_rules t (only (shown i)) s ++ flow_rules_alike t s i)) []

  told_alike : (s : Session) → told_rules_of v s ≡ told_rules_of w s
  unfolding told_rules_of
  told_alike s = λ i. told_rules_of (listing (all_alike i)) s

  differs_alike : (t : Tables) (s : Session) → difference (told_rules_of v s) (rules t v s) ≡ difference (told_rules_of w s) (rules t w s)
  differs_alike t s = λ i. difference (told_alike s i) (rules_alike t s i)

  -- ---- who is due, and who is abandoned

  of_host_alike : (name : Option (List ℕ)) (s : Session) → is_of_host v name s ≡ is_of_host w name s
  of_host_alike None s = refl
  of_host_alike (Some name) s = λ i. is_of_host (only (shown i)) (Some name) s

  due_alike : (t : Tables) (k : ℕ) (name : Option (List ℕ)) (s : Session) → is_due t k v name s ≡ is_due t k w name s
  due_alike t k name s = λ i.
      is_gx s.kind && lives s i && is_home k (only (shown i)) s && of_host_alike name s i && not (is_empty (differs_alike t s i))

  abandoned_alike : (k : ℕ) (name : Option (List ℕ)) (s : Session) → is_abandoned k v name s ≡ is_abandoned k w name s
  abandoned_alike k name s = elim (same_or_none s).1 [
    | inl h ↦ (λ i. not (is_gx s.kind) && lives s i && list_all (shows_at (shown i s)) client_places && is_none (bind_alike s i) && not (h.aborted i)
        && is_home k (only (shown i)) s && of_host_alike name s i)
    | inr h ↦ both_false (is_abandoned k v name s) (is_abandoned k w name s)
        (is_false (is_abandoned k v name s) (λ t. clash (is_live v s) (abandoned_lives k v name s t) (dead s h)))
        (is_false (is_abandoned k w name s) (λ t. clash (is_live w s) (abandoned_lives k w name s t) (dead_too s h)))
  ]

  -- the first that passes a test which live sessions alone pass
  module _ (test other : Session → Bool) (same : (s : Session) → test s ≡ other s)
      (live : (s : Session) → test s ≡ true → is_live v s ≡ true) (live_too : (s : Session) → other s ≡ true → is_live w s ≡ true) where
    by_both : (a b : Option Session) → find test v.sessions ≡ a → find other w.sessions ≡ b → a ≡ b
    by_both None None h k = refl
    by_both None (Some r) h k = clash (other r) (first_passing ys other live_too r k).0 (sym (same r) ∙ none_passing xs test live h r)
    by_both (Some s) None h k = clash (test s) (first_passing xs test live s h).0 (same s ∙ none_passing ys other live_too k s)
    by_both (Some s) (Some r) h k =
        let f = first_passing xs test live s h in
        let g = first_passing ys other live_too r k in
        ap Some (both_top session_cmp session_ranked.total session_ranked.same s r
        (is_false (is_lt (session_cmp s r)) (λ l. g.1 s (sym (same s) ∙ f.0) (lt_less (session_cmp s r) l)))
        (is_false (is_lt (session_cmp r s)) (λ l. f.1 r (same r ∙ g.0) (lt_less (session_cmp r s) l))))

    first_alike : find test v.sessions ≡ find other w.sessions
    first_alike = by_both (find test v.sessions) (find other w.sessions) refl refl

  pushed_alike : (t : Tables) (k : ℕ) (name : Option (List ℕ)) → due_session t k v name ≡ due_session t k w name
  unfolding due_session
  pushed_alike t k name = first_alike (is_due t k v name) (is_due t k w name) (due_alike t k name) (due_lives t k v name) (due_lives t k w name)

  aborted_alike : (k : ℕ) (name : Option (List ℕ)) → abandoned_session k v name ≡ abandoned_session k w name
  unfolding abandoned_session
  aborted_alike k name = first_alike (is_abandoned k v name) (is_abandoned k w name) (abandoned_alike k name) (abandoned_lives k v name) (abandoned_lives k w name)

  -- ---- the bindings of all

  value_alike : (s : Session) (k : Kind) → bound_value v s k ≡ bound_value w s k
  value_alike s Gx = refl
  value_alike s Af = λ i. cond (lives s i) (Some (s.id, option_map (λ (x : Session). x.id) (bind_alike s i))) None

  -- whose binding is listed
  abbrev has_binding : Session → Bool
  has_binding s = is_some (bound_value w s s.kind)

  has_life : (s : Session) (k : Kind) → is_some (bound_value w s k) ≡ true → is_live w s ≡ true
  has_life s Gx h = clash false h refl
  has_life s Af h = so (is_live w s) h
    where
      so : (b : Bool) → is_some {T = List ℕ × Option (List ℕ)} (cond b (Some (s.id, binding_id w s)) None) ≡ true → b ≡ true
      so true k = refl
      so false k = clash false k refl

  rises_sessions : (facts : List SessionFact) → Rises session_cmp (view facts).sessions
  unfolding view
  rises_sessions facts = ascending-ascending session_cmp session_ranked (map its_session facts)

  listed_alike : filter has_binding v.sessions ≡ filter has_binding w.sessions
  listed_alike = same_ascending session_cmp session_ranked _ _ (filter-ascending session_cmp has_binding v.sessions (rises_sessions xs)) (filter-ascending session_cmp has_binding w.sessions (rises_sessions ys)) (λ s. (
    λ i. (let r = filter-In has_binding s v.sessions i in In-filter has_binding s w.sessions (live-known ys s (has_life s s.kind r.1)) r.1),
    λ i. (let r = filter-In has_binding s w.sessions i in In-filter has_binding s v.sessions (live-known xs s (lives s ∙ has_life s s.kind r.1)) r.1),
  ))

  bound_alike_all : bindings_of v ≡ bindings_of w
  unfolding bindings_of
  bound_alike_all =
      (λ i. filter_map (λ (s : Session). value_alike s s.kind i) v.sessions)
      ∙ through (λ (s : Session). bound_value w s s.kind) v.sessions
      ∙ ap (filter_map (λ (s : Session). bound_value w s s.kind)) listed_alike
      ∙ sym (through (λ (s : Session). bound_value w s s.kind) w.sessions)

  alike : LivesAlike v w
  alike = record {
    places = λ s p i. shown i s p;
    all = all_alike;
    lives = lives;
    homes = λ s i. home (only (shown i)) s;
    candidates = match_alike;
    bindings = bind_alike;
    lists = rules_alike;
    entries = told_alike;
    differences = differs_alike;
    due = due_alike;
    pushed = pushed_alike;
    abandoned = abandoned_alike;
    aborted = aborted_alike;
    bound = bound_alike_all;
  }

pub lacking_reads_alike : LackingTheEndedReadsAlike
lacking_reads_alike xs ys lacks = alike xs ys lacks

pub leaves_the_live : ForgettingLeavesTheLive
leaves_the_live h s ended = alike (forgotten h s).facts h.facts (lacks_one h s ended)
