-- What is seen of a world after an event is what is seen of what its sites then took.
use Rattle.std.proofs.Common.{◌≡◌, ℕ, ◌+◌, List, [], ◌∷◌, ◌++◌, map, slice_get, slice_set, Option, Some, None, Ok, Err, option_map, refl, sym, ap, ◌∙◌, append-nil}
use Rattle.std.proofs.lemmas.List.{length-append, map-append, map-set}
use Rattle.std.proofs.lemmas.Option.{slice_get-map}
use Rattle.pcrf_values.proofs.SetLaws.{Same-turn}
use Rattle.pcrf_model.specs.Holdings.{Holding, under, union, kept_of}
use Rattle.pcrf_model.specs.Operations.{Operation, with_operation, holding_of}
use Rattle.pcrf_model.specs.Replies.{Outcome}
use Rattle.pcrf_model.specs.Serving.{serve}
use Rattle.pcrf_model.specs.Pushing.{push}
use Rattle.pcrf_model.specs.Aborting.{abort}
use Rattle.pcrf_model.specs.Retelling.{retell}
use Rattle.pcrf_model.specs.Letters.{LetterBody, Range, Snapshot, Acknowledgement, LetterValue, meaning}
use Rattle.pcrf_model.specs.Worlds.{ServeAt, PushAt, AbortAt, RetellAt, Letter, Merge, Ack, Restart, Replied, PushedOut, AbortedOut, RetoldOut, Lettered, Merged, Restarted, NoMemory, Writing, SiteView, SiteTook, SentLetter, WorldTook, taken_holding, site_view, world_view, with_operation_made, with_letter_taken, with_first_taken, first_taken, restart_of, change, change_by, letter_to, ack_to, with_letter}
use Rattle.pcrf_model.specs.CursorLaws.{HoldsBehind}
use Rattle.pcrf_model.specs.Seen.{view_made, brought_holding, view_merged, view_in_part, view_again, view_letter, view_ack, see_change, see_change_by, see_letter, SeenIsWhatWasTaken, SnapshotsStay}
use Rattle.pcrf_model.proofs.UnionLaws.{kept_of-union, union_comm, holding_of-append, holding_of-Same}
use Rattle.pcrf_model.proofs.ReadingLaws.{serve-kept_of, push-kept_of, abort-kept_of, retell-kept_of}
use Rattle.pcrf_model.proofs.CursorSnapshots.{event_holds}

-- ---- one site

-- an operation more
holding_of-one : (os : List Operation) (o : Operation) → holding_of (os ++ o ∷ []) ≡ with_operation (holding_of os) o
holding_of-one os o = holding_of-Same (os ++ o ∷ []) (o ∷ os) (Same-turn os (o ∷ []))

-- an operation that the site made
site_made : (o : Option Operation) (s : SiteTook) → view_made o (site_view s) ≡ site_view (with_operation_made o s)
site_made None s =
    let taken = append-nil s.taken in
    let log = append-nil s.log in
    sym (λ i. site_view (record s { taken = taken i; log = log i }))
site_made (Some o) s =
    let held = ap kept_of (holding_of-one s.taken o) ∙ sym (kept_of-union (taken_holding s) (record { facts = under o.session o.facts; clock = o.counter })) in
    sym (λ i. record (site_view s) { state = record { holding = held i; log = s.log ++ o ∷ [] } })

-- an operation that it makes by its number and by what it holds, if what is kept makes it too
site_makes : (make : ℕ → Holding → Outcome)
    → ((i : ℕ) (h : Holding) → make i (kept_of h) ≡ make i h) → (s : SiteTook)
    → view_made (make s.number (kept_of (taken_holding s))).added (site_view s)
    ≡ site_view (with_operation_made (make s.number (taken_holding s)).added s)
site_makes make same s =
    ap (λ (o : Outcome). view_made o.added (site_view s)) (same s.number (taken_holding s))
    ∙ site_made (make s.number (taken_holding s)).added s

-- operations
site_takes : (s : SiteTook) (os : List Operation) → kept_of (union (kept_of (taken_holding s)) (holding_of os)) ≡ kept_of (holding_of (s.taken ++ os))
site_takes s os = kept_of-union (taken_holding s) (holding_of os) ∙ sym (ap kept_of (holding_of-append s.taken os))

-- what is kept of operations, as the operations themselves
site_takes_kept : (s : SiteTook) (os : List Operation) → kept_of (union (kept_of (taken_holding s)) (kept_of (holding_of os))) ≡ kept_of (holding_of (s.taken ++ os))
site_takes_kept s os =
    ap kept_of (union_comm (kept_of (taken_holding s)) (kept_of (holding_of os)))
    ∙ kept_of-union (holding_of os) (kept_of (taken_holding s))
    ∙ ap kept_of (union_comm (holding_of os) (kept_of (taken_holding s)))
    ∙ site_takes s os

-- a letter whole
site_merges : (how : Writing) (l : SentLetter) (s : SiteTook) → HoldsBehind l.behind l.letter.body → view_merged how l.letter (site_view s) ≡ site_view (with_letter_taken how l s)
site_merges how l s holds =
    let held = of_body l.letter.body holds in
    λ i. record (site_view (with_letter_taken how l s)) { state = record { holding = held i; log = s.log } }
  where
    of_body : (b : LetterBody) → HoldsBehind l.behind b → kept_of (union (kept_of (taken_holding s)) (brought_holding b)) ≡ kept_of (holding_of (s.taken ++ meaning l.behind b))
    of_body (Range from os) h = site_takes s os
    of_body (Snapshot k n) h = ap (λ (x : Holding). kept_of (union (kept_of (taken_holding s)) x)) h ∙ site_takes_kept s l.behind
    of_body (Acknowledgement m e c) h = site_takes s []

-- the first operations of a letter
site_merges_in_part : (n : ℕ) (l : SentLetter) (s : SiteTook) → view_in_part n l.letter (site_view s) ≡ site_view (with_first_taken n l s)
site_merges_in_part n l s =
    let held = site_takes s (first_taken n l.letter.body) in
    λ i. record (site_view s) { state = record { holding = held i; log = s.log } }

-- a restart
site_starts_again : (s : SiteTook) → view_again (site_view s) ≡ site_view (restart_of s)
site_starts_again s =
    let epoch = length-append s.past (s.log ∷ []) in
    sym (λ i. record (view_again (site_view s)) { epoch = epoch i + 1 })

-- ---- the world

-- a change of a site is seen there
change_seen : (w : WorldTook) (i : ℕ) (k : SiteView → SiteView) (f : SiteTook → SiteTook) → ((s : SiteTook) → k (site_view s) ≡ site_view (f s)) → see_change (world_view w) i k ≡ world_view (change w i f)
change_seen w i k f same = of_option (slice_get w.sites i) refl
  where
    there : (o : Option SiteTook) → slice_get w.sites i ≡ o → slice_get (map site_view w.sites) i ≡ option_map site_view o
    there o e = slice_get-map site_view w.sites i ∙ ap (option_map site_view) e

    of_option : (o : Option SiteTook) → slice_get w.sites i ≡ o → see_change (world_view w) i k ≡ world_view (change w i f)
    of_option None e = rw (e, there None e) refl
    of_option (Some s) e = rw (e, there (Some s) e) (λ j. record {
      sites = (ap (slice_set (map site_view w.sites) i) (same s) ∙ sym (map-set site_view w.sites i (f s))) j;
      letters = (world_view w).letters;
    })

-- so is one by a letter
change_by_seen : (w : WorldTook) (j n : ℕ) (k : LetterValue → SiteView → SiteView) (f : SentLetter → SiteTook → SiteTook)
    → ((l : SentLetter) → slice_get w.letters n ≡ Some l → (s : SiteTook) → k l.letter (site_view s) ≡ site_view (f l s)) → see_change_by (world_view w) j n k ≡ world_view (change_by w j n f)
change_by_seen w j n k f same = of_option (slice_get w.letters n) refl
  where
    says : SentLetter → LetterValue
    says l = l.letter

    there : (o : Option SentLetter) → slice_get w.letters n ≡ o → slice_get (map (λ (l : SentLetter). l.letter) w.letters) n ≡ option_map (λ (l : SentLetter). l.letter) o
    there o e = slice_get-map (λ (l : SentLetter). l.letter) w.letters n ∙ ap (option_map (λ (l : SentLetter). l.letter)) e

    of_option : (o : Option SentLetter) → slice_get w.letters n ≡ o → see_change_by (world_view w) j n k ≡ world_view (change_by w j n f)
    of_option None e = rw (e, there None e) refl
    of_option (Some l) e = rw (e, there (Some l) e) (change_seen w j (k l.letter) (f l) (same l e))

-- and a new letter
letter_seen : (w : WorldTook) (i : ℕ) (k : SiteView → LetterValue) (write : SiteTook → SentLetter) → ((s : SiteTook) → k (site_view s) ≡ (write s).letter) → see_letter (world_view w) i k ≡ world_view (with_letter w i write)
letter_seen w i k write same = of_option (slice_get w.sites i) refl
  where
    there : (o : Option SiteTook) → slice_get w.sites i ≡ o → slice_get (map site_view w.sites) i ≡ option_map site_view o
    there o e = slice_get-map site_view w.sites i ∙ ap (option_map site_view) e

    of_option : (o : Option SiteTook) → slice_get w.sites i ≡ o → see_letter (world_view w) i k ≡ world_view (with_letter w i write)
    of_option None e = rw (e, there None e) (λ j. record { sites = (world_view w).sites; letters = (sym (map-append (λ (l : SentLetter). l.letter) w.letters [])) j })
    of_option (Some s) e = rw (e, there (Some s) e) (λ j. record {
      sites = (world_view w).sites;
      letters = (ap (λ (l : LetterValue). map (λ (x : SentLetter). x.letter) w.letters ++ l ∷ []) (same s) ∙ sym (map-append (λ (x : SentLetter). x.letter) w.letters (write s ∷ []))) j;
    })

-- an operation that a site makes is seen there
makes_seen : (w : WorldTook) (i : ℕ) (make : ℕ → Holding → Outcome)
    → ((n : ℕ) (h : Holding) → make n (kept_of h) ≡ make n h)
    → see_change (world_view w) i (λ s. view_made (make s.number s.state.holding).added s)
    ≡ world_view (change w i (λ s. with_operation_made (make s.number (taken_holding s)).added s))
makes_seen w i make same =
    change_seen w i (λ s. view_made (make s.number s.state.holding).added s)
    (λ s. with_operation_made (make s.number (taken_holding s)).added s) (site_makes make same)

-- each event
pub seen_is_taken : SeenIsWhatWasTaken
seen_is_taken g w (ServeAt i q) (Ok (Replied r)) all =
    makes_seen w i (λ n h. serve g.most g.tables n h q) (λ n h. serve-kept_of g.most g.tables n h q)
seen_is_taken g w (PushAt i name) (Ok (PushedOut p)) all =
    makes_seen w i (λ n h. push g.most g.tables n h name)
    (λ n h. push-kept_of g.most g.tables n h name)
seen_is_taken g w (AbortAt i name) (Ok (AbortedOut a)) all =
    makes_seen w i (λ n h. abort n h name) (λ n h. abort-kept_of n h name)
seen_is_taken g w (RetellAt i id) (Ok (RetoldOut done)) all =
    makes_seen w i (λ n h. retell n h id) (λ n h. retell-kept_of n h id)
seen_is_taken g w (Letter i j) (Ok (Lettered k)) all = letter_seen w i (view_letter g j) (letter_to g j) (λ s. refl)
seen_is_taken g w (Merge j k) (Ok Merged) all = change_by_seen w j k (view_merged g.writes) (with_letter_taken g.writes) (λ l at s. site_merges g.writes l s (all k l at))
seen_is_taken g w (Merge j k) (Err (NoMemory n)) all = change_by_seen w j k (view_in_part n) (with_first_taken n) (λ l at s. site_merges_in_part n l s)
seen_is_taken g w (Ack j i) (Ok (Lettered k)) all = letter_seen w j (view_ack g i) (ack_to g i) (λ s. refl)
seen_is_taken g w (Restart i) (Ok (Restarted e)) all = change_seen w i view_again restart_of site_starts_again
seen_is_taken g w e a all = refl

-- snapshots stay
pub snapshots_stay : SnapshotsStay
snapshots_stay g w e a all = event_holds g w all e a
