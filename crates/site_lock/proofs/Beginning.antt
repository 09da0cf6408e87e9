-- Worlds with new beginnings.
use Rattle.std.proofs.Common.{arith, ◌≡◌, ℕ, zero, suc, ◌+◌, ◌≤◌, ◌==◌, true, false, Bool, cond, leb, List, [], ◌∷◌, ◌++◌, inl, inr, length, length-append, slice_get, slice_set, Option, Some, None, Ok, Err, refl, sym, ap, ◌∙◌, subst}
use Rattle.std.proofs.lemmas.Bool.{le-leb}
use Rattle.pcrf_values.proofs.Plain.{none_some, some_same}
use Rattle.pcrf_values.specs.Limits.{site_limit}
use Rattle.pcrf_model.specs.Operations.{Operation}
use Rattle.pcrf_model.specs.SiteOverviews.{site_overview}
use Rattle.pcrf_model.specs.Tables.{Tables}
use Rattle.pcrf_model.specs.Letters.{LetterBody, Range, Snapshot, LetterValue, meaning}
use Rattle.pcrf_model.specs.Cursors.{Cursor, CursorsValue, nothing_taken, start_cursors, maker_cursor, maker_after, peer_cursor, raised_cursor, question_past, ask}
use Rattle.pcrf_model.specs.Steps.{SiteEvent, AskOwn, AskWhole}
use Rattle.pcrf_model.specs.Worlds.{WorldEvent, WorldAnswer, ServeAt, PushAt, AbortAt, RetellAt, Letter, Merge, Ack, Restart, Replied, PushedOut, AbortedOut, RetoldOut, Lettered, Merged, Restarted, NoMemory, Setting, ByCursors, by_cursors, asked_body, SiteView, SiteTook, SentLetter, WorldTook, epoch_of, log_in, start, cursors_after, with_letter_taken, with_first_taken, restart_of, change, change_by, letter_to, with_letter, site_view, after, after_all}
use Rattle.pcrf_model.specs.CursorLaws.{FirstTaken, Reaches, Grew, WorldGrew, Backed, Said, IsSound, BodyFits, Fits, AllSound, PeerTook, IsPast}
use Rattle.pcrf_model.proofs.CursorLists.{get_more, get_changed, read_changed, get_last, read_set, read_replicate, lists_more}
use Rattle.pcrf_model.proofs.CursorEntries.{there, after_same, after_backed, first_none}
use Rattle.pcrf_model.proofs.CursorSteps.{saying, change_at, changed_well, fits_still, start_backed, start_peer, world_itself, world_through}
use Rattle.pcrf_model.proofs.CursorRuns.{present, letter_at, letter_none, event_well, start_sound, makers_taken, peers_took}
use Rattle.pcrf_model.proofs.CursorGaps.{letters_by}
use Rattle.site_lock.specs.Beginnings.{WorldDeed, Happens, Begins, whole_letter, begun_of, after_deed, after_deeds, BeginsWithAll, BeginningsKeepAll, BeginningsAreRestarts, EntriesStayTaken, PeersStillTook, later_with, LeavesNoGapAcross, RangesStillLeaveNoGap}

-- ---- a site that begins anew

one_more : (g : Setting) (s : SiteTook) → epoch_of (begun_of g s) ≡ epoch_of s + 1
one_more g s = ap (λ (n : ℕ). n + 1) (length-append s.past (s.log ∷ []))

pub keeps_all : BeginningsKeepAll
keeps_all g s = record { took = refl; same = (refl, refl); state = refl; epoch = one_more g s; number = refl }

module _ (g : Setting) (w : WorldTook) (i : ℕ) (all : AllSound w) (s : SiteTook) (at : slice_get w.sites i ≡ Some s) where
  -- the letter with all that it holds fits
  whole_fits : Fits w (whole_letter g s)
  whole_fits a here =
      let is = all.sites i s at in
      let same : s ≡ a = some_same s a (sym at ∙ subst (λ (m : ℕ). slice_get w.sites m ≡ Some a) is.number here) in
      let behind : FirstTaken (length s.log) (log_in s (epoch_of s)) s.taken =
      subst (λ (log : List Operation). FirstTaken (length s.log) log s.taken) (sym (present s)) (λ k low. let o = there s.log k low in (o.0, o.1, is.own k o.0 o.1)) in
      subst (λ (z : SiteTook). (epoch_of s ≤ epoch_of z) × FirstTaken (length s.log) (log_in z (epoch_of s)) s.taken) same (omega arith, behind)

  -- the site grows
  begun_grew : Grew s (begun_of g s)
  begun_grew = record {
    epochs = let e = one_more g s in omega (arith, e);
    logs = λ e k x h. lists_more ([] ∷ s.past ++ s.log ∷ []) ([] ∷ []) e k x h;
    entries = λ same m. let e = one_more g s in absurd (omega (arith, e, same));
  }

  -- what its entries count: nothing, but that of itself, what it held
  begun_backed : (v : WorldTook) → WorldGrew w v → (m : ℕ) → Backed v m (maker_cursor (begun_of g s).cursors m) s.taken
  begun_backed v grew m =
      let l : LetterValue = (whole_letter g s).letter in
      let c : CursorsValue = start_cursors s.number (epoch_of s + 1) in
      elim (read_set c.makers s.number (maker_after l (maker_cursor c s.number)) m nothing_taken) [
        | inl k ↦ subst (λ (x : Cursor). Backed v m x s.taken) (sym k.1) (subst (λ (p : ℕ). Backed v p (maker_after l (maker_cursor c s.number)) s.taken) (sym k.0) (λ a here.
            let f = fits_still w v grew (whole_letter g s) whole_fits a here in
            after_backed a l s.taken [] (maker_cursor c s.number) f.0 f.1 (start_backed v s.number (epoch_of s + 1) s.number [] a here)))
        | inr k ↦ subst (λ (x : Cursor). Backed v m x s.taken) (sym k) (start_backed v s.number (epoch_of s + 1) m s.taken)
      ]

  -- and is sound
  begun_sound : (v : WorldTook) → WorldGrew w v → IsSound v i (begun_of g s)
  begun_sound v grew =
      let is = all.sites i s at in
      record {
        number = is.number;
        site = is.number;
        epoch = sym (one_more g s);
        own = λ k x h. none_some x h;
        makers = begun_backed v grew;
        peers = λ j x h. none_some x (sym (start_peer s.number (epoch_of s + 1) j) ∙ h);
      }

-- ---- each deed

module _ (t : Tables) (most : ℕ) where
  -- these write by their cursors
  abbrev g : Setting
  g = by_cursors t most

  deed_well : (w : WorldTook) → AllSound w → (d : WorldDeed) → WorldGrew w (after_deed g w d) × AllSound (after_deed g w d)
  deed_well w all (Happens e a) = event_well t most w all e a
  deed_well w all (Begins i) = changed_well w i (begun_of g) all (λ s at. begun_grew g w i all s at) (λ s at v h. begun_sound g w i all s at v h)

  -- all deeds
  deeds_well : (w : WorldTook) → AllSound w → (ds : List WorldDeed) → WorldGrew w (after_deeds g w ds) × AllSound (after_deeds g w ds)
  deeds_well w all [] = (world_itself w, all)
  deeds_well w all (d ∷ ds) =
      let one = deed_well w all d in
      let rest = deeds_well (after_deed g w d) one.1 ds in
      (world_through w (after_deed g w d) (after_deeds g (after_deed g w d) ds) one.0 rest.0, rest.1)

pub entries_stay : EntriesStayTaken
entries_stay t most n ds = makers_taken (after_deeds (by_cursors t most) (start n) ds) (deeds_well t most (start n) (start_sound n) ds).1

pub peers_still : PeersStillTook
peers_still t most n ds = peers_took (after_deeds (by_cursors t most) (start n) ds) (deeds_well t most (start n) (start_sound n) ds).1

-- ---- letters stay

-- where there is no such site nothing changes
change_none : (w : WorldTook) (i : ℕ) (f : SiteTook → SiteTook) → slice_get w.sites i ≡ None → change w i f ≡ w
change_none w i f at = rw at refl

-- where a site changes no letter goes
letters_of : (w : WorldTook) (i : ℕ) (f : SiteTook → SiteTook) → (change w i f).letters ≡ w.letters
letters_of w i f = of_option (slice_get w.sites i) refl
  where
    of_option : (o : Option SiteTook) → slice_get w.sites i ≡ o → (change w i f).letters ≡ w.letters
    of_option None e = ap (λ (v : WorldTook). v.letters) (change_none w i f e)
    of_option (Some s) e = ap (λ (v : WorldTook). v.letters) (change_at w i f s e)

module _ (g : Setting) (k : ℕ) (l : SentLetter) where
  -- after an event
  letter_stays : (w : WorldTook) → slice_get w.letters k ≡ Some l → (e : WorldEvent) (a : WorldAnswer) → slice_get (after g w e a).letters k ≡ Some l
  letter_stays w h (ServeAt i q) (Ok (Replied r)) = h
  letter_stays w h (PushAt i name) (Ok (PushedOut p)) = h
  letter_stays w h (AbortAt i name) (Ok (AbortedOut a)) = h
  letter_stays w h (RetellAt i id) (Ok (RetoldOut done)) = h
  letter_stays w h (Letter i j) (Ok (Lettered n)) = get_more w.letters _ k l h
  letter_stays w h (Merge j n) (Ok Merged) = subst (λ (ls : List SentLetter). slice_get ls k ≡ Some l) (sym (letters_by w j n (with_letter_taken g.writes))) h
  letter_stays w h (Merge j n) (Err (NoMemory m)) = subst (λ (ls : List SentLetter). slice_get ls k ≡ Some l) (sym (letters_by w j n (with_first_taken m))) h
  letter_stays w h (Ack j i) (Ok (Lettered n)) = get_more w.letters _ k l h
  letter_stays w h (Restart i) (Ok (Restarted e)) = h
  letter_stays w h e a = h

  -- after a deed
  letter_outlasts : (w : WorldTook) → slice_get w.letters k ≡ Some l → (d : WorldDeed) → slice_get (after_deed g w d).letters k ≡ Some l
  letter_outlasts w h (Happens e a) = letter_stays w h e a
  letter_outlasts w h (Begins i) = subst (λ (ls : List SentLetter). slice_get ls k ≡ Some l) (sym (letters_of w i (begun_of g))) h

  -- after all
  letter_remains : (w : WorldTook) → slice_get w.letters k ≡ Some l → (ds : List WorldDeed) → slice_get (after_deeds g w ds).letters k ≡ Some l
  letter_remains w h [] = h
  letter_remains w h (d ∷ ds) = letter_remains (after_deed g w d) (letter_outlasts w h d) ds

-- the letter that a site just wrote
just_written : (w : WorldTook) (i : ℕ) (s : SiteTook) (write : SiteTook → SentLetter) → slice_get w.sites i ≡ Some s → slice_get (with_letter w i write).letters (length w.letters) ≡ Some (write s)
just_written w i s write at = rw at (get_last w.letters (write s))

-- ---- a new beginning by events

module _ {A : Type 0} where
  -- what was changed is there
  set_there : (xs : List A) (i : ℕ) (x y : A) → slice_get xs i ≡ Some x → slice_get (slice_set xs i y) i ≡ Some y
  set_there [] i x y h = none_some x h
  set_there (z ∷ xs) zero x y h = refl
  set_there (z ∷ xs) (suc i) x y h = set_there xs i x y h

  -- and may be changed again
  set_again : (xs : List A) (i : ℕ) (x y : A) → slice_set (slice_set xs i x) i y ≡ slice_set xs i y
  set_again [] i x y = refl
  set_again (z ∷ xs) zero x y = refl
  set_again (z ∷ xs) (suc i) x y = ap (λ ys. z ∷ ys) (set_again xs i x y)

-- what is written where the whole is asked for
whole_to : (t : Tables) (most j : ℕ) (s : SiteTook) → ask s.cursors j ≡ AskWhole → letter_to (by_cursors t most) j s ≡ whole_letter (by_cursors t most) s
whole_to t most j s asks = ap (λ (e : SiteEvent). sent_as (asked_body (site_view s) e)) asks
  where
    sent_as : LetterBody → SentLetter
    sent_as b = record { letter = record { edition = t.edition; site = s.number; epoch = epoch_of s; body = b }; behind = s.taken }

pub are_restarts : BeginningsAreRestarts
are_restarts t most i j w s at asks =
    let g : Setting = by_cursors t most in
    let k : ℕ = length w.letters in
    let u : WorldTook = after g w (Letter i j) (Ok (Lettered k)) in
    let v : WorldTook = change u i restart_of in
    let l : SentLetter = whole_letter g s in
    let written : slice_get u.letters k ≡ Some l = subst (λ (x : SentLetter). slice_get u.letters k ≡ Some x) (whole_to t most j s asks) (just_written w i s (letter_to g j) at) in
    let restarted : v ≡ record u { sites = slice_set u.sites i (restart_of s) } = change_at u i restart_of s at in
    let here : slice_get v.sites i ≡ Some (restart_of s) = subst (λ (x : WorldTook). slice_get x.sites i ≡ Some (restart_of s)) (sym restarted) (set_there u.sites i s (restart_of s) at) in
    let letter : slice_get v.letters k ≡ Some l = subst (λ (ls : List SentLetter). slice_get ls k ≡ Some l) (sym (letters_of u i restart_of)) written in
    let merged : change_by v i k (with_letter_taken ByCursors) ≡ record v { sites = slice_set v.sites i (begun_of g s) } = letter_at v i k (with_letter_taken ByCursors) l letter ∙ change_at v i (with_letter_taken ByCursors l) (restart_of s) here in
    let sites : slice_set v.sites i (begun_of g s) ≡ slice_set u.sites i (begun_of g s) = ap (λ (x : WorldTook). slice_set x.sites i (begun_of g s)) restarted ∙ set_again u.sites i (restart_of s) (begun_of g s) in
    let letters : v.letters ≡ u.letters = letters_of u i restart_of in
    merged ∙ (λ n. record { sites = sites n; letters = letters n }) ∙ sym (change_at u i (begun_of g) s at)

-- ---- the range

-- a range raises an entry that reaches it to its end
raised_past : (c : CursorsValue) (edition site epoch from : ℕ) (os : List Operation) → (maker_cursor c site ≡ nothing_taken → ⊥) → (maker_cursor c site).epoch ≡ epoch → from ≤ (maker_cursor c site).cursor
    → IsPast epoch (from + length os) (maker_cursor (cursors_after ByCursors c (saying edition site epoch (Range from os))) site)
raised_past c edition site epoch from os some now reach =
    let l : LetterValue = saying edition site epoch (Range from os) in
    let x : Cursor = maker_cursor c site in
    let test : leb from x.cursor ≡ true = le-leb from x.cursor reach in
    let high : from + length os ≤ raised_cursor (Range from os) x.cursor = rw test (omega arith) in
    let is : maker_cursor (cursors_after ByCursors c l) site ≡ record { epoch = x.epoch; cursor = raised_cursor (Range from os) x.cursor } = read_changed c.makers site (maker_after l x) nothing_taken some ∙ after_same l x now in
    subst (IsPast epoch (from + length os)) (sym is) (record { epoch = now; cursor = high })

-- what is asked past an entry is a range from its cursor, if it is one
range_from : (s : SiteView) (x : Cursor) (from : ℕ) (os : List Operation) → asked_body s (question_past (Some x)) ≡ Range from os → x.cursor ≡ from
range_from s x from os = of_test (x.cursor == 0)
  where
    of_test : (t : Bool) → asked_body s (cond t AskWhole (AskOwn x.cursor)) ≡ Range from os → x.cursor ≡ from
    of_test true h = cc
    of_test false h = cc

-- ---- no gap

module _ (t : Tables) (most : ℕ) (w : WorldTook) (all : AllSound w) where
  no_gap : LeavesNoGapAcross (by_cursors t most) w
  no_gap i j a b x from os at_i at_j entry now body ds still_i still_j z at_z =
      let g : Setting = by_cursors t most in
      let u : WorldTook = after g w (Letter i j) (Ok (Lettered (length w.letters))) in
      let v : WorldTook = later_with g w i j ds in
      let one = event_well t most w all (Letter i j) (Ok (Lettered (length w.letters))) in
      let rest = deeds_well t most u one.1 ds in
      let grew : WorldGrew w v = world_through w u v one.0 rest.0 in
      let y : SiteTook = still_j.0 in
      let from_b = grew j y still_j.1 in
      let same_b : from_b.0 ≡ b = some_same from_b.0 b (sym from_b.1 ∙ at_j) in
      let b_grew : Grew b y = subst (λ (s : SiteTook). Grew s y) same_b from_b.2 in
      let rose : Reaches (maker_cursor b.cursors i) (maker_cursor y.cursors i) = b_grew.entries (sym still_j.2) i in
      let peer : PeerTook i a b x = peers_took w all i j a b x at_i at_j entry now in
      let early : (maker_cursor y.cursors i).epoch ≤ epoch_of still_i.0 = ((rest.1.sites j y still_j.1).makers i still_i.0 still_i.1).0 in
      let kept : ((maker_cursor y.cursors i).epoch ≡ epoch_of a) × (x.cursor ≤ (maker_cursor y.cursors i).cursor) = in_epoch_still (maker_cursor b.cursors i) (maker_cursor y.cursors i) still_i.0 rose peer.epoch peer.cursor early still_i.2 in
      let number : a.number ≡ i = (all.sites i a at_i).number in
      let begins : x.cursor ≡ from = range_from (site_view a) x from os (sym (ap (λ (o : Option Cursor). asked_body (site_view a) (question_past o)) entry) ∙ body) in
      let l : SentLetter = letter_to g j a in
      let there : slice_get v.letters (length w.letters) ≡ Some l = letter_remains g (length w.letters) l u (just_written w i a (letter_to g j) at_i) ds in
      let after_merge : change_by v j (length w.letters) (with_letter_taken ByCursors) ≡ record v { sites = slice_set v.sites j (with_letter_taken ByCursors l y) } = letter_at v j (length w.letters) (with_letter_taken ByCursors) l there ∙ change_at v j (with_letter_taken ByCursors l) y still_j.1 in
      let is : z ≡ with_letter_taken ByCursors l y = get_changed v.sites j (with_letter_taken ByCursors l y) z (subst (λ (x : WorldTook). slice_get x.sites j ≡ Some z) after_merge at_z) in
      let some : maker_cursor y.cursors i ≡ nothing_taken → ⊥ = λ h. let e : (maker_cursor y.cursors i).epoch ≡ 0 = ap (λ (c : Cursor). c.epoch) h in let f : (maker_cursor y.cursors i).epoch ≡ epoch_of a = kept.0 in absurd (omega (arith, e, f)) in
      let past = raised_past y.cursors t.edition i (epoch_of a) from os some kept.0 (subst (λ (n : ℕ). n ≤ (maker_cursor y.cursors i).cursor) begins kept.1) in
      let by_body = subst (λ (says : LetterBody). IsPast (epoch_of a) (from + length os) (maker_cursor (cursors_after ByCursors y.cursors (saying t.edition i (epoch_of a) says)) i)) (sym body) past in
      let by_site = subst (λ (n : ℕ). IsPast (epoch_of a) (from + length os) (maker_cursor (cursors_after ByCursors y.cursors (saying t.edition n (epoch_of a) l.letter.body)) i)) (sym number) by_body in
      subst (λ (s : SiteTook). IsPast (epoch_of a) (from + length os) (maker_cursor s.cursors i)) (sym is) by_site
    where
      in_epoch_still : (p q : Cursor) (s : SiteTook) → Reaches p q → p.epoch ≡ epoch_of a → x.cursor ≤ p.cursor → q.epoch ≤ epoch_of s → epoch_of s ≡ epoch_of a → (q.epoch ≡ epoch_of a) × (x.cursor ≤ q.cursor)
      in_epoch_still p q s (inl h) e c low same = absurd (omega (arith, h, e, low, same))
      in_epoch_still p q s (inr h) e c low same = (h.0 ∙ e, let up : p.cursor ≤ q.cursor = h.1 in omega (arith, c, up))

pub ranges_still : RangesStillLeaveNoGap
ranges_still t most n ds = no_gap t most (after_deeds (by_cursors t most) (start n) ds) (deeds_well t most (start n) (start_sound n) ds).1
