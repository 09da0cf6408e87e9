-- New beginnings among the events of a world: a site restarts, and takes all that it held itself. What cursors say of what sites took, across them.
use Rattle.std.specs.Prelude.{◌≡◌, ℕ, ◌+◌, List, [], ◌∷◌, length, slice_get, slice_set, Some, Ok}
use Rattle.pcrf_model.specs.Operations.{Operation}
use Rattle.pcrf_model.specs.Tables.{Tables}
use Rattle.pcrf_model.specs.Letters.{Range, Snapshot}
use Rattle.pcrf_model.specs.Cursors.{Cursor, ask, maker_cursor, peer_cursor}
use Rattle.pcrf_model.specs.Steps.{AskWhole}
use Rattle.pcrf_model.specs.Worlds.{WorldEvent, Letter, Merge, Restart, Lettered, Restarted, Merged, WorldAnswer, Setting, ByCursors, by_cursors, SiteTook, SentLetter, WorldTook, HoldsTheSame, start, site_view, epoch_of, restart_of, sent_letter, with_letter_taken, letter_to, change, after, after_all}
use Rattle.pcrf_model.specs.CursorLaws.{MakersAreTaken, PeersTook, InEpoch, IsPast}
use Rattle.site_lock.specs.Deeds.{begun_anew}

-- what happens in a world: an event that gets an answer, or a site begins anew
pub data WorldDeed : Type 0 where
  Happens : WorldEvent → WorldAnswer → WorldDeed
  Begins : ℕ → WorldDeed

-- ---- a site that begins anew

-- the letter in which the site tells all that it holds
abbrev pub whole_letter : Setting → SiteTook → SentLetter
whole_letter g s = sent_letter s (record { edition = g.tables.edition; site = s.number; epoch = epoch_of s; body = Snapshot (site_view s).state.holding (length s.log) })

-- it restarts, and takes that letter
abbrev pub begun_of : Setting → SiteTook → SiteTook
begun_of g s = with_letter_taken ByCursors (whole_letter g s) (restart_of s)

-- ---- worlds with new beginnings

abbrev pub after_deed : Setting → WorldTook → WorldDeed → WorldTook
after_deed g w (Happens event answer) = after g w event answer
after_deed g w (Begins i) = change w i (begun_of g)

abbrev pub after_deeds : Setting → WorldTook → List WorldDeed → WorldTook
after_deeds g w [] = w
after_deeds g w (d ∷ ds) = after_deeds g (after_deed g w d) ds

-- ---- the laws

-- A site that begins anew holds and shows to an operator what it did before, so the same sessions, bindings and rules; it has made nothing, as a site
-- that lives has not when it begins anew, and is in its next epoch.
pub record BeginsWithAll (g : Setting) (s : SiteTook) : Type 0 where
  pub took : (begun_of g s).taken ≡ s.taken
  pub same : HoldsTheSame g.tables (site_view s) (site_view (begun_of g s))
  pub state : (site_view (begun_of g s)).state ≡ begun_anew (site_view s).state
  pub epoch : epoch_of (begun_of g s) ≡ epoch_of s + 1
  pub number : (begun_of g s).number ≡ s.number

-- whatever it took
abbrev pub BeginningsKeepAll : Type 0
BeginningsKeepAll = (g : Setting) (s : SiteTook) → BeginsWithAll g s

-- It is three events of a world: the site writes all that it holds in a letter, restarts, and takes the letter. So it is wherever it writes the
-- whole to somebody, itself or another.
abbrev pub BeginningsAreRestarts : Type 0
BeginningsAreRestarts = (t : Tables) (most i j : ℕ) (w : WorldTook) (s : SiteTook) → slice_get w.sites i ≡ Some s → ask s.cursors j ≡ AskWhole →
    after_all (by_cursors t most) w (Letter i j ∷ Restart i ∷ Merge i (length w.letters) ∷ [])
    (Ok (Lettered (length w.letters)) ∷ Ok (Restarted (epoch_of s + 1)) ∷ Ok Merged ∷ [])
    ≡ change (after (by_cursors t most) w (Letter i j) (Ok (Lettered (length w.letters)))) i (begun_of (by_cursors t most))

-- after whatever events and new beginnings
abbrev pub AfterAnyDeeds : (WorldTook → Type 0) → Type 0
AfterAnyDeeds P = (t : Tables) (most n : ℕ) (deeds : List WorldDeed) → P (after_deeds (by_cursors t most) (start n) deeds)

-- what a site's entry for a maker counts is among what it took
abbrev pub EntriesStayTaken : Type 0
EntriesStayTaken = AfterAnyDeeds MakersAreTaken

-- what a site's entry for a peer says in the peer's present epoch the peer took
abbrev pub PeersStillTook : Type 0
PeersStillTook = AfterAnyDeeds PeersTook

-- the world after site i wrote to peer j, and then this happened
abbrev pub later_with : Setting → WorldTook → ℕ → ℕ → List WorldDeed → WorldTook
later_with g w i j deeds = after_deeds g (after g w (Letter i j) (Ok (Lettered (length w.letters)))) deeds

-- Where site i has an entry of the peer's present epoch and what it then writes to the peer is a range: whatever happens later, if both are in these
-- epochs still and the peer then takes the letter whole, the peer's entry for the site stands at the range's end or past it.
abbrev pub LeavesNoGapAcross : Setting → WorldTook → Type 0
LeavesNoGapAcross g w = (i j : ℕ) (a b : SiteTook) (x : Cursor) (from : ℕ) (os : List Operation) → slice_get w.sites i ≡ Some a → slice_get w.sites j ≡ Some b →
    peer_cursor a.cursors j ≡ Some x → x.epoch ≡ epoch_of b → (letter_to g j a).letter.body ≡ Range from os →
    (deeds : List WorldDeed) → InEpoch (later_with g w i j deeds) i (epoch_of a) → InEpoch (later_with g w i j deeds) j (epoch_of b) →
    (z : SiteTook) → slice_get (after g (later_with g w i j deeds) (Merge j (length w.letters)) (Ok Merged)).sites j ≡ Some z →
    IsPast (epoch_of a) (from + length os) (maker_cursor z.cursors i)

-- so it is after any
abbrev pub RangesStillLeaveNoGap : Type 0
RangesStillLeaveNoGap = (t : Tables) (most n : ℕ) (deeds : List WorldDeed) → LeavesNoGapAcross (by_cursors t most) (after_deeds (by_cursors t most) (start n) deeds)
