-- What is read of a set of facts. All that follows is said of this view.
use Rattle.std.specs.Prelude.{ℕ, Bool, List, map, Option, Some, None}
use Rattle.std.proofs.Common.{Ordering, option_map, option_and_then}
use Rattle.std.specs.Ordering.{on}
use Rattle.std.specs.List.{filter_map}
use Rattle.pcrf_values.specs.Orders.{pair_cmp}
use Rattle.pcrf_values.specs.Ascending.{ascending}
use Rattle.pcrf_values.specs.declared.tag.Tag.{Tag}
use Rattle.pcrf_values.specs.Places.{Place, Removable, place_cmp}
use Rattle.pcrf_values.specs.Values.{Value, Text, Address, Filters, Entry, entry_cmp}
use Rattle.pcrf_values.specs.Facts.{Fact, Field}
use Rattle.pcrf_values.specs.Held.{entry_shown, removed_parts, is_ended, is_aborted}
use Rattle.pcrf_values.specs.FlowWords.{value_at, number_at}
use Rattle.pcrf_model.specs.Sessions.{Session, session_cmp}
use Rattle.pcrf_model.specs.Holdings.{SessionFact, facts_on}

-- a place of a session, and the tag and value that it shows
pub record Shown : Type 0 where
  pub session : Session
  pub place : Place
  pub tag : Tag
  pub value : Value

-- by session, then place, tag and value
abbrev pub shown_cmp : Shown → Shown → Ordering
shown_cmp = on (λ x. (x.session, (x.place, (x.tag, x.value)))) (pair_cmp session_cmp (pair_cmp place_cmp entry_cmp))

-- a place with its entry
abbrev pub shown_of : Session → Place → Entry → Shown
shown_of s p e = record { session = s; place = p; tag = e.0; value = e.1 }

-- what the place of a field shows
abbrev pub shown_by_fact : (Session → Place → Option Entry) → Session → Fact → Option Shown
shown_by_fact shows s (Field p t v) = option_map (shown_of s p) (shows s p)
shown_by_fact shows s f = None

-- What each place of a session shows; which session is ended; what of a session is removed; which
-- one was asked to abort; all that shows, ascending; the sessions that have a fact, ascending.
pub record View : Type 0 where
  pub shows : Session → Place → Option Entry
  pub ended : Session → Bool
  pub removals : Session → List Removable
  pub aborted : Session → Bool
  pub all : List Shown
  pub sessions : List Session

-- what the facts of a session show
abbrev pub entry_shown_on : List SessionFact → Session → Place → Option Entry
entry_shown_on facts s = entry_shown (facts_on facts s)

-- what is read of these facts
unfoldable pub view : List SessionFact → View
view facts = record {
  shows = entry_shown_on facts;
  ended = λ s. is_ended (facts_on facts s);
  removals = λ s. removed_parts (facts_on facts s);
  aborted = λ s. is_aborted (facts_on facts s);
  all = ascending shown_cmp (filter_map (λ (x : SessionFact). shown_by_fact (entry_shown_on facts) x.0 x.1) facts);
  sessions = ascending session_cmp (map (λ (x : SessionFact). x.0) facts);
}

-- ---- what a place shows, as a value of its kind

-- the value that a place of the session shows
abbrev pub value : View → Session → Place → Option Value
value v s p = value_at (v.shows s) p

-- as a text
abbrev pub as_text : Value → Option (List ℕ)
as_text (Text t) = Some t
as_text x = None

-- as an address
abbrev pub as_address : Value → Option (List ℕ)
as_address (Address a) = Some a
as_address x = None

-- as filters
abbrev pub as_filters : Value → Option (List (List ℕ))
as_filters (Filters f) = Some f
as_filters x = None

-- the number that a place shows
abbrev pub number : View → Session → Place → Option ℕ
number v s p = number_at (v.shows s) p

-- the text that a place shows
abbrev pub text : View → Session → Place → Option (List ℕ)
text v s p = option_and_then as_text (value v s p)
