-- What holds of the facts of one session.
use Rattle.std.specs.Prelude.{◌≡◌, ℕ, false, not, ◌&&◌, List, Some}
use Rattle.std.specs.List.{list_any}
use Rattle.std.specs.Ordering.{is_lt}
use Rattle.pcrf_values.specs.declared.tag.Tag.{Tag}
use Rattle.pcrf_values.specs.Sets.{In, Same}
use Rattle.pcrf_values.specs.FlowWords.{flows, flow_status, given_rate}
use Rattle.pcrf_values.specs.Live.{gx_is_live, af_is_live, home}
use Rattle.pcrf_values.specs.Places.{Place, ComponentField, FlowField}
use Rattle.pcrf_values.specs.ToldWords.{told_entries}
use Rattle.pcrf_values.specs.Values.{Value, Entry, entry_cmp}
use Rattle.pcrf_values.specs.Facts.{Fact, Field}
use Rattle.pcrf_values.specs.Held.{kept_list, join_of, is_ended, greatest_entry, entry_shown, removed_parts, aborts, is_aborted}

-- What is kept of a union: in either order, of three either way, of a union with itself, and of parts that were kept before.
pub record JoinsHeld : Type 0 where
  pub commutative : (xs ys : List Fact) → join_of xs ys ≡ join_of ys xs
  pub associative : (xs ys zs : List Fact) → join_of (join_of xs ys) zs ≡ join_of xs (join_of ys zs)
  pub idempotent : (xs : List Fact) → kept_list xs ≡ xs → join_of xs xs ≡ xs
  pub held_first : (xs ys : List Fact) → join_of (kept_list xs) ys ≡ join_of xs ys
  pub held_once : (xs : List Fact) → kept_list (kept_list xs) ≡ kept_list xs

-- two lists of facts show the same, are both ended or neither, have the same removed, and were both
-- asked to abort or neither
pub record ShowTheSame (xs ys : List Fact) : Type 0 where
  pub shows : (p : Place) → entry_shown xs p ≡ entry_shown ys p
  pub ended : is_ended xs ≡ is_ended ys
  pub removals : removed_parts xs ≡ removed_parts ys
  pub aborts : is_aborted xs ≡ is_aborted ys

-- so what is kept
abbrev pub HeldShowsTheSame : Type 0
HeldShowsTheSame = (facts : List Fact) → ShowTheSame (kept_list facts) facts

-- and so lists with the same members
abbrev pub MembersShowTheSame : Type 0
MembersShowTheSame = (xs ys : List Fact) → Same xs ys → ShowTheSame xs ys

-- the value at a place is that of a fact there, and no fact there is above it
pub record IsGreatestAt (facts : List Fact) (p : Place) (e : Entry) : Type 0 where
  pub there : In (Field p e.0 e.1) facts
  pub none_above : (t : Tag) (x : Value) → In (Field p t x) facts → is_lt (entry_cmp e (t, x)) ≡ false

-- so it is
abbrev pub ValueIsTheGreatest : Type 0
ValueIsTheGreatest = (facts : List Fact) (p : Place) (e : Entry) → greatest_entry facts p ≡ Some e → IsGreatestAt facts p e

-- there is one where there is a fact
abbrev pub FactGivesAValue : Type 0
FactGivesAValue = (facts : List Fact) (p : Place) (t : Tag) (x : Value) → In (Field p t x) facts → (e : Entry) × (greatest_entry facts p ≡ Some e)

-- the session was asked to abort where one of its facts says so, until it ends
abbrev pub AbortedUntilTheEnd : Type 0
AbortedUntilTheEnd = (facts : List Fact) →
    is_aborted facts ≡ (not (is_ended facts) && list_any aborts facts)

-- what is said of live sessions, flows and told rules is the same on what is kept
pub record HeldSaysTheSame : Type 0 where
  pub gx_live : (facts : List Fact) → gx_is_live (kept_list facts) ≡ gx_is_live facts
  pub af_live : (facts : List Fact) → af_is_live (kept_list facts) ≡ af_is_live facts
  pub homes : (facts : List Fact) → home (kept_list facts) ≡ home facts
  pub flow_numbers : (facts : List Fact) → flows (kept_list facts) ≡ flows facts
  pub statuses : (facts : List Fact) (c n : ℕ) → flow_status (entry_shown (kept_list facts)) c n ≡ flow_status (entry_shown facts) c n
  pub rates : (facts : List Fact) (c n : ℕ) (own : FlowField) (whole : ComponentField) → given_rate (entry_shown (kept_list facts)) c n own whole ≡ given_rate (entry_shown facts) c n own whole
  pub told_names : (facts : List Fact) → told_entries (kept_list facts) ≡ told_entries facts
