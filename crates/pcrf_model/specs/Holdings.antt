-- Holdings: the facts that a site holds, each with its session, and its clock.
use Rattle.std.specs.Prelude.{ℕ, max, Bool, not, ◌&&◌, if◌then◌else◌, List, [], ◌++◌, map, Option, Some, None}
use Rattle.std.proofs.Common.{Ordering}
use Rattle.std.specs.Ordering.{is_eq}
use Rattle.std.specs.List.{filter, filter_map}
use Rattle.pcrf_values.specs.Orders.{pair_cmp}
use Rattle.pcrf_values.specs.Ascending.{ascending}
use Rattle.pcrf_values.specs.Sets.{maximal}
use Rattle.pcrf_values.specs.Facts.{Fact, fact_cmp, is_shaded_by}
use Rattle.pcrf_model.specs.Sessions.{Session, session_cmp}

-- a fact with the session on which it is
abbrev pub SessionFact : Type 0
SessionFact = Session × Fact

-- by session, and then by fact: the order in which letters carry them
abbrev pub session_fact_cmp : SessionFact → SessionFact → Ordering
session_fact_cmp = pair_cmp session_cmp fact_cmp

-- on one session the second overshadows the first
abbrev pub is_shaded_there_by : SessionFact → SessionFact → Bool
is_shaded_there_by x y = is_eq (session_cmp x.0 y.0) && is_shaded_by x.1 y.1

-- the facts that none overshadows
abbrev pub kept_facts : List SessionFact → List SessionFact
kept_facts = maximal is_shaded_there_by

-- facts on that session
abbrev pub under : Session → List Fact → List SessionFact
under s = map (λ f. (s, f))

-- the fact, if it is on the session
abbrev pub on_session : Session → SessionFact → Option Fact
on_session s x = if is_eq (session_cmp s x.0) then Some x.1 else None

-- the facts of one session
abbrev pub facts_on : List SessionFact → Session → List Fact
facts_on facts s = filter_map (on_session s) facts

-- The facts, ascending, and the clock: the greatest counter of the operations that were taken, 0 at first.
pub record Holding : Type 0 where
  pub facts : List SessionFact
  pub clock : ℕ

-- no fact, and the clock at its beginning
abbrev pub nothing_held : Holding
nothing_held = record { facts = []; clock = 0 }

-- the facts of both, and the greater clock
abbrev pub union : Holding → Holding → Holding
union h k = record { facts = ascending session_fact_cmp (h.facts ++ k.facts); clock = max h.clock k.clock }

-- without the overshadowed facts, under the same clock
abbrev pub kept_of : Holding → Holding
kept_of h = record { facts = ascending session_fact_cmp (kept_facts h.facts); clock = h.clock }

-- these facts in place of those that the session had, under that clock
abbrev pub with_facts_of : Holding → Session → List Fact → ℕ → Holding
with_facts_of h s facts clock = record {
  facts = ascending session_fact_cmp (filter (λ x. not (is_eq (session_cmp s x.0))) h.facts ++ under s facts);
  clock = clock;
}
