-- A state's records as facts under their sessions, and operations as the definitions have them.
use Rattle.std.specs.Prelude.{ℕ, List, [], ◌++◌, map, Option, Some, None}
use Rattle.std.specs.List.{flat_map}
use Rattle.pcrf_values.specs.Ascending.{ascending}
use Rattle.pcrf_values.specs.Orders.{text_cmp}
use Rattle.lattice_core.specs.Entries.{put}
use Rattle.pcrf_values.specs.Facts.{Fact}
use Rattle.pcrf_values.specs.Held.{kept_list, join_of}
use Rattle.pcrf_model.specs.Sessions.{Session, gx, af}
use Rattle.pcrf_model.specs.Holdings.{SessionFact, session_fact_cmp, under, Holding, union, kept_of}
use Rattle.gx_records.specs.GxFacts as gx_facts
use Rattle.af_records.specs.RecordFacts as af_facts
use Rattle.site_join.specs.declared.operation.SessionFacts.{SessionFacts}
use Rattle.site_join.specs.declared.operation.SessionFacts.TheVariants as on

-- records by Session-Id
abbrev pub Records : Type 0
Records = List (List ℕ × List Fact)

-- the facts of records, each under its session
abbrev pub facts_under : (List ℕ → Session) → Records → List SessionFact
facts_under kind = flat_map (λ e. under (kind e.0) e.1)

-- those of both kinds of sessions
abbrev pub facts_of : Records → Records → List SessionFact
facts_of gxs afs = facts_under gx gxs ++ facts_under af afs

-- as a holding with that clock
abbrev pub held_by : Records → Records → ℕ → Holding
held_by gxs afs clock = record { facts = ascending session_fact_cmp (facts_of gxs afs); clock = clock }

-- the facts of a record, if there is one
abbrev pub record_facts : Option (List Fact) → List Fact
record_facts None = []
record_facts (Some facts) = facts

-- ---- operations

-- the session that facts are on
abbrev pub session_of : SessionFacts → Session
session_of (on.Gx id facts) = gx id
session_of (on.Af id facts) = af id

-- the facts, as the definitions have them
abbrev pub facts_in : SessionFacts → List Fact
facts_in (on.Gx id facts) = map gx_facts.fact_of facts.items
facts_in (on.Af id facts) = map af_facts.fact_of facts.items

-- the records of Gx sessions with these facts joined into one, where they are on one of these
abbrev pub gx_with : Records → SessionFacts → Records
gx_with gxs (on.Gx id facts) = put text_cmp join_of gxs id (kept_list (map gx_facts.fact_of facts.items))
gx_with gxs (on.Af id facts) = gxs

-- those of AF sessions
abbrev pub af_with : Records → SessionFacts → Records
af_with afs (on.Gx id facts) = afs
af_with afs (on.Af id facts) = put text_cmp join_of afs id (kept_list (map af_facts.fact_of facts.items))

-- ---- merging

-- what is kept of both
abbrev pub merge_of : Holding → Holding → Holding
merge_of h k = kept_of (union h k)
