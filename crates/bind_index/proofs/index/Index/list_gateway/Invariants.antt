use Rattle.std.proofs.Common.{map, take}
use Rattle.gx_records.specs.GxFacts as gx_facts
use Rattle.pcrf_model.specs.Sessions.{gx}
use Rattle.bind_index.specs.Index.{Grows, ListsFacts}
use Rattle.bind_index.proofs.index.Index.list_gateway.Given as goal

-- nothing was unlisted, and the session is listed by the facts so far
abbrev pub invariant-loop-fact : goal.invariant-loop-fact
invariant-loop-fact l = record { grows : Grows l.fn.self l.self; so_far : ListsFacts l.self (gx l.id) (map gx_facts.fact_of (take l.fact-index l.facts)) }
