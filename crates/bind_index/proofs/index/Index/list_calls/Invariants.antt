use Rattle.bind_index.specs.Index.{Grows, ListsCall}
use Rattle.bind_index.proofs.Records.{EachLeft}
use Rattle.bind_index.proofs.index.Index.list_calls.Given as goal

-- nothing was unlisted, and once those that are left are listed, all are
abbrev pub invariant-loop-id : goal.invariant-loop-id
invariant-loop-id l = record { grows : Grows l.fn.self l.self; listed : EachLeft ListsCall l.self l.id-iterator l.fn.sessions }
