-- What is read of one Gx session and one AF session by their facts alone. Whether they match depends on nothing else, nor do the rules of the
-- AF session's flows, once it is bound.
use Rattle.std.specs.Prelude.{List, []}
use Rattle.pcrf_values.specs.Facts.{Fact}
use Rattle.pcrf_values.specs.Held.{entry_shown, removed_parts, is_ended, is_aborted}
use Rattle.pcrf_model.specs.Sessions.{Kind, Gx, Af}
use Rattle.pcrf_model.specs.Views.{View}

-- the facts of the session of that kind
abbrev pub of_kind : Kind → List Fact → List Fact → List Fact
of_kind Gx gxs afs = gxs
of_kind Af gxs afs = afs

-- what is read of a Gx session of the first facts beside an AF session of the second
abbrev pub beside : List Fact → List Fact → View
beside gxs afs = record {
  shows = λ s. entry_shown (of_kind s.kind gxs afs);
  ended = λ s. is_ended (of_kind s.kind gxs afs);
  removals = λ s. removed_parts (of_kind s.kind gxs afs);
  aborted = λ s. is_aborted (of_kind s.kind gxs afs);
  all = [];
  sessions = [];
}
