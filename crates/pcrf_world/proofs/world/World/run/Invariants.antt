use Rattle.std.proofs.Common.{◌≡◌, ◌≤◌, length, take, vec_len, vec_capacity}
use Rattle.pcrf_model.specs.Worlds.{start, world_view, after_all, GivesAll}
use Rattle.pcrf_world.specs.Values.{setting, events_value, answers_value}
use Rattle.pcrf_world.proofs.world.World.run.Given as goal

-- the events so far with their answers
abbrev pub invariant-loop-event : goal.invariant-loop-event
invariant-loop-event l = record {
  gives : GivesAll (setting l.fn.tables) (start l.n) (events_value (take l.event-index l.events)) (answers_value l.answers.items);
  tables : l.world.tables ≡ l.fn.tables;
  holds : l.world.seen ≡ world_view (after_all (setting l.fn.tables) (start l.n) (events_value (take l.event-index l.events)) (answers_value l.answers.items));
  count : vec_len l.answers ≡ l.event-index;
  room : length l.events ≤ vec_capacity l.answers;
}
