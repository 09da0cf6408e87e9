-- What happens in a world when an event is made: its answer, and what is then seen.
use Rattle.std.specs.Prelude.{◌≡◌, length}
use Rattle.pcrf_model.specs.Worlds.{WorldEvent, WorldAnswer, Gives}
use Rattle.pcrf_model.specs.Seen.{world_view_after}
use Rattle.pcrf_world.specs.Values.{WorldValue, setting}

-- The event in the first world gets an answer that the definitions give, and leaves the second: what is seen there is what they say by what was seen
-- before. The operator tables stay, and no site comes or goes.
pub record HappensIn (before after : WorldValue) (event : WorldEvent) (given : WorldAnswer) : Type 0 where
  pub answer : Gives (setting before.tables) before.seen event given
  pub seen : after.seen ≡ world_view_after (setting before.tables) before.seen event given
  pub tables : after.tables ≡ before.tables
  pub sites : length after.seen.sites ≡ length before.seen.sites
