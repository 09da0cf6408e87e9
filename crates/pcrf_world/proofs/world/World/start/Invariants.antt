use Rattle.std.proofs.Common.{◌≡◌, map, vec_len}
use Rattle.pcrf_model.specs.Worlds.{fresh_sites, site_view}
use Rattle.pcrf_world.specs.Members.{AreMembers, seen_of}
use Rattle.pcrf_world.proofs.world.World.start.Given as goal

-- the sites so far
abbrev pub invariant-loop-number : goal.invariant-loop-number
invariant-loop-number l = record {
  seen : map seen_of l.sites.items ≡ map site_view (fresh_sites l.number);
  members : AreMembers l.fn.tables l.sites.items;
  count : vec_len l.sites ≡ l.number;
}
