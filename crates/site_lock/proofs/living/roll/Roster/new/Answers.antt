use Rattle.std.proofs.Common.{rules}
use Rattle.site_lock.proofs.Opening.{blank_more}
use Rattle.site_lock.proofs.living.roll.Roster.new.Goals as goal

pub loop-preserved : goal.loop-preserved
loop-preserved c = record {
  blank = rw (c.push_reserved.ensures.items, c.push_reserved-in-loop.ensures.items) (blank_more c.loop.chairs.items c.loop.receipts.items c.new-original.result.0 c.new-original.result.1 c.loop.invariant.blank c.new-original.ensures.name c.new-original.ensures.original c.new-original.ensures.duplicate);
  chairs = search rules;
  receipts = search rules;
  chairs_room = search rules;
  receipts_room = search rules;
}
