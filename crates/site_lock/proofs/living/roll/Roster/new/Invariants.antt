use Rattle.std.proofs.Common.{◌≡◌, vec_len, vec_capacity}
use Rattle.site_lock.specs.Sound.{AreBlank}
use Rattle.site_lock.proofs.living.roll.Roster.new.Given as goal

abbrev pub invariant-loop : goal.invariant-loop
invariant-loop l = record {
  blank : AreBlank l.chairs.items l.receipts.items;
  chairs : vec_len l.chairs ≡ l.counter;
  receipts : vec_len l.receipts ≡ l.counter;
  chairs_room : vec_capacity l.chairs ≡ vec_capacity l.initial.chairs;
  receipts_room : vec_capacity l.receipts ≡ vec_capacity l.initial.receipts;
}
