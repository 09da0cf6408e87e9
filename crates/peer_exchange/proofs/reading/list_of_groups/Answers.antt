use Rattle.std.proofs.Common.{◌≡◌, ◌++◌, ◌∷◌, [], length-append, map, arith}
use Rattle.std.proofs.lemmas.List.{map_push}
use Rattle.std.proofs.lemmas.Result.{err_from_is_err_and}
use Rattle.site_join.specs.Groups.{group_of}
use Rattle.peer_exchange.specs.Spelling.{held_group_bytes}
use Rattle.fact_codec.specs.Reading.{many}
use Rattle.peer_exchange.specs.Reading.{held_group}
use Rattle.fact_codec.proofs.Loops.{goes_on, ends, is_done, spelled_on}
use Rattle.peer_exchange.proofs.reading.list_of_groups.Goals as goal

pub returns-in_err-item-clause-read : goal.returns-in_err-item-clause-read
returns-in_err-item-clause-read c =
    let p = err_from_is_err_and c.from_residual.result c.from_residual.ensures.1 in
    rw (p.1, p.2) (ends (held_group c.args.version) c.in_err-item.field-0.0 (map group_of c.loop.items.items) c.args.count c.loop.counter c.loop.rest.now (many (held_group c.args.version) c.args.count c.args.bytes.now) c.loop-test.true c.in_err-item.ensures.read c.loop.invariant.read)

pub loop-preserved : goal.loop-preserved
loop-preserved c =
    let x = group_of c.in_ok-item.item in
    let front = map group_of c.loop.items.items in
    let e : map group_of c.push.new.self.items ≡ front ++ x ∷ [] = rw c.in_ok-push.ensures.items (map_push _ c.loop.items.items c.in_ok-item.item) in
    record {
      read = rw e (goes_on (held_group c.args.version) front c.args.count c.loop.counter c.loop.rest.now x c.in_ok-item.after.now (many (held_group c.args.version) c.args.count c.args.bytes.now) c.loop-test.true c.in_ok-item.ensures.read c.loop.invariant.read);
      spelled = rw e (spelled_on held_group_bytes front x c.args.bytes.now c.loop.rest.now c.in_ok-item.after.now c.loop.invariant.spelled c.in_ok-item.ensures.spelled);
      counted = rw (e, length-append, c.loop.invariant.counted) (omega arith);
      within = omega (arith, c.loop-test.true);
    }

pub returns : goal.returns
returns c = record {
  read = is_done (held_group c.args.version) (map group_of c.loop.items.items) c.args.count c.loop.counter c.loop.rest.now (many (held_group c.args.version) c.args.count c.args.bytes.now) c.loop-test.false c.loop.invariant.read;
  spelled = c.loop.invariant.spelled;
  counted = omega (arith, c.loop.invariant.counted, c.loop.invariant.within, c.loop-test.false);
}
