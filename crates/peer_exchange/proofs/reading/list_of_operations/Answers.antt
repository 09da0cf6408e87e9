use Rattle.std.proofs.Common.{◌≡◌, ◌++◌, ◌∷◌, [], length-append, arith}
use Rattle.std.proofs.lemmas.Result.{err_from_is_err_and}
use Rattle.fact_codec.specs.Reading.{many}
use Rattle.fact_codec.proofs.Loops.{goes_on, ends, is_done, spelled_on}
use Rattle.peer_exchange.specs.Spelling.{operation_bytes}
use Rattle.peer_exchange.specs.Reading.{operation}
use Rattle.peer_exchange.proofs.reading.list_of_operations.Goals as goal

pub returns-in_err-item-clause-read : goal.returns-in_err-item-clause-read
returns-in_err-item-clause-read c =
    let p = err_from_is_err_and c.from_residual.result c.from_residual.ensures.1 in
    rw (p.1, p.2) (ends (operation c.args.version) c.in_err-item.field-0.0 c.loop.items.items c.args.count c.loop.counter c.loop.rest.now (many (operation c.args.version) c.args.count c.args.bytes.now) c.loop-test.true c.in_err-item.ensures.read c.loop.invariant.read)

pub loop-preserved : goal.loop-preserved
loop-preserved c =
    let x = c.in_ok-item.item in
    let e : c.push.new.self.items ≡ c.loop.items.items ++ x ∷ [] = c.in_ok-push.ensures.items in
    record {
      read = rw e (goes_on (operation c.args.version) c.loop.items.items c.args.count c.loop.counter c.loop.rest.now x c.in_ok-item.after.now (many (operation c.args.version) c.args.count c.args.bytes.now) c.loop-test.true c.in_ok-item.ensures.read c.loop.invariant.read);
      spelled = rw e (spelled_on operation_bytes c.loop.items.items x c.args.bytes.now c.loop.rest.now c.in_ok-item.after.now c.loop.invariant.spelled c.in_ok-item.ensures.spelled);
      counted = rw (e, length-append, c.loop.invariant.counted) (omega arith);
      within = omega (arith, c.loop-test.true);
    }

pub returns : goal.returns
returns c = record {
  read = is_done (operation c.args.version) c.loop.items.items c.args.count c.loop.counter c.loop.rest.now (many (operation c.args.version) c.args.count c.args.bytes.now) c.loop-test.false c.loop.invariant.read;
  spelled = c.loop.invariant.spelled;
  counted = omega (arith, c.loop.invariant.counted, c.loop.invariant.within, c.loop-test.false);
}
