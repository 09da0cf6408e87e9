use Rattle.std.proofs.Common.{◌≡◌, ◌++◌, ◌∷◌, [], length-append, map, arith}
use Rattle.std.proofs.lemmas.List.{map_push}
use Rattle.std.proofs.lemmas.Result.{err_from_is_err_and}
use Rattle.af_records.specs.RecordFacts as af_facts
use Rattle.fact_codec.specs.Spelling.{held_fact_bytes}
use Rattle.fact_codec.specs.Reading.{many}
use Rattle.fact_codec.specs.Said.{held_af_fact}
use Rattle.fact_codec.proofs.Loops.{goes_on, ends, is_done, spelled_on}
use Rattle.fact_codec.proofs.held_facts.list_of_held_af_facts.Goals as goal

pub returns-in_err-item-clause-read : goal.returns-in_err-item-clause-read
returns-in_err-item-clause-read c =
    let p = err_from_is_err_and c.from_residual.result c.from_residual.ensures.1 in
    rw (p.1, p.2) (ends (held_af_fact c.args.version) c.in_err-item.field-0.0 (map af_facts.fact_of c.loop.items.items) c.args.count c.loop.counter c.loop.rest.now (many (held_af_fact c.args.version) c.args.count c.args.bytes.now) c.loop-test.true c.in_err-item.ensures.read c.loop.invariant.read)

pub loop-preserved : goal.loop-preserved
loop-preserved c =
    let x = af_facts.fact_of c.in_ok-item.item in
    let front = map af_facts.fact_of c.loop.items.items in
    let e : map af_facts.fact_of c.push.new.self.items ≡ front ++ x ∷ [] = rw c.in_ok-push.ensures.items (map_push _ c.loop.items.items c.in_ok-item.item) in
    record {
      read = rw e (goes_on (held_af_fact c.args.version) front c.args.count c.loop.counter c.loop.rest.now x c.in_ok-item.after.now (many (held_af_fact c.args.version) c.args.count c.args.bytes.now) c.loop-test.true c.in_ok-item.ensures.read c.loop.invariant.read);
      spelled = rw e (spelled_on held_fact_bytes front x c.args.bytes.now c.loop.rest.now c.in_ok-item.after.now c.loop.invariant.spelled c.in_ok-item.ensures.spelled);
      counted = rw (e, length-append, c.loop.invariant.counted) (omega arith);
      within = omega (arith, c.loop-test.true);
    }

pub returns : goal.returns
returns c = record {
  read = is_done (held_af_fact c.args.version) (map af_facts.fact_of c.loop.items.items) c.args.count c.loop.counter c.loop.rest.now (many (held_af_fact c.args.version) c.args.count c.args.bytes.now) c.loop-test.false c.loop.invariant.read;
  spelled = c.loop.invariant.spelled;
  counted = omega (arith, c.loop.invariant.counted, c.loop.invariant.within, c.loop-test.false);
}
