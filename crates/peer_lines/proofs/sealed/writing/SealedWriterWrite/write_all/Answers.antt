use Rattle.std.proofs.Common.{◌≡◌, ◌+◌, ◌-◌, ◌<◌, length, take, drop, rules, arith}
use Rattle.peer_lines.proofs.Sealing.{piece_fits, rest_of, taken_more, writes_more}
use Rattle.peer_lines.proofs.sealed.writing.SealedWriterWrite.write_all.Goals as goal

pub loop-taken-preserved : goal.loop-taken-preserved
loop-taken-preserved g c =
    let buf = c.args.buf.now in let taken = c.loop-taken.taken in let n = c.in_ok-taken.field-0 in
    let rest = take (length buf - taken) (drop taken buf) in
    let left : length rest ≡ length buf - taken = rest_of taken buf in
    let test : taken < length buf = c.loop-taken-test.true in
    let some : 0 < length rest = omega arith in
    let pos : 0 < n = omega (arith, c.in_ok-taken.ensures.count) in record {
      within = search rules;
      written = writes_more _ _ _ _ _ _ (take taken buf) (take n rest) (take (taken + n) buf) c.loop-taken.invariant.written
          (c.in_ok-taken.ensures.written pos) (c.in_ok-taken.ensures.course pos) (piece_fits n rest c.in_ok-taken.ensures.count some) (taken_more taken n buf);
      sound = search rules;
    }
