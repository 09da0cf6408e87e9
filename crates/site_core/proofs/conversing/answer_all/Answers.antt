use Rattle.std.proofs.Common.{rules, arith, ◌≡◌, ◌++◌, [], take, sym, length, ◌<◌}
use Rattle.std.specs.Io.KnownBytes.{Consumes}
use Rattle.site_core.proofs.StreamReading.{reads_nothing, reads_on, read_stops, read_no_memory, read_failed, read_closed, read_cut, none_front, gave_nothing}
use Rattle.site_core.proofs.conversing.answer_all.Goals as goal

pub loop-turn-init : goal.loop-turn-init
loop-turn-init g c =
    let start : c.start-assembler.result.bytes ≡ [] = search rules in
    record { reads = reads_nothing _ _ _ _ start; none = none_front _ start; sound = search rules; most = omega arith; turns = omega arith }

pub returns-in_default-clause-conversed : goal.returns-in_default-clause-conversed
returns-in_default-clause-conversed g c = read_failed _ _ _ _ _ _ _ c.loop-turn.invariant.reads

pub returns-then-is_err-clause-conversed : goal.returns-then-is_err-clause-conversed
returns-then-is_err-clause-conversed g c = read_no_memory _ _ _ _ _ _ _ c.loop-turn.invariant.reads

pub returns-in-Some-clause-conversed : goal.returns-in-Some-clause-conversed
returns-in-Some-clause-conversed g c =
    let fed : c.feed.new.self.bytes ≡ c.loop-turn.assembler.bytes ++ take c.in-Ok.count c.read.new.buf = search rules in
    read_stops _ _ _ _ _ _ _ _ _ _ _ _ _ c.loop-turn.invariant.reads c.in-Ok.ensures.bytes.0 fed c.in-Some.ensures.midway c.in-Some.ensures.conversed

pub returns-then-is_empty-clause-conversed : goal.returns-then-is_empty-clause-conversed
returns-then-is_empty-clause-conversed g c =
    let room : 0 < length c.read.new.buf = search rules in
    let bytes = c.in-Ok.ensures.bytes in
    let none : Consumes (g.R.Read.remaining c.loop-turn.reader.inner) (g.R.Read.remaining c.read.new.self.inner) [] = gave_nothing _ _ _ _ c.if-count-eq0.true bytes.0 in
    read_closed _ _ _ _ _ _ _ _ c.loop-turn.invariant.reads none (bytes.1 c.if-count-eq0.true room) (sym c.if-is_empty.ensures)

pub returns-then-count-eq0-clause-conversed : goal.returns-then-count-eq0-clause-conversed
returns-then-count-eq0-clause-conversed g c =
    let room : 0 < length c.read.new.buf = search rules in
    let bytes = c.in-Ok.ensures.bytes in
    let none : Consumes (g.R.Read.remaining c.loop-turn.reader.inner) (g.R.Read.remaining c.read.new.self.inner) [] = gave_nothing _ _ _ _ c.if-count-eq0.true bytes.0 in
    read_cut _ _ _ _ _ _ _ _ c.loop-turn.invariant.reads none (bytes.1 c.if-count-eq0.true room) (sym c.if-is_empty.ensures) c.loop-turn.invariant.none

pub returns-clause-conversed : goal.returns-clause-conversed
returns-clause-conversed g c = read_failed _ _ _ _ _ _ _ c.loop-turn.invariant.reads

pub loop-turn-preserved : goal.loop-turn-preserved
loop-turn-preserved g c =
    let fed : c.feed.new.self.bytes ≡ c.loop-turn.assembler.bytes ++ take c.in-Ok.count c.read.new.buf = search rules in
    record {
      reads = reads_on _ _ _ _ _ _ _ _ _ _ _ _ _ c.loop-turn.invariant.reads c.in-Ok.ensures.bytes.0 fed c.in_default-drain.ensures.went;
      none = c.in_default-drain.ensures.none;
      sound = c.in_default-drain.ensures.sound;
      most = search rules;
      turns = search rules;
    }
