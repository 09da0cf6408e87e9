use Rattle.peer_lines.proofs.Unsealing.{left_after}
use Rattle.peer_lines.proofs.sealed.reading.open_next.Goals as goal

pub returns-clause-stream : goal.returns-clause-stream
returns-clause-stream g c =
    left_after c.open_record.result c.args.course.now c.open_record.new.course c.args.begun.now.items c.read_record.new.begun.items c.open_record.new.begun.items
    c.args.ready.now.items c.open_record.new.ready.items (g.R.Read.remaining c.args.reader.now) (g.R.Read.remaining c.read_record.new.reader)
    c.read_record.ensures.stream c.requires.border c.requires.idle (c.in_ok-read_record.ensures.whole c.if-not-branch.false)
    c.open_record.ensures.right c.open_record.ensures.ready c.open_record.ensures.course c.open_record.ensures.taken
    c.open_record.ensures.same_course c.open_record.ensures.same_begun c.open_record.ensures.same_ready
