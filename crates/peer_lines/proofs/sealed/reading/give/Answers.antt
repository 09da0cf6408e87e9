use Rattle.std.proofs.Common.{length, take}
use Rattle.std.proofs.lemmas.List.{nil_from_length}
use Rattle.peer_lines.proofs.Unsealing.{read_given}
use Rattle.peer_lines.proofs.sealed.reading.give.Goals as goal

pub returns-clause-bytes : goal.returns-clause-bytes
returns-clause-bytes g c =
    rw c.hand_on-2.ensures.rest (read_given c.open_next.new.course c.open_next.new.begun.items c.open_next.new.ready.items (take c.hand_on-2.result c.hand_on-2.new.buf)
    c.hand_on-2.result (length c.hand_on-2.new.buf) _ (g.R.Read.remaining c.open_next.new.reader) c.open_next.ensures.stream c.hand_on-2.ensures.given
    c.hand_on-2.ensures.count (λ some none. c.in_ok-open_next.ensures.end (nil_from_length _ none)) c.in_ok-open_next.ensures.border)
