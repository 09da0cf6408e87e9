use Rattle.std.proofs.Common.{◌≡◌, ◌++◌, ◌∙◌, ◌+◌, ◌-◌, drop, length, length-drop, ap, arith}
use Rattle.dia_codec.specs.Drafts.{written_head}
use Rattle.dia_codec.proofs.Drafts.{behind}
use Rattle.dia_codec.proofs.writing.MessageWriter.open.Goals as goal

pub returns-clause-opened : goal.returns-clause-opened
returns-clause-opened c =
    let b = behind c.self.inside.bytes.items c.put_head.new.out.items (written_head c.args.key c.args.mandatory 0) c.self.invariant c.in_ok-put_head.ensures.written in
    let view : drop 20 c.self.inside.bytes.items ≡ c.args.self.now = c.self.view_is in
    record { head = cc; place = omega (arith, ap length view, length-drop 20 c.self.inside.bytes.items) }
