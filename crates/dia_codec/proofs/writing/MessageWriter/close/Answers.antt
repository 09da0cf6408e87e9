use Rattle.std.proofs.Common.{◌≡◌, ◌+◌, ◌≤◌, ◌∙◌, length, drop, arith, length-drop, ap}
use Rattle.dia_codec.specs.Drafts.{closed_at}
use Rattle.dia_codec.proofs.Drafts.{closed_behind}
use Rattle.dia_codec.proofs.writing.MessageWriter.close.Goals as goal

pub returns : goal.returns
returns c =
    let view : drop 20 c.self.inside.bytes.items ≡ c.args.self.now = c.self.view_is in
    let front : 20 ≤ length c.self.inside.bytes.items = c.self.invariant in
    let asked : c.args.mark.at + 8 ≤ length c.args.self.now = c.requires in
    let room : 20 + c.args.mark.at + 8 ≤ length c.self.inside.bytes.items = omega (arith, ap length view, length-drop 20 c.self.inside.bytes.items) in
    record { bytes = ap (drop 20) c.set_length.ensures.closed ∙ closed_behind c.args.mark.at c.self.inside.bytes.items room ∙ ap (closed_at c.args.mark.at) view }
