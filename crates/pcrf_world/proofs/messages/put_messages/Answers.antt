use Rattle.std.proofs.Common.{rules}
use Rattle.dia_codec.specs.Spelling.{IsFrame}
use Rattle.pcrf_world.proofs.FramesOf.{frame_at}
use Rattle.pcrf_world.proofs.messages.put_messages.Goals as goal

pub put_message-requires : goal.put_message-requires
put_message-requires g c =
    let frame : IsFrame c.frame-item.result.items = frame_at c.in_ok-stream.stream.frames.items c.loop-frame.frame-index c.frame-item.result (search rules) (search rules) (search rules) in
    search (rules, frame)
