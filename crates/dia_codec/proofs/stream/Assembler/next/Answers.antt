use Rattle.std.proofs.Common.{◌≡◌, Ok, Some, rules}
use Rattle.dia_codec.specs.Stream.{front_of}
use Rattle.dia_codec.proofs.Frames.{frame_takes}
use Rattle.dia_codec.proofs.stream.Assembler.next.Goals as goal

pub returns-in_ok-frame-in-Ok-Some-clause-frame : goal.returns-in_ok-frame-in-Ok-Some-clause-frame
returns-in_ok-frame-in-Ok-Some-clause-frame c =
    let e : front_of c.args.self.now.bytes ≡ Ok (Some (c.in_ok-frame-in-Ok-Some.frame.items, c.advance.new.self.items)) = search rules in
    (frame_takes _ _ _ e).0

pub returns-in_ok-frame-in-Ok-Some-clause-parts : goal.returns-in_ok-frame-in-Ok-Some-clause-parts
returns-in_ok-frame-in-Ok-Some-clause-parts c =
    let e : front_of c.args.self.now.bytes ≡ Ok (Some (c.in_ok-frame-in-Ok-Some.frame.items, c.advance.new.self.items)) = search rules in
    (frame_takes _ _ _ e).1
