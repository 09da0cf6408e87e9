use Rattle.std.proofs.Common.{◌≡◌, Ok, Some, rules}
use Rattle.peer_exchange.specs.Frames.{front_of}
use Rattle.peer_exchange.proofs.Frames.{frame_takes}
use Rattle.peer_exchange.proofs.assembling.LetterAssembler.next.Goals as goal

pub returns-in_ok-frame-in-Ok-Some-clause-frame : goal.returns-in_ok-frame-in-Ok-Some-clause-frame
returns-in_ok-frame-in-Ok-Some-clause-frame c =
    let e : front_of c.args.self.now.bytes ≡ Ok (Some (c.in_ok-frame-in-Ok-Some.frame.items, c.advance.new.self.items)) = search rules in
    (frame_takes _ _ _ e).0

pub returns-in_ok-frame-in-Ok-Some-clause-parts : goal.returns-in_ok-frame-in-Ok-Some-clause-parts
returns-in_ok-frame-in-Ok-Some-clause-parts c =
    let e : front_of c.args.self.now.bytes ≡ Ok (Some (c.in_ok-frame-in-Ok-Some.frame.items, c.advance.new.self.items)) = search rules in
    (frame_takes _ _ _ e).1
