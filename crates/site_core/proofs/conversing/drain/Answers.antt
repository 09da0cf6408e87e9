use Rattle.std.proofs.Common.{rules, ◌≡◌, Some, None, Ok}
use Rattle.dia_codec.specs.Stream.{front_of}
use Rattle.site_core.proofs.Turns.{went_turn}
use Rattle.site_core.proofs.conversing.drain.Goals as goal

pub loop-frame-preserved : goal.loop-frame-preserved
loop-frame-preserved g c =
    let found : front_of c.loop-frame.assembler.bytes ≡ Ok (Some (c.as_slice.result.now, c.next.new.self.bytes)) = search rules in
    let sound : c.next.new.self.fault ≡ None = search rules in
    record {
      went = went_turn _ _ _ _ _ _ _ _ _ _ _ c.loop-frame.invariant.went found c.in_default.is c.serve_frame.ensures.turned;
      sound = sound;
    }
