use Rattle.std.proofs.Common.{Err, ◌≡◌, ◌∷◌, ◌++◌, [], List, ℕ, None, rules, subst, sym, ap, ◌∙◌}
use Rattle.std.specs.List.{AllByRecursion}
use Rattle.std.proofs.lemmas.List.{map_push}
use Rattle.dia_codec.specs.Spelling.{IsFrame}
use Rattle.dia_codec.specs.Stream.{frame_bytes, front_of}
use Rattle.dia_codec.proofs.Frames.{one_taken, end_bad}
use Rattle.dia_codec.proofs.Lengths.{AllByRecursion-push}
use Rattle.dia_codec.proofs.stream.take_frames.Goals as goal

pub loop-frame-preserved : goal.loop-frame-preserved
loop-frame-preserved c =
    let frame = c.in-Ok-Some.frame in
    let pushed : c.push.new.self.items ≡ c.loop-frame.frames.items ++ frame ∷ [] = search rules in
    let parts : c.loop-frame.assembler.bytes ≡ frame.items ++ c.next.new.self.bytes = search rules in
    let is_frame : IsFrame frame.items = search rules in
    let sound : c.next.new.self.fault ≡ None = search rules in
    record {
      whole = one_taken _ c.loop-frame.frames.items frame c.push.new.self.items c.loop-frame.assembler.bytes c.next.new.self.bytes c.loop-frame.invariant.whole pushed parts;
      each = subst (λ (frames : List (List ℕ)). AllByRecursion IsFrame frames) (sym (ap frame_bytes pushed ∙ map_push _ c.loop-frame.frames.items frame)) (AllByRecursion-push IsFrame _ frame.items c.loop-frame.invariant.each is_frame);
      sound = sound;
    }

pub returns-in-Err-clause-end : goal.returns-in-Err-clause-end
returns-in-Err-clause-end c =
    let bad : front_of c.next.new.self.bytes ≡ Err c.in-Err.fault = search rules in
    end_bad c.next.new.self.bytes c.in-Err.fault bad
