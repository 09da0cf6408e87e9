use Rattle.std.proofs.Common.{◌≡◌, ◌<◌, ◌+◌, ◌++◌, [], List, ℕ, Bor, length, get_or, take, drop, rules, refl, sym, subst, ◌∙◌}
use Rattle.dia_codec.specs.Stream.{CutsInto, end_of, frame_bytes, bytes_of_pieces}
use Rattle.dia_codec.specs.declared.stream.StreamEnd.TheVariants.{Bad}
use Rattle.dia_codec.proofs.Frames.{no_stream, piece_taken, joined-take-drop, bad_cuts, not_bad}
use Rattle.dia_codec.proofs.stream.frames_of.Goals as goal

pub loop-piece-init : goal.loop-piece-init
loop-piece-init c =
    let none : c.new-frames.result.items ≡ [] = search rules in
    let start : c.start-assembler.result.bytes ≡ [] = search rules in
    record { splits = rw (none, start) no_stream; end = rw start refl; sound = search rules }

abbrev nothing : Bor (List ℕ)
nothing = record { ref_ptr = (0, 0); now = [] }

pub returns-in-Bad : goal.returns-in-Bad
returns-in-Bad c =
    let i = c.loop-piece.piece-index in
    let pieces = c.args.pieces.now in
    let lt : i < length pieces = search rules in
    let fed : c.feed.new.self.bytes ≡ c.loop-piece.assembler.bytes ++ (get_or pieces i nothing).now = search rules in
    let taken = piece_taken pieces i nothing _ _ _ c.feed.new.self.bytes _ lt c.loop-piece.invariant.splits fed c.in_ok-end.ensures.splits in
    let bad : Bad c.in-Bad.field-0 ≡ end_of c.take_frames.new.assembler.bytes = sym c.in-Bad.is ∙ c.in_ok-end.ensures.end in
    let cut = bad_cuts (bytes_of_pieces (take (i + 1) pieces)) (bytes_of_pieces (drop (i + 1) pieces)) _ _ c.in-Bad.field-0 taken bad in
    subst (CutsInto (bytes_of_pieces pieces) (frame_bytes c.take_frames.new.frames.items)) (sym c.in-Bad.is) (subst (λ (stream : List ℕ). CutsInto stream (frame_bytes c.take_frames.new.frames.items) (Bad c.in-Bad.field-0)) (joined-take-drop (i + 1) pieces) cut)

pub loop-piece-preserved : goal.loop-piece-preserved
loop-piece-preserved c =
    let i = c.loop-piece.piece-index in
    let pieces = c.args.pieces.now in
    let lt : i < length pieces = search rules in
    let fed : c.feed.new.self.bytes ≡ c.loop-piece.assembler.bytes ++ (get_or pieces i nothing).now = search rules in
    record {
      splits = piece_taken pieces i nothing _ _ _ c.feed.new.self.bytes _ lt c.loop-piece.invariant.splits fed c.in_ok-end.ensures.splits;
      end = c.in_ok-end.ensures.end;
      sound = not_bad c.in_ok-end.end _ c.in_ok-end.ensures.fault c.in_default.not-Bad;
    }
