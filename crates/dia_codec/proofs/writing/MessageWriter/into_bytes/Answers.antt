use Rattle.std.proofs.Common.{◌≡◌, ◌+◌, ◌≤◌, ◌++◌, ◌∙◌, refl, ℕ, List, drop, length, length-drop, ap, arith}
use Rattle.dia_codec.specs.Written.{written_header}
use Rattle.dia_codec.proofs.Drafts.{body_length, spelled}
use Rattle.dia_codec.proofs.writing.MessageWriter.into_bytes.Goals as goal

-- the bytes are as many as the room and what stands behind it
all_length : (n : ℕ) (xs body : List ℕ) → n ≤ length xs → drop n xs ≡ body → length xs ≡ n + length body
all_length n xs body room is = omega (arith, length-drop n xs, ap length is)

pub returns-in-None-clause-too_long : goal.returns-in-None-clause-too_long
returns-in-None-clause-too_long c = λ avps added.
    let view : drop 20 c.self.inside.bytes.items ≡ c.args.self = c.self.view_is in
    omega (arith, body_length avps c.args.self added, all_length 20 c.self.inside.bytes.items c.args.self c.self.invariant view, c.in-None.ensures.too_long)

pub returns-in-Some-clause-written : goal.returns-in-Some-clause-written
returns-in-Some-clause-written c = λ avps added.
    let view : drop 20 c.self.inside.bytes.items ≡ c.args.self = c.self.view_is in
    let all = all_length 20 c.self.inside.bytes.items c.args.self c.self.invariant view in
    spelled c.args.header.now avps c.args.self c.in-Some.done.items added (c.in-Some.ensures.written ∙ rw (all, view) refl)

pub returns-in-Some-clause-fits : goal.returns-in-Some-clause-fits
returns-in-Some-clause-fits c = λ avps added.
    let view : drop 20 c.self.inside.bytes.items ≡ c.args.self = c.self.view_is in
    omega (arith, body_length avps c.args.self added, all_length 20 c.self.inside.bytes.items c.args.self c.self.invariant view, c.in-Some.ensures.fits)
