use Rattle.std.proofs.Common.{◌≡◌, ◌∙◌, ◌++◌, List, ℕ, length, take, drop}
use Rattle.dia_codec.specs.Limits.{length_field_end}
use Rattle.dia_codec.specs.Written.{three_bytes}
use Rattle.dia_base.proofs.StandardSpelling.{lengthened}
use Rattle.dia_base.proofs.standard.behind.with_more.Goals as goal

pub returns : goal.returns
returns c =
    c.set_length.ensures
    ∙ rw c.in_ok-extend_from_slice.ensures.items (lengthened c.args.bytes.items c.args.more.now c.requires)
