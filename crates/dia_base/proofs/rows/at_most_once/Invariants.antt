use Rattle.std.proofs.Common.{take}
use Rattle.std.specs.Prelude.{option_copied}
use Rattle.dia_codec.specs.Spelling.{avp_views}
use Rattle.dia_base.specs.Rows.{IsOnlyAt}
use Rattle.dia_base.proofs.rows.at_most_once.Given as goal

-- what was found is what stands at the key so far
abbrev pub invariant-loop-avp : goal.invariant-loop-avp
invariant-loop-avp l = IsOnlyAt l.key (avp_views (take l.avp-index l.avps)) (option_copied l.found)
