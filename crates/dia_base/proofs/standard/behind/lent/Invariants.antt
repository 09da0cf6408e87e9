use Rattle.std.proofs.Common.{◌≡◌, take}
use Rattle.dia_codec.specs.Spelling.{avp_views, owned_views}
use Rattle.dia_base.proofs.standard.behind.lent.Given as goal

-- those so far are there
abbrev pub invariant-loop-avp : goal.invariant-loop-avp
invariant-loop-avp l = avp_views l.lent.items ≡ owned_views (take l.avp-index l.avps)
