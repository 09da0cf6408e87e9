use Rattle.std.proofs.Common.{◌≡◌, ◌++◌, take}
use Rattle.dia_codec.specs.Spelling.{avp_views, owned_views}
use Rattle.dia_base.specs.Besides.{proxies}
use Rattle.dia_base.proofs.standard.besides.put_proxies.Given as goal

-- those so far are there
abbrev pub invariant-loop-avp : goal.invariant-loop-avp
invariant-loop-avp l = owned_views l.out.items ≡ owned_views l.fn.out.items ++ proxies (avp_views (take l.avp-index l.avps))
