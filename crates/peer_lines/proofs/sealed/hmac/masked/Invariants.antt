use Rattle.std.proofs.Common.{◌≡◌, ◌++◌, take, drop}
use Rattle.peer_lines.specs.Hmac.{masked}
use Rattle.peer_lines.proofs.sealed.hmac.masked.Given as goal

-- what is done, and what is left
abbrev pub invariant-loop-byte : goal.invariant-loop-byte
invariant-loop-byte l = masked l.mask l.fn.block ≡ take l.byte-index l.byte-items ++ masked l.mask (drop l.byte-index l.byte-items)
