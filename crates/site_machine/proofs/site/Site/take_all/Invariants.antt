use Rattle.std.proofs.Common.{◌≡◌, take}
use Rattle.site_machine.specs.Sites.{with_taken}
use Rattle.site_machine.proofs.site.Site.take_all.Given as goal

-- the operations so far stand taken
abbrev pub invariant-loop-count : goal.invariant-loop-count
invariant-loop-count l = l.self ≡ with_taken l.fn.self (take l.count l.operations)
