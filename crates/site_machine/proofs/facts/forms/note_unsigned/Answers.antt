use Rattle.std.proofs.Common.{arith}
use Rattle.std.proofs.lemmas.Bool.Decides.{nat_tests}
use Rattle.site_machine.proofs.facts.forms.note_unsigned.Goals as goal

pub returns : goal.returns
returns c = let low = c.ranges.number.fits in grind (arith, nat_tests, low)
