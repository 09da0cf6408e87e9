use Rattle.std.proofs.Common.{rules, append_assoc}
use Rattle.gx_profile.proofs.Splitting.{options_written}
use Rattle.gx_profile.proofs.filters.downlink.put_options.Goals as goal

pub returns : goal.returns
returns c = rw (c.in-Some.is, options_written c.in-Some.options.now) (search (rules, append_assoc))
