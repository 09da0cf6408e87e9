use Rattle.std.proofs.Common.{rules, ap, append_assoc}
use Rattle.gx_profile.specs.declared.filters.direction.Direction.TheVariants.{Downlink}
use Rattle.gx_profile.specs.Downlinks.{exchanged, opposite}
use Rattle.gx_profile.specs.Views.{parts_view}
use Rattle.gx_profile.proofs.Exchanging.{spelled_by}
use Rattle.gx_profile.proofs.filters.downlink.exchanged.Goals as goal

pub returns : goal.returns
returns c = rw (spelled_by Downlink (exchanged (parts_view c.args.parts.now)) (ap opposite c.requires)) (search (rules, append_assoc))
