use Rattle.pcrf_model.proofs.ReadingLaws.{reads-kept, reads-Same, site_overview-kept_of}
use Rattle.pcrf_model.proofs.laws.kept_facts_read_the_same.Goals as goal

pub returns : goal.returns
returns c = record { kept = reads-kept; members = reads-Same; value = site_overview-kept_of }
