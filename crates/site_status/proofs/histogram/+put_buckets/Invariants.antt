use Rattle.std.proofs.Common.{length}
use Rattle.site_status.proofs.histogram.+put_buckets.Given as goal

abbrev pub decreases-put_buckets : goal.decreases-put_buckets
decreases-put_buckets l = length l.bounds.now
