use Rattle.std.proofs.Common.{ℕ, ltb, rules}
use Rattle.std.proofs.lemmas.List.Sorted.{IsPartitionPoint-from_clause, IsPartitionedBy-ltb}
use Rattle.site_status.specs.declared.times.TheConstants.{BOUNDS}
use Rattle.site_status.proofs.Buckets.{counted, bounds_rise}
use Rattle.site_status.proofs.times.bucket_of.Goals as goal

pub returns : goal.returns
returns c =
    let below = λ (bound : ℕ). ltb bound c.args.nanos in
    let parted = IsPartitionedBy-ltb (λ (bound : ℕ). bound) BOUNDS c.args.nanos bounds_rise in
    let point = IsPartitionPoint-from_clause below BOUNDS c.partition_point.result c.partition_point.ensures.partitioned parted (λ a r q k. search rules) in
    counted below BOUNDS c.partition_point.result c.partition_point.ensures.bound point
