-- Histograms as text (Prometheus, text format, version 0.0.4, "Histograms and summaries").
use Rattle.std.specs.Prelude.{ℕ, ◌+◌, List, [], ◌∷◌, ◌++◌, min, fold, codes, decimal}
use Rattle.site_status.specs.declared.exposition.Family.{Family}
use Rattle.site_status.specs.declared.exposition.Number.TheVariants.{Nanos, Whole}
use Rattle.site_status.specs.declared.times.TheConstants.{BOUNDS}
use Rattle.site_status.specs.declared.times.TimesSnapshot.{TimesSnapshot}
use Rattle.site_status.specs.Exposition.{heading_text, number_text, sample_text}

-- a sum that isn't told beyond 2^64 - 1
abbrev pub added : ℕ → ℕ → ℕ
added before count = min (before + count) 18446744073709551615

-- how many there are in all
abbrev pub all_of : List ℕ → ℕ
all_of counts = fold added 0 counts

-- what stands before a bucket's bound
abbrev pub bound_text : List ℕ → List ℕ
bound_text name = name ++ codes "_bucket{le=\""

-- what stands behind it: how many are at most that
abbrev pub count_text : ℕ → List ℕ
count_text count = codes "\"} " ++ decimal count ++ codes "\n"

-- the buckets with bounds: each counts what is at most its bound, beside so many before
abbrev pub buckets_text : List ℕ → List ℕ → List ℕ → ℕ → List ℕ
buckets_text name [] counts before = []
buckets_text name (bound ∷ bounds) [] before = []
buckets_text name (bound ∷ bounds) (count ∷ counts) before =
    bound_text name ++ number_text (Nanos bound) ++ count_text (added before count)
    ++ buckets_text name bounds counts (added before count)

-- the bucket without a bound
abbrev pub last_text : List ℕ → ℕ → List ℕ
last_text name all = bound_text name ++ codes "+Inf" ++ count_text all

-- a histogram of times: its buckets, the sum of all times in seconds, and how many there are
abbrev pub histogram_text : Family → TimesSnapshot → List ℕ
histogram_text family told =
    heading_text family
    ++ buckets_text family.name.now BOUNDS told.counts.items 0
    ++ last_text family.name.now (all_of told.counts.items)
    ++ sample_text family.name.now (codes "_sum") [] (Nanos told.nanos)
    ++ sample_text family.name.now (codes "_count") [] (Whole (all_of told.counts.items))
