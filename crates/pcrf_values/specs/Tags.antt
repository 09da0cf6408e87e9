-- The order of tags.
use Rattle.std.specs.declared.cmp.Ordering.{Ordering}
use Rattle.std.specs.Ordering.{nat_cmp, ordering_then}
use Rattle.pcrf_values.specs.declared.tag.Tag.{Tag}

-- by number, then counter, then site
abbrev pub tag_cmp : Tag → Tag → Ordering
tag_cmp a b = ordering_then (nat_cmp a.number b.number) (ordering_then (nat_cmp a.counter b.counter) (nat_cmp a.site b.site))
