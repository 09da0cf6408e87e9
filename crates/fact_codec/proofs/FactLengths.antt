-- Each fact has a byte at least, so facts are no more than their bytes.
use Rattle.std.proofs.Common.{◌≤◌, List, [], ◌∷◌, length, length-append, map, arith}
use Rattle.std.proofs.lemmas.List.{length-map}
use Rattle.std.specs.List.{flat_map}
use Rattle.pcrf_values.specs.Places.{Place, OfSession, OfComponent, OfFlow, OfRuleName, Component, Flow}
use Rattle.pcrf_values.specs.Facts.{Fact, End, Removed, Field, Aborted}
use Rattle.fact_codec.specs.Spelling.{word_bytes, value_bytes, place_bytes, fact_bytes, facts_bytes, tag_bytes, held_fact_bytes, held_facts_bytes}

-- a place has a byte
place_least : (p : Place) → 1 ≤ length (place_bytes p)
place_least (OfSession f) = omega arith
place_least (OfComponent c f) = omega arith
place_least (OfFlow c n f) = omega arith
place_least (OfRuleName t) = omega arith

-- a fact has a byte
fact_least : (f : Fact) → 1 ≤ length (fact_bytes f)
unfolding fact_bytes
fact_least End = omega arith
fact_least Aborted = omega arith
fact_least (Removed (Component c)) = omega arith
fact_least (Removed (Flow c n)) = omega arith
fact_least (Field p t x) = omega (arith, place_least p, length-append (place_bytes p) (value_bytes x))

-- facts have as many
each_least : (fs : List Fact) → length fs ≤ length (flat_map fact_bytes fs)
each_least [] = omega arith
each_least (f ∷ fs) = omega (arith, fact_least f, each_least fs, length-append (fact_bytes f) (flat_map fact_bytes fs))

-- and more with their number before them
pub facts_no_more : (fs : List Fact) → length fs ≤ length (facts_bytes fs)
unfolding facts_bytes
facts_no_more fs = omega (arith, each_least fs, length-append (word_bytes (length fs)) (flat_map fact_bytes fs))

-- so of what is seen as facts
pub facts_least : {A : Type 0} (of : A → Fact) (xs : List A) → length xs ≤ length (facts_bytes (map of xs))
facts_least of xs = omega (arith, facts_no_more (map of xs), length-map xs of)

-- ---- with their tags

-- a fact with its tag has a byte
held_fact_least : (f : Fact) → 1 ≤ length (held_fact_bytes f)
unfolding held_fact_bytes
held_fact_least End = fact_least End
held_fact_least Aborted = fact_least Aborted
held_fact_least (Removed r) = fact_least (Removed r)
held_fact_least (Field p t x) = omega (arith, fact_least (Field p t x), length-append (fact_bytes (Field p t x)) (tag_bytes t))

-- facts have as many
each_held_least : (fs : List Fact) → length fs ≤ length (flat_map held_fact_bytes fs)
each_held_least [] = omega arith
each_held_least (f ∷ fs) = omega (arith, held_fact_least f, each_held_least fs, length-append (held_fact_bytes f) (flat_map held_fact_bytes fs))

-- and more with their number before them
pub held_facts_no_more : (fs : List Fact) → length fs ≤ length (held_facts_bytes fs)
unfolding held_facts_bytes
held_facts_no_more fs = omega (arith, each_held_least fs, length-append (word_bytes (length fs)) (flat_map held_fact_bytes fs))

-- so of what is seen as facts
pub held_facts_least : {A : Type 0} (of : A → Fact) (xs : List A) → length xs ≤ length (held_facts_bytes (map of xs))
held_facts_least of xs = omega (arith, held_facts_no_more (map of xs), length-map xs of)
