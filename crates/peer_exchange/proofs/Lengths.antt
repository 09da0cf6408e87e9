-- Each operation has a byte at least, and no more than all that are written.
use Rattle.std.proofs.Common.{◌≡◌, ℕ, suc, zero, ◌≤◌, ◌<◌, List, [], ◌∷◌, ◌++◌, length, map, get_or, length-append, ap, arith}
use Rattle.std.proofs.lemmas.List.{length-map}
use Rattle.std.specs.List.{flat_map}
use Rattle.pcrf_model.specs.Operations.{Operation}
use Rattle.fact_codec.specs.Spelling.{word_bytes, long_bytes, held_facts_bytes}
use Rattle.site_join.specs.Groups.{Group, group_of}
use Rattle.site_join.specs.declared.operation.SessionFacts.{SessionFacts}
use Rattle.peer_exchange.specs.Spelling.{session_bytes, group_bytes, operation_bytes, operations_bytes, held_group_bytes, groups_bytes}

-- an operation has a byte
operation_least : (o : Operation) → 1 ≤ length (operation_bytes o)
unfolding operation_bytes
operation_least o =
    let stamp = long_bytes o.counter ++ o.site ∷ [] in
    omega (arith, length-append (long_bytes o.counter) (o.site ∷ []), length-append stamp (word_bytes o.number), length-append (stamp ++ word_bytes o.number) (group_bytes o.session o.facts))

-- operations have as many
each_least : (os : List Operation) → length os ≤ length (flat_map operation_bytes os)
each_least [] = omega arith
each_least (o ∷ os) = omega (arith, operation_least o, each_least os, length-append (operation_bytes o) (flat_map operation_bytes os))

-- and more with their number before them
pub operations_least : (os : List Operation) → length os ≤ length (operations_bytes os)
operations_least os = omega (arith, each_least os, length-append (word_bytes (length os)) (flat_map operation_bytes os))

-- one of them has no more bytes than all
one_of : (os : List Operation) (i : ℕ) (d : Operation) → i < length os → length (operation_bytes (get_or os i d)) ≤ length (flat_map operation_bytes os)
one_of [] i d lt = absurd (omega arith)
one_of (o ∷ os) zero d lt = omega (arith, length-append (operation_bytes o) (flat_map operation_bytes os))
one_of (o ∷ os) (suc i) d lt = omega (arith, one_of os i d (omega arith), length-append (operation_bytes o) (flat_map operation_bytes os))

-- nor than all with their number
pub one_among : (os : List Operation) (i : ℕ) (o : Operation) → i < length os → o ≡ get_or os i o → length (operation_bytes o) ≤ length (operations_bytes os)
one_among os i o lt is =
    let le = one_of os i o lt in
    let all = length-append (word_bytes (length os)) (flat_map operation_bytes os) in
    let same : length (operation_bytes o) ≡ length (operation_bytes (get_or os i o)) = ap (λ (p : Operation). length (operation_bytes p)) is in
    omega (arith, le, all, same)

-- ---- what a state holds of sessions

-- a group has a byte
group_least : (g : Group) → 1 ≤ length (held_group_bytes g)
unfolding held_group_bytes
group_least g = omega (arith, length-append (session_bytes g.0) (held_facts_bytes g.1))

-- groups have as many
each_group_least : (gs : List Group) → length gs ≤ length (flat_map held_group_bytes gs)
each_group_least [] = omega arith
each_group_least (g ∷ gs) = omega (arith, group_least g, each_group_least gs, length-append (held_group_bytes g) (flat_map held_group_bytes gs))

-- and more with their number before them
pub groups_least : (gs : List Group) → length gs ≤ length (groups_bytes gs)
groups_least gs = omega (arith, each_group_least gs, length-append (word_bytes (length gs)) (flat_map held_group_bytes gs))

-- so of what is seen as groups
pub seen_least : (xs : List SessionFacts) → length xs ≤ length (groups_bytes (map group_of xs))
seen_least xs = omega (arith, groups_least (map group_of xs), length-map xs group_of)

-- one of them has no more bytes than all
one_group_of : (xs : List SessionFacts) (i : ℕ) (d : SessionFacts) → i < length xs → length (held_group_bytes (group_of (get_or xs i d))) ≤ length (flat_map held_group_bytes (map group_of xs))
one_group_of [] i d lt = absurd (omega arith)
one_group_of (x ∷ xs) zero d lt = omega (arith, length-append (held_group_bytes (group_of x)) (flat_map held_group_bytes (map group_of xs)))
one_group_of (x ∷ xs) (suc i) d lt = omega (arith, one_group_of xs i d (omega arith), length-append (held_group_bytes (group_of x)) (flat_map held_group_bytes (map group_of xs)))

-- nor than all with their number
pub one_group_among : (xs : List SessionFacts) (i : ℕ) (x : SessionFacts) → i < length xs → x ≡ get_or xs i x → length (held_group_bytes (group_of x)) ≤ length (groups_bytes (map group_of xs))
one_group_among xs i x lt is =
    let le = one_group_of xs i x lt in
    let all = length-append (word_bytes (length (map group_of xs))) (flat_map held_group_bytes (map group_of xs)) in
    let same : length (held_group_bytes (group_of x)) ≡ length (held_group_bytes (group_of (get_or xs i x))) = ap (λ (y : SessionFacts). length (held_group_bytes (group_of y))) is in
    omega (arith, le, all, same)
