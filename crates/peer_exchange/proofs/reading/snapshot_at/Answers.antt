use Rattle.std.proofs.Common.{◌≡◌, ℕ, true, List, ◌∷◌, ◌++◌, length, map, sym, ap, ◌∙◌, subst, append_assoc}
use Rattle.std.specs.List.{flat_map}
use Rattle.pcrf_model.specs.Holdings.{Holding}
use Rattle.fact_codec.specs.Spelling.{word_bytes, long_bytes}
use Rattle.site_join.specs.Groups.{Group, group_of, are_groups, groups_of_facts}
use Rattle.site_join.specs.declared.operation.SessionFacts.{SessionFacts}
use Rattle.site_join.proofs.FormedGroups.{formed_again}
use Rattle.peer_exchange.specs.Spelling.{held_group_bytes, groups_bytes, held_bytes}
use Rattle.peer_exchange.proofs.reading.snapshot_at.Goals as goal

pub returns-clause-spelled : goal.returns-clause-spelled
returns-clause-spelled c =
    let clock = c.in_ok-clock.clock in
    let n = c.in_ok-log_length.log_length in
    let gs : List Group = map group_of c.in_ok-groups.groups.items in
    let each = flat_map held_group_bytes gs in
    let rest = c.in_ok-groups.rest.now in
    let form : are_groups clock gs ≡ true =
    subst (λ (l : List SessionFacts). are_groups clock (map group_of l) ≡ true) c.as_slice.ensures.value (sym c.are_groups.ensures ∙ c.if-not-are_groups.false) in
    let counted : length gs ≡ c.in_ok-count.count = c.in_ok-groups.ensures.counted in
    let inner : c.in_ok-log_length.rest.now ≡ groups_bytes gs ++ rest =
    c.in_ok-count.ensures.spelled
    ∙ (λ i. word_bytes (sym counted i) ++ c.in_ok-groups.ensures.spelled i)
    ∙ sym (append_assoc (word_bytes (length gs)) each rest) in
    let all : c.args.bytes.now ≡ ((long_bytes clock ++ long_bytes n) ++ groups_bytes gs) ++ rest =
    c.in_ok-clock.ensures.spelled
    ∙ ap (λ (x : List ℕ). long_bytes clock ++ x) (c.in_ok-log_length.ensures.spelled ∙ ap (λ (x : List ℕ). long_bytes n ++ x) inner)
    ∙ sym (append_assoc (long_bytes clock) (long_bytes n) (groups_bytes gs ++ rest))
    ∙ sym (append_assoc (long_bytes clock ++ long_bytes n) (groups_bytes gs) rest) in
    let spelled : 2 ∷ c.args.bytes.now ≡ held_bytes clock n gs ++ rest = ap (λ (x : List ℕ). 2 ∷ x) all in
    subst (λ (h : Holding). 2 ∷ c.args.bytes.now ≡ held_bytes h.clock n (groups_of_facts h.facts) ++ rest) (sym c.in_ok-state.ensures)
    (subst (λ (ks : List Group). 2 ∷ c.args.bytes.now ≡ held_bytes clock n ks ++ rest) (sym (formed_again clock gs form)) spelled)
