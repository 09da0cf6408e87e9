-- What is spelled so is read again, whatever follows it: facts with their tags.
use Rattle.std.proofs.Common.{◌≡◌, ℕ, ◌^◌, ◌<◌, ◌==◌, Bool, true, ◌&&◌, nat_le, List, [], ◌∷◌, ◌++◌, length, Some, refl, ap, ◌∙◌, append_assoc, arith, ltb-true}
use Rattle.std.specs.Cmp.{first_so, second_so}
use Rattle.std.specs.Ordering.{is_eq}
use Rattle.std.specs.List.{flat_map, list_all}
use Rattle.pcrf_values.specs.Tags.{tag_cmp}
use Rattle.pcrf_values.specs.declared.tag.Tag.{Tag}
use Rattle.pcrf_values.proofs.Plain.{both}
use Rattle.pcrf_values.specs.Places.{Place, OfSession, OfComponent, OfFlow, OfRuleName}
use Rattle.pcrf_values.specs.Values.{Value}
use Rattle.pcrf_values.specs.Facts.{Fact, End, Removed, Field, Aborted}
use Rattle.pcrf_values.specs.Limits.{last_counter}
use Rattle.pcrf_model.specs.Sessions.{Kind, Gx, Af}
use Rattle.pcrf_model.specs.Forms.{fits, is_counted, is_stamp, is_unsigned, is_tagged, number_at}
use Rattle.pcrf_model.proofs.FormLaws.{within_most}
use Rattle.fact_codec.specs.Spelling.{word_bytes, long_bytes, fact_bytes, tag_bytes, held_fact_bytes, held_facts_bytes}
use Rattle.fact_codec.specs.Reading.{byte}
use Rattle.fact_codec.specs.Said.{has_fact, tag_of_stamp, gx_fact, af_fact, facts, tag, untagged, held_gx_fact, held_af_fact}
use Rattle.fact_codec.proofs.NumberLaws.{word_again, long_again}
use Rattle.fact_codec.proofs.ValuesAgain.{many_again}
use Rattle.fact_codec.proofs.FactsAgain.{all_both, gx_fact_again, af_fact_again}

-- a tag
tag_again : (t : Tag) (rest : List ℕ) → t.number < 2 ^ 32 → t.counter < 2 ^ 64 → tag (tag_bytes t ++ rest) ≡ Some (t, rest)
unfolding tag tag_bytes byte
tag_again t rest low less =
    let parts : ((word_bytes t.number ++ long_bytes t.counter) ++ t.site ∷ []) ++ rest ≡ word_bytes t.number ++ (long_bytes t.counter ++ (t.site ∷ rest)) =
    append_assoc (word_bytes t.number ++ long_bytes t.counter) (t.site ∷ []) rest ∙ append_assoc (word_bytes t.number) (long_bytes t.counter) (t.site ∷ rest) in
    rw (parts, word_again t.number (long_bytes t.counter ++ (t.site ∷ rest)) low, long_again t.counter (t.site ∷ rest) less) refl

-- what a tag that is counted is below
counted_low : (k : Kind) (clock : ℕ) (p : Place) (t : Tag) (x : Value) → is_counted k clock (Field p t x) ≡ true → (t.number < 2 ^ 32) × (t.counter < 2 ^ 64)
counted_low k clock p t x h =
    let three = first_so (is_stamp t.counter t.site && nat_le t.counter clock && is_unsigned t.number) (t.number == number_at k p t.number) h in
    let two = first_so (is_stamp t.counter t.site && nat_le t.counter clock) (is_unsigned t.number) three in
    let stamp = first_so (is_stamp t.counter t.site) (nat_le t.counter clock) two in
    let last = within_most 1 last_counter t.counter (first_so _ _ stamp) in
    (ltb-true t.number (2 ^ 32) (second_so (is_stamp t.counter t.site && nat_le t.counter clock) (is_unsigned t.number) three), omega (arith, last))

-- a fact has the same bytes under any tag
same_bytes : (p : Place) (t u : Tag) (x : Value) → fact_bytes (Field p t x) ≡ fact_bytes (Field p u x)
unfolding fact_bytes
same_bytes p t u x = refl

-- the tag of a fact whose own follows it
zero_tagged : (k : Kind) (p : Place) (x : Value) → is_tagged k 0 0 0 (Field p untagged x) ≡ true
zero_tagged Gx (OfSession f) x = refl
zero_tagged Gx (OfComponent c f) x = refl
zero_tagged Gx (OfFlow c n f) x = refl
zero_tagged Gx (OfRuleName n) x = refl
zero_tagged Af p x = refl

-- letters that have a fact have it under any tag
pub same_had : (v : ℕ) (p : Place) (t u : Tag) (x : Value) → has_fact v (Field p t x) ≡ has_fact v (Field p u x)
same_had v (OfSession f) t u x = refl
same_had v (OfComponent c f) t u x = refl
same_had v (OfFlow c n f) t u x = refl
same_had v (OfRuleName n) t u x = refl

-- a fact that a state with that clock may hold
abbrev pub may_hold : Kind → ℕ → Fact → Bool
may_hold k clock f = fits k f && is_counted k clock f

-- of a gateway's session
pub held_gx_fact_again : (v clock : ℕ) (f : Fact) (rest : List ℕ) → has_fact v f ≡ true → may_hold Gx clock f ≡ true → held_gx_fact v (held_fact_bytes f ++ rest) ≡ Some (f, rest)
unfolding held_gx_fact held_fact_bytes
held_gx_fact_again v clock End rest o h = rw (gx_fact_again v 0 0 0 End rest refl refl) refl
held_gx_fact_again v clock (Removed r) rest o h = absurd cc
held_gx_fact_again v clock Aborted rest o h = absurd cc
held_gx_fact_again v clock (Field p t x) rest o h =
    let own = tag_bytes t ++ rest in
    let low = counted_low Gx clock p t x (second_so (fits Gx (Field p t x)) (is_counted Gx clock (Field p t x)) h) in
    let made = both (fits Gx (Field p untagged x)) (is_tagged Gx 0 0 0 (Field p untagged x)) (first_so (fits Gx (Field p t x)) (is_counted Gx clock (Field p t x)) h) (zero_tagged Gx p x) in
    let first : gx_fact v untagged untagged (fact_bytes (Field p t x) ++ own) ≡ Some (Field p untagged x, own) =
    ap (λ (b : List ℕ). gx_fact v untagged untagged (b ++ own)) (same_bytes p t untagged x) ∙ gx_fact_again v 0 0 0 (Field p untagged x) own (same_had v p untagged t x ∙ o) made in
    rw (append_assoc (fact_bytes (Field p t x)) (tag_bytes t) rest, first, tag_again t rest low.0 low.1) refl

-- of an application function's session
pub held_af_fact_again : (v clock : ℕ) (f : Fact) (rest : List ℕ) → has_fact v f ≡ true → may_hold Af clock f ≡ true → held_af_fact v (held_fact_bytes f ++ rest) ≡ Some (f, rest)
unfolding held_af_fact held_fact_bytes
held_af_fact_again v clock End rest o h = rw (af_fact_again v 0 0 0 End rest refl refl) refl
held_af_fact_again v clock (Removed r) rest o h = rw (af_fact_again v 0 0 0 (Removed r) rest refl h) refl
held_af_fact_again v clock Aborted rest o h = rw (af_fact_again v 0 0 0 Aborted rest o refl) refl
held_af_fact_again v clock (Field p t x) rest o h =
    let own = tag_bytes t ++ rest in
    let low = counted_low Af clock p t x (second_so (fits Af (Field p t x)) (is_counted Af clock (Field p t x)) h) in
    let made = both (fits Af (Field p untagged x)) (is_tagged Af 0 0 0 (Field p untagged x)) (first_so (fits Af (Field p t x)) (is_counted Af clock (Field p t x)) h) (zero_tagged Af p x) in
    let first : af_fact v untagged (fact_bytes (Field p t x) ++ own) ≡ Some (Field p untagged x, own) =
    ap (λ (b : List ℕ). af_fact v untagged (b ++ own)) (same_bytes p t untagged x) ∙ af_fact_again v 0 0 0 (Field p untagged x) own (same_had v p untagged t x ∙ o) made in
    rw (append_assoc (fact_bytes (Field p t x)) (tag_bytes t) rest, first, tag_again t rest low.0 low.1) refl

-- those of a gateway's session
pub held_gx_facts_again : (v clock : ℕ) (fs : List Fact) (rest : List ℕ) → length fs < 2 ^ 32 → list_all (may_hold Gx clock) fs ≡ true → list_all (has_fact v) fs ≡ true → facts (held_gx_fact v) (held_facts_bytes fs ++ rest) ≡ Some (fs, rest)
unfolding facts held_facts_bytes
held_gx_facts_again v clock fs rest low all had =
    let each = many_again (held_gx_fact v) held_fact_bytes (λ f. has_fact v f && may_hold Gx clock f) (λ f more h. held_gx_fact_again v clock f more (first_so (has_fact v f) _ h) (second_so (has_fact v f) _ h)) fs rest (all_both (has_fact v) (may_hold Gx clock) fs had all) in
    rw (append_assoc (word_bytes (length fs)) (flat_map held_fact_bytes fs) rest, word_again (length fs) (flat_map held_fact_bytes fs ++ rest) low, each) refl

-- and of an application function's
pub held_af_facts_again : (v clock : ℕ) (fs : List Fact) (rest : List ℕ) → length fs < 2 ^ 32 → list_all (may_hold Af clock) fs ≡ true → list_all (has_fact v) fs ≡ true → facts (held_af_fact v) (held_facts_bytes fs ++ rest) ≡ Some (fs, rest)
unfolding facts held_facts_bytes
held_af_facts_again v clock fs rest low all had =
    let each = many_again (held_af_fact v) held_fact_bytes (λ f. has_fact v f && may_hold Af clock f) (λ f more h. held_af_fact_again v clock f more (first_so (has_fact v f) _ h) (second_so (has_fact v f) _ h)) fs rest (all_both (has_fact v) (may_hold Af clock) fs had all) in
    rw (append_assoc (word_bytes (length fs)) (flat_map held_fact_bytes fs) rest, word_again (length fs) (flat_map held_fact_bytes fs ++ rest) low, each) refl
