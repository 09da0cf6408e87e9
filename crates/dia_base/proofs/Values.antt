-- What stands at a key, AVP by AVP.
use Rattle.std.proofs.Common.{◌≡◌, ◌<◌, ◌≤◌, ℕ, ◌+◌, true, false, List, [], ◌∷◌, ◌++◌, length, get_or, take, drop, refl, sym, ap, ◌∙◌, arith, append_assoc, length-append, Option, Some, None, is_some}
use Rattle.std.specs.Prelude.{find, option_to_list}
use Rattle.std.proofs.lemmas.List.{take-append-drop, map-append, append-nil, length_push}
use Rattle.std.proofs.lemmas.List.Elements.{filter_map-append}
use Rattle.std.proofs.lemmas.List.Folds.{find-append}
use Rattle.dia_codec.specs.declared.message.Avp.{Avp}
use Rattle.dia_codec.specs.declared.message.AvpKey.{AvpKey}
use Rattle.dia_codec.specs.Fields.{AvpValue, key_of}
use Rattle.dia_codec.specs.Spelling.{avp_view, avp_views}
use Rattle.dia_codec.proofs.Lengths.{views_more}
use Rattle.dia_base.specs.Rows.{values_of, value_if, value_in, IsOnlyAt, has_key, first_at, same_key}

-- an AVP with the key adds its value
pub values_keyed : (key : AvpKey) (avps : List Avp) (i : ℕ) (a : Avp) → i < length avps → a ≡ get_or avps i a → same_key (key_of (avp_view a)) key ≡ true → values_of key (avp_views (take (i + 1) avps)) ≡ values_of key (avp_views (take i avps)) ++ a.value.now ∷ []
values_keyed key avps i a lt is keyed =
    let more = ap (values_of key) (views_more avps i a lt is) ∙ filter_map-append (value_if key) (avp_views (take i avps)) (avp_view a ∷ []) in
    rw keyed at more

-- an AVP with another key adds nothing
pub values_other : (key : AvpKey) (avps : List Avp) (i : ℕ) (a : Avp) → i < length avps → a ≡ get_or avps i a → same_key (key_of (avp_view a)) key ≡ false → values_of key (avp_views (take (i + 1) avps)) ≡ values_of key (avp_views (take i avps))
values_other key avps i a lt is other =
    let more = ap (values_of key) (views_more avps i a lt is) ∙ filter_map-append (value_if key) (avp_views (take i avps)) (avp_view a ∷ []) in
    (rw other at more) ∙ append-nil _

-- the values before an AVP with the key, its own, and those behind it
pub values_around : (key : AvpKey) (avps : List Avp) (i : ℕ) (a : Avp) → i < length avps → a ≡ get_or avps i a → same_key (key_of (avp_view a)) key ≡ true → values_of key (avp_views avps) ≡ values_of key (avp_views (take i avps)) ++ (a.value.now ∷ values_of key (avp_views (drop (i + 1) avps)))
values_around key avps i a lt is keyed =
    let parts : avp_views avps ≡ avp_views (take (i + 1) avps) ++ avp_views (drop (i + 1) avps) = ap avp_views (sym (take-append-drop (i + 1) avps)) ∙ map-append avp_view (take (i + 1) avps) (drop (i + 1) avps) in
    let values = ap (values_of key) parts ∙ filter_map-append (value_if key) (avp_views (take (i + 1) avps)) (avp_views (drop (i + 1) avps)) in
    let front = values_keyed key avps i a lt is keyed in
    values ∙ ap (λ (front : List (List ℕ)). front ++ values_of key (avp_views (drop (i + 1) avps))) front ∙ append_assoc (values_of key (avp_views (take i avps))) (a.value.now ∷ []) (values_of key (avp_views (drop (i + 1) avps)))

-- the values of the first AVPs are among those of all
pub values_front : (key : AvpKey) (avps : List Avp) (i : ℕ) → length (values_of key (avp_views (take i avps))) ≤ length (values_of key (avp_views avps))
values_front key avps i =
    let parts : avp_views avps ≡ avp_views (take i avps) ++ avp_views (drop i avps) = ap avp_views (sym (take-append-drop i avps)) ∙ map-append avp_view (take i avps) (drop i avps) in
    let values = ap (values_of key) parts ∙ filter_map-append (value_if key) (avp_views (take i avps)) (avp_views (drop i avps)) in
    let lengths = ap length values ∙ length-append (values_of key (avp_views (take i avps))) (values_of key (avp_views (drop i avps))) in
    omega (arith, lengths)

-- one value more than one is more than one
pub two_values : (key : AvpKey) (avps : List Avp) (i : ℕ) (a : Avp) → i < length avps → a ≡ get_or avps i a → same_key (key_of (avp_view a)) key ≡ true → (found : Option Avp) → is_some found ≡ true → IsOnlyAt key (avp_views (take i avps)) found → 1 < length (values_of key (avp_views avps))
two_values key avps i a lt is keyed None some so_far = absurd (cc)
two_values key avps i a lt is keyed (Some first) some so_far =
    let more = ap length (values_keyed key avps i a lt is keyed) ∙ length_push _ a.value.now in
    let front = values_front key avps (i + 1) in
    let one : length (values_of key (avp_views (take i avps))) ≡ 1 = ap length so_far in
    omega (arith, more, front, one)

-- the first value is the one that was found
pub first_found : (values : List (List ℕ)) (found : Option Avp) (a : Avp) → is_some found ≡ false → values ≡ option_to_list (value_in found) → values ++ a.value.now ∷ [] ≡ option_to_list (value_in (Some a))
first_found values None a none so_far = ap (λ (front : List (List ℕ)). front ++ a.value.now ∷ []) so_far
first_found values (Some other) a none so_far = absurd (cc)

-- an AVP with the key, behind others, is the first that has it
pub find_keyed : (key : AvpKey) (avps : List Avp) (i : ℕ) (a : Avp) → i < length avps → a ≡ get_or avps i a → has_key key (avp_view a) ≡ true → first_at key (avp_views (take i avps)) ≡ None → first_at key (avp_views avps) ≡ Some (avp_view a)
find_keyed key avps i a lt is keyed none =
    let behind : List AvpValue = avp_views (drop (i + 1) avps) in
    let parts : avp_views avps ≡ avp_views (take (i + 1) avps) ++ behind = ap avp_views (sym (take-append-drop (i + 1) avps)) ∙ map-append avp_view (take (i + 1) avps) (drop (i + 1) avps) in
    let front : first_at key (avp_views (take (i + 1) avps)) ≡ Some (avp_view a) = ap (find (has_key key)) (views_more avps i a lt is) ∙ find-append (has_key key) (avp_views (take i avps)) (avp_view a ∷ []) ∙ rw (none, keyed) refl in
    ap (find (has_key key)) parts ∙ find-append (has_key key) (avp_views (take (i + 1) avps)) behind ∙ rw front refl

-- an AVP with another key isn't found
pub find_other : (key : AvpKey) (avps : List Avp) (i : ℕ) (a : Avp) → i < length avps → a ≡ get_or avps i a → has_key key (avp_view a) ≡ false → first_at key (avp_views (take i avps)) ≡ None → first_at key (avp_views (take (i + 1) avps)) ≡ None
find_other key avps i a lt is other none =
    ap (find (has_key key)) (views_more avps i a lt is) ∙ find-append (has_key key) (avp_views (take i avps)) (avp_view a ∷ []) ∙ rw (none, other) refl
