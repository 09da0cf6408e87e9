-- How long the AVPs of rules and differences are.
use Rattle.std.proofs.Common.{◌<◌, ◌∙◌, ap, append_assoc, get_or, ◌≡◌, ◌≤◌, ◌+◌, ◌*◌, ◌++◌, ◌∷◌, [], ℕ, Bool, true, false, List, Option, None, Some, length, map, take, sym, arith, refl}
use Rattle.std.specs.List.{sum_by, flat_map}
use Rattle.std.proofs.lemmas.List.{length-append, length-take, map_more, take_all}
use Rattle.std.proofs.lemmas.List.Concat.{flat_map-cons}
use Rattle.std.proofs.lemmas.List.Sums.{sum_by-cons, sum_by-append, sum_by_push}
use Rattle.pcrf_values.specs.RuleValues.{RuleValue, DeltaValue}
use Rattle.pcrf_values.specs.Limits.{delta_limit}
use Rattle.dia_codec.specs.Drafts.{Adds}
use Rattle.dia_codec.proofs.Drafts.{adds}
use Rattle.dia_codec.specs.Fields.{AvpValue, padding}
use Rattle.dia_codec.specs.Written.{word_bytes, written_avp, written_own, own_len, padded_len}
use Rattle.dia_codec.specs.Written as written
use Rattle.dia_base.specs.Avps.{tgpp_key}
use Rattle.dia_base.specs.Answers.{tgpp_avp}
use Rattle.dia_base.specs.declared.form.MessageForm.{MessageForm}
use Rattle.dia_base.specs.declared.form.MessageForm.TheVariants.{Own, Standard}
use Rattle.gx_profile.proofs.Exchanging.{grows_by_one}
use Rattle.gx_profile.specs.Avps.{flow_status, qos_information, precedence}
use Rattle.gx_profile.specs.Lengths.{filter_room, name_room, rule_room, definition_room, delta_room}
use Rattle.gx_profile.specs.Qualities.{needed, tgpp_number, tgpp_group}
use Rattle.gx_profile.specs.Rules.{has_guaranteed_rate, rule_quality_avps, name_avp, description_avps, filter_avp, rule_avps, rule_avp, remove_avps, install_avps, delta_avps}

-- ---- AVPs of 3GPP

-- an AVP of at most 4 * n bytes takes 12 more
pub tgpp_within : (code : ℕ) (m : Bool) (bytes : List ℕ) (n : ℕ) → length bytes ≤ 4 * n → padded_len (tgpp_avp (tgpp_key code) m bytes) ≤ 12 + 4 * n
tgpp_within code m bytes n within = omega arith

-- the length of an AVP without its padding
own_length : (code : ℕ) (vendor : Option ℕ) (m p : Bool) (value : List ℕ) → length (written_own (record { code = code; vendor = vendor; mandatory = m; protected = p; value = value })) ≡ own_len (record { code = code; vendor = vendor; mandatory = m; protected = p; value = value })
unfolding word_bytes written.three_bytes
own_length code None m p value = omega arith
own_length code (Some vendor) m p value = omega arith

-- what padding is taken from
abbrev zeros : List ℕ
zeros = 0 ∷ 0 ∷ 0 ∷ 0 ∷ []

-- there are zeros enough for padding
pad_length : (n : ℕ) → length (take (padding n) zeros) ≡ padding n
pad_length n = rw length-take (omega arith)

-- the length of an AVP with its padding
avp_length : (a : AvpValue) → length (written_avp a) ≡ padded_len a
unfolding written_avp
avp_length a = omega (arith, length-append (written_own a) (take (padding (own_len a)) zeros), own_length a.code a.vendor a.mandatory a.protected a.value, pad_length (own_len a))

-- the length of the value of a group
pub group_length : (avps : List AvpValue) → length (flat_map written_avp avps) ≡ sum_by padded_len avps
group_length [] = refl
group_length (a ∷ avps) = rw (flat_map-cons, sum_by-cons, length-append, avp_length a, group_length avps) refl

-- ---- a filter

-- what the Flow-Information of a filter holds
pub description_within : (form : MessageForm) (filter : List ℕ) → length filter ≤ 255 → 12 + sum_by padded_len (description_avps form filter) ≤ filter_room
unfolding word_bytes
description_within Own filter within = omega arith
description_within Standard filter within = let longer = grows_by_one filter in omega arith

-- a filter takes at most so many bytes
pub filter_within : (form : MessageForm) (filter : List ℕ) → 12 + sum_by padded_len (description_avps form filter) ≤ filter_room → padded_len (filter_avp form filter) ≤ filter_room
filter_within form filter within = tgpp_within 1058 false (flat_map written_avp (description_avps form filter)) 71 (rw group_length (omega arith))

-- ---- AVPs of a list, one after another

-- one more, in the writer
pub one_more : {X : Type 0} (f : X → AvpValue) (xs : List X) (i : ℕ) (x : X) {start before after : List ℕ} → i < length xs → x ≡ get_or xs i x
    → Adds start before (map f (take i xs)) → Adds before after (f x ∷ []) → Adds start after (map f (take (i + 1) xs))
one_more f xs i x {start} {before} {after} lt is so_far more =
    let next : map f (take (i + 1) xs) ≡ map f (take i xs) ++ f x ∷ [] = map_more f xs i x lt ∙ ap (λ y. map f (take i xs) ++ f y ∷ []) (sym is) in
    rw next (adds so_far more)

-- all of them, in the writer
pub all_added : {X : Type 0} (f : X → AvpValue) (xs : List X) (i : ℕ) {start new : List ℕ} → length xs ≤ i → Adds start new (map f (take i xs)) → Adds start new (map f xs)
all_added f xs i end so_far = let whole : take i xs ≡ xs = take_all i xs end in rw whole at so_far

-- one more, in the number of bytes
pub one_more_within : {X : Type 0} (f : X → AvpValue) (xs : List X) (i : ℕ) (x : X) (room : ℕ) → i < length xs → x ≡ get_or xs i x
    → sum_by padded_len (map f (take i xs)) ≤ room * i → padded_len (f x) ≤ room → sum_by padded_len (map f (take (i + 1) xs)) ≤ room * (i + 1)
one_more_within f xs i x room lt is so_far one =
    let more : map f (take (i + 1) xs) ≡ map f (take i xs) ++ f x ∷ [] = map_more f xs i x lt ∙ ap (λ y. map f (take i xs) ++ f y ∷ []) (sym is) in
    rw (more, sum_by_push padded_len (map f (take i xs)) (f x)) (omega arith)

-- all of them
pub all_within : {X : Type 0} (f : X → AvpValue) (xs : List X) (i : ℕ) (room : ℕ) → length xs ≤ i → i ≤ length xs → sum_by padded_len (map f (take i xs)) ≤ room * i → sum_by padded_len (map f xs) ≤ room * length xs
all_within f xs i room end within so_far =
    let whole : take i xs ≡ xs = take_all i xs end in
    let same : i ≡ length xs = omega arith in
    rw (whole, same) at so_far

-- ---- the quality of service of a rule

quality_by : (b : Bool) (r : RuleValue) → has_guaranteed_rate r.qci ≡ b → sum_by padded_len (rule_quality_avps r) ≤ 140
unfolding rule_quality_avps word_bytes written_avp written.three_bytes
quality_by true r is = rw is (omega arith)
quality_by false r is = rw is (omega arith)

-- at most 140 bytes
pub quality_within : (r : RuleValue) → sum_by padded_len (rule_quality_avps r) ≤ 140
quality_within r = quality_by (has_guaranteed_rate r.qci) r refl

-- ---- a rule

-- what stands behind a rule's filters
abbrev after_filters : RuleValue → List AvpValue
after_filters r =
    tgpp_number flow_status needed r.status
    ∷ tgpp_group qos_information needed (rule_quality_avps r)
    ∷ tgpp_number precedence needed r.precedence
    ∷ []

after_filters_within : (r : RuleValue) → sum_by padded_len (after_filters r) ≤ 184
unfolding word_bytes
after_filters_within r =
    let quality = tgpp_within 1016 true (flat_map written_avp (rule_quality_avps r)) 35 (rw group_length (quality_within r)) in
    omega arith

-- how long a rule is
pub rule_within : (form : MessageForm) (r : RuleValue) → padded_len (name_avp r.name) ≤ name_room → sum_by padded_len (map (filter_avp form) r.filters) ≤ 2 * filter_room → sum_by padded_len (rule_avps form r) ≤ rule_room
unfolding rule_avps
rule_within form r named filters =
    let after = after_filters_within r in
    let first = sum_by-cons padded_len (name_avp r.name) (map (filter_avp form) r.filters ++ after_filters r) in
    let others = sum_by-append padded_len (map (filter_avp form) r.filters) (after_filters r) in
    rw (first, others) (omega arith)

-- a Charging-Rule-Definition takes at most so many bytes
pub definition_within : (form : MessageForm) (r : RuleValue) → sum_by padded_len (rule_avps form r) ≤ rule_room → padded_len (rule_avp form r) ≤ definition_room
definition_within form r within = tgpp_within 1003 true (flat_map written_avp (rule_avps form r)) 347 (rw group_length within)

-- ---- a difference

-- the names of the rules that are removed
pub remove_within : (names : List (List ℕ)) → sum_by padded_len (map name_avp names) ≤ name_room * length names → sum_by padded_len (remove_avps names) ≤ 12 + name_room * length names
remove_within [] within = omega arith
remove_within (name ∷ names) within =
    let value : length (flat_map written_avp (map name_avp (name ∷ names))) ≤ 4 * (153 * length (name ∷ names)) = rw (group_length (map name_avp (name ∷ names))) (omega arith) in
    let group = tgpp_within 1002 true (flat_map written_avp (map name_avp (name ∷ names))) (153 * length (name ∷ names)) value in
    omega arith

-- the rules that are installed
pub install_within : (form : MessageForm) (rules : List RuleValue) → sum_by padded_len (map (rule_avp form) rules) ≤ definition_room * length rules → sum_by padded_len (install_avps form rules) ≤ 12 + definition_room * length rules
install_within form [] within = omega arith
install_within form (rule ∷ rules) within =
    let value : length (flat_map written_avp (map (rule_avp form) (rule ∷ rules))) ≤ 4 * (350 * length (rule ∷ rules)) = rw (group_length (map (rule_avp form) (rule ∷ rules))) (omega arith) in
    let group = tgpp_within 1001 true (flat_map written_avp (map (rule_avp form) (rule ∷ rules))) (350 * length (rule ∷ rules)) value in
    omega arith

-- both
pub delta_within : (form : MessageForm) (d : DeltaValue) → length d.removed + length d.installed ≤ delta_limit → sum_by padded_len (remove_avps d.removed) ≤ 12 + name_room * length d.removed
    → sum_by padded_len (install_avps form d.installed) ≤ 12 + definition_room * length d.installed → sum_by padded_len (delta_avps form d) ≤ delta_room
unfolding delta_avps
delta_within form d few removed installed = let both = sum_by-append padded_len (remove_avps d.removed) (install_avps form d.installed) in rw both (omega arith)
