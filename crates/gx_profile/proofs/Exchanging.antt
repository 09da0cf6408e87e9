-- Filters with their ends exchanged.
use Rattle.std.proofs.Common.{◌≡◌, ◌∙◌, ◌≤◌, ◌+◌, ℕ, Bool, true, false, ◌&&◌, nat_eq, List, [], ◌∷◌, ◌++◌, length, length-append, append_assoc, Option, Some, None, option_map, ap, sym, refl, rules, arith, codes}
use Rattle.std.specs.List.{starts_with}
use Rattle.gx_profile.specs.declared.filters.direction.Direction.{Direction}
use Rattle.gx_profile.specs.declared.filters.direction.Direction.TheVariants.{Uplink, Downlink}
use Rattle.gx_profile.specs.Filters.{EndpointValue, FilterValue, Spells, permit_word, from_word, to_word, direction_word, is_protocol, is_endpoint, are_options, is_rule, endpoint_words, filter_words, spelled, parts_of}
use Rattle.gx_profile.specs.Downlinks.{direction_of, opposite, exchanged, as_downlink, downlink_by, downlink_text, as_given, uplink_by, uplink_text, seen_from, enforced}
use Rattle.gx_profile.specs.Laws.{TextsComeBack, EnforcedAsDescribed, FiltersAreOfTheDownlink, GrowsByOneByte}
use Rattle.gx_profile.specs.Texts.{endpoint_text, options_text}
use Rattle.gx_profile.specs.Words.{space, text_of}
use Rattle.gx_profile.proofs.Spelling.{is_spelled, reads_back}

-- ---- how a filter is written, part by part

endpoint_joined : (address : List ℕ) (ports : Option (List ℕ)) (word : List ℕ) (words : List (List ℕ))
    → text_of (endpoint_words (record { address = address; ports = ports }) ++ (word ∷ words)) ≡ endpoint_text (record { address = address; ports = ports }) ++ (space ∷ text_of (word ∷ words))
endpoint_joined address None word words = refl
endpoint_joined address (Some ports) word words = sym (append_assoc address (space ∷ ports) (space ∷ text_of (word ∷ words)))

options_joined : (address : List ℕ) (ports : Option (List ℕ)) (options : List (List ℕ))
    → text_of (endpoint_words (record { address = address; ports = ports }) ++ options) ≡ endpoint_text (record { address = address; ports = ports }) ++ options_text options
options_joined address None [] = search rules
options_joined address (Some ports) [] = search rules
options_joined address ports (word ∷ words) = endpoint_joined address ports word words

-- what stands behind the protocol
abbrev pub tail_text : EndpointValue → EndpointValue → List (List ℕ) → List ℕ
tail_text source destination options =
    codes " from " ++ (endpoint_text source ++ (codes " to " ++ (endpoint_text destination ++ options_text options)))

ends_joined : (f : FilterValue) → text_of (endpoint_words f.source ++ (to_word ∷ (endpoint_words f.destination ++ f.options))) ≡ endpoint_text f.source ++ (codes " to " ++ (endpoint_text f.destination ++ options_text f.options))
ends_joined f =
    endpoint_joined f.source.address f.source.ports to_word (endpoint_words f.destination ++ f.options)
    ∙ ap (λ text. endpoint_text f.source ++ (codes " to " ++ text)) (options_joined f.destination.address f.destination.ports f.options)

-- a filter of a direction, as it is written
pub spelled_by : (d : Direction) (f : FilterValue) → f.direction ≡ d → spelled f ≡ codes "permit " ++ (direction_word d ++ (space ∷ (f.protocol ++ tail_text f.source f.destination f.options)))
unfolding spelled
spelled_by d f is =
    ap (λ text. codes "permit " ++ (direction_word f.direction ++ (space ∷ (f.protocol ++ (codes " from " ++ text))))) (ends_joined f)
    ∙ ap (λ e. codes "permit " ++ (direction_word e ++ (space ∷ (f.protocol ++ tail_text f.source f.destination f.options)))) is

-- how long that is
tail_length : (source destination : EndpointValue) (options : List (List ℕ))
    → length (tail_text source destination options) ≡ 10 + length (endpoint_text source) + length (endpoint_text destination) + length (options_text options)
tail_length source destination options =
    omega (arith, length-append (endpoint_text source) (codes " to " ++ (endpoint_text destination ++ options_text options)), length-append (endpoint_text destination) (options_text options))

spelled_length : (d : Direction) (f : FilterValue) → f.direction ≡ d
    → length (spelled f) ≡ 18 + length (direction_word d) + length f.protocol + length (endpoint_text f.source) + length (endpoint_text f.destination) + length (options_text f.options)
spelled_length Uplink f is =
    let tail = tail_length f.source f.destination f.options in
    rw (spelled_by Uplink f is) (omega (arith, tail, length-append f.protocol (tail_text f.source f.destination f.options)))
spelled_length Downlink f is =
    let tail = tail_length f.source f.destination f.options in
    rw (spelled_by Downlink f is) (omega (arith, tail, length-append f.protocol (tail_text f.source f.destination f.options)))

-- ---- exchanging

swapped : (a b c d : Bool) → (a && (b && (c && d))) ≡ true → (a && (c && (b && d))) ≡ true
swapped true true true d h = h
swapped true true false d h = absurd cc
swapped true false c d h = absurd cc
swapped false b c d h = absurd cc

-- what is exchanged is a rule again
pub exchanged_rule : (f : FilterValue) → is_rule f ≡ true → is_rule (exchanged f) ≡ true
unfolding is_rule
exchanged_rule f h = swapped (is_protocol f.protocol) (is_endpoint f.source) (is_endpoint f.destination) (are_options f.options) h

exchanged_twice : (d : Direction) (f : FilterValue) → f.direction ≡ d → exchanged (exchanged f) ≡ f
exchanged_twice Uplink f is = ap (λ e. record f { direction = e }) (ap (λ e. opposite (opposite e)) is ∙ sym is)
exchanged_twice Downlink f is = ap (λ e. record f { direction = e }) (ap (λ e. opposite (opposite e)) is ∙ sym is)

-- the first words of a filter tell its direction
pub told_direction : (d : Direction) (text : List ℕ) (f : FilterValue) → Spells text f → f.direction ≡ d → direction_of text ≡ d
told_direction Uplink text f s is = ap direction_of (s.spelling ∙ spelled_by Uplink f is)
told_direction Downlink text f s is = ap direction_of (s.spelling ∙ spelled_by Downlink f is)

-- ---- as filters of the downlink

-- what is no filter stays
pub none_stays : (text : List ℕ) → parts_of text ≡ None → as_downlink text ≡ text
unfolding as_downlink
none_stays text is = ap (downlink_by text) is

-- a filter of the downlink stays
pub downlink_stays : (text : List ℕ) (f : FilterValue) → parts_of text ≡ Some f → f.direction ≡ Downlink → as_downlink text ≡ text
unfolding as_downlink
downlink_stays text f is to = ap (downlink_by text) is ∙ ap (downlink_text text f) to

-- one of the uplink is exchanged
pub uplink_turns : (text : List ℕ) (f : FilterValue) → parts_of text ≡ Some f → f.direction ≡ Uplink → as_downlink text ≡ spelled (exchanged f)
unfolding as_downlink
uplink_turns text f is to = ap (downlink_by text) is ∙ ap (downlink_text text f) to

-- what is exchanged is read
exchanged_read : (text : List ℕ) (f : FilterValue) → parts_of text ≡ Some f → parts_of (spelled (exchanged f)) ≡ Some (exchanged f)
exchanged_read text f is = let s = is_spelled text f is in reads_back (exchanged f) (exchanged_rule f s.rule)

-- ---- what was given comes back

none_back : (d : Direction) (text : List ℕ) → parts_of text ≡ None → as_given d text ≡ text
none_back Uplink text is = ap (uplink_by text) is
none_back Downlink text is = refl

some_back : (d : Direction) (text : List ℕ) (f : FilterValue) → parts_of text ≡ Some f → f.direction ≡ d → as_given d (as_downlink text) ≡ text
some_back Downlink text f is to = downlink_stays text f is to
some_back Uplink text f is to =
    let s = is_spelled text f is in
    let turned = spelled (exchanged f) in
    ap (as_given Uplink) (uplink_turns text f is to)
    ∙ ap (uplink_by turned) (exchanged_read text f is)
    ∙ ap (λ d. uplink_text turned (exchanged f) (opposite d)) to
    ∙ ap spelled (exchanged_twice Uplink f to)
    ∙ sym s.spelling

back_by : (text : List ℕ) (o : Option FilterValue) → parts_of text ≡ o → as_given (direction_of text) (as_downlink text) ≡ text
back_by text None is = ap (as_given (direction_of text)) (none_stays text is) ∙ none_back (direction_of text) text is
back_by text (Some f) is =
    let told = told_direction f.direction text f (is_spelled text f is) refl in
    ap (λ d. as_given d (as_downlink text)) told ∙ some_back f.direction text f is refl

pub texts_come_back : TextsComeBack
texts_come_back text = back_by text (parts_of text) refl

-- ---- what is enforced is what was described

some_enforced : (d : Direction) (text : List ℕ) (f : FilterValue) → parts_of text ≡ Some f → f.direction ≡ d → enforced d (as_downlink text) ≡ Some f
some_enforced Downlink text f is to = ap (enforced Downlink) (downlink_stays text f is to) ∙ ap (option_map (seen_from Downlink)) is
some_enforced Uplink text f is to =
    ap (enforced Uplink) (uplink_turns text f is to)
    ∙ ap (option_map (seen_from Uplink)) (exchanged_read text f is)
    ∙ ap (λ (g : FilterValue). Some g) (exchanged_twice Uplink f to)

enforced_by : (text : List ℕ) (o : Option FilterValue) → parts_of text ≡ o → enforced (direction_of text) (as_downlink text) ≡ o
enforced_by text None is = ap (enforced (direction_of text)) (none_stays text is) ∙ ap (option_map (seen_from (direction_of text))) is
enforced_by text (Some f) is =
    let told = told_direction f.direction text f (is_spelled text f is) refl in
    ap (λ d. enforced d (as_downlink text)) told ∙ some_enforced f.direction text f is refl

pub enforced_as_described : EnforcedAsDescribed
enforced_as_described text = enforced_by text (parts_of text) refl

-- ---- every filter is of the downlink

begins_by : (d : Direction) (text : List ℕ) (f : FilterValue) → parts_of text ≡ Some f → f.direction ≡ d → starts_with nat_eq (as_downlink text) (codes "permit out ") ≡ true
begins_by Uplink text f is to = ap (λ t. starts_with nat_eq t (codes "permit out ")) (uplink_turns text f is to ∙ spelled_by Downlink (exchanged f) (ap opposite to))
begins_by Downlink text f is to =
    let s = is_spelled text f is in
    ap (λ t. starts_with nat_eq t (codes "permit out ")) (downlink_stays text f is to ∙ s.spelling ∙ spelled_by Downlink f to)

pub are_of_the_downlink : FiltersAreOfTheDownlink
are_of_the_downlink text f is = begins_by f.direction text f is refl

-- ---- how long a text becomes

grows_by : (d : Direction) (text : List ℕ) (f : FilterValue) → parts_of text ≡ Some f → f.direction ≡ d → length (as_downlink text) ≤ length text + 1
grows_by Downlink text f is to = rw (downlink_stays text f is to) (omega arith)
grows_by Uplink text f is to =
    let s = is_spelled text f is in
    let before = ap length s.spelling ∙ spelled_length Uplink f to in
    let after = ap length (uplink_turns text f is to) ∙ spelled_length Downlink (exchanged f) (ap opposite to) in
    omega arith

grows : (text : List ℕ) (o : Option FilterValue) → parts_of text ≡ o → length (as_downlink text) ≤ length text + 1
grows text None is = rw (none_stays text is) (omega arith)
grows text (Some f) is = grows_by f.direction text f is refl

pub grows_by_one : GrowsByOneByte
grows_by_one text = grows text (parts_of text) refl
