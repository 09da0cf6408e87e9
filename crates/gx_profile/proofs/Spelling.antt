-- What is read is spelled so, and what is spelled so is read.
use Rattle.std.proofs.Common.{◌≡◌, ◌∙◌, ℕ, Bool, true, false, cond, ◌&&◌, ◌||◌, nat_le, nat_lt, nat_eq, List, [], ◌∷◌, ◌++◌, length, Option, Some, None, option_to_list, ap, sym, subst, refl, rules, arith, codes, eqb-true}
use Rattle.std.specs.Cmp.{first_so, second_so}
use Rattle.std.specs.List.{AllByRecursion, list_all}
use Rattle.std.specs.Option.{option_map_or}
use Rattle.gx_profile.specs.declared.filters.direction.Direction.{Direction}
use Rattle.gx_profile.specs.declared.filters.direction.Direction.TheVariants.{Uplink, Downlink}
use Rattle.gx_profile.specs.Filters.{EndpointValue, FilterValue, Spells, says, permit_word, in_word, out_word, from_word, to_word, direction_word, is_digit, is_of, is_protocol, is_address_byte, is_plain_address, is_address, is_port_byte, is_ports, is_endpoint, is_visible, is_word, begins_with_letter, are_options, is_rule, endpoint_words, filter_words, spelled, behind, with_ports, endpoint_in, if_rule, from_destination, from_to, from_source, from_from, from_protocol, from_direction, from_action, parts_of}
use Rattle.gx_profile.specs.Words.{space, is_space, words_of, text_of}
use Rattle.gx_profile.proofs.Splitting.{text_of_words, Spaceless, words_of_text, spaceless, spaceless_of}

-- ---- generic

some_is : {A : Type 0} (x y : A) → Some x ≡ Some y → x ≡ y
some_is x y e = cc

same_byte : (x y : ℕ) → nat_eq x y ≡ true → x ≡ y
same_byte x y h = eqb-true x y h

-- the same bytes
pub same_word : (word other : List ℕ) → says word other ≡ true → word ≡ other
same_word [] [] h = refl
same_word [] (y ∷ ys) h = absurd cc
same_word (x ∷ xs) [] h = absurd cc
same_word (x ∷ xs) (y ∷ ys) h =
    let head : x ≡ y = same_byte x y (first_so (nat_eq x y) (says xs ys) h) in
    let tail : xs ≡ ys = same_word xs ys (second_so (nat_eq x y) (says xs ys) h) in
    rw (head, tail) refl

-- ---- words have no spaces

digit_apart : (byte : ℕ) → is_digit byte ≡ true → is_space byte ≡ false
digit_apart byte h = grind arith

address_apart : (byte : ℕ) → is_address_byte byte ≡ true → is_space byte ≡ false
address_apart byte h = grind arith

port_apart : (byte : ℕ) → is_port_byte byte ≡ true → is_space byte ≡ false
port_apart byte h = grind arith

visible_apart : (byte : ℕ) → is_visible byte ≡ true → is_space byte ≡ false
visible_apart byte h = grind arith

-- a word that is another or passes has no space, where the other has none
either : (word other : List ℕ) (passes : Bool) → Spaceless other → (passes ≡ true → Spaceless word) → (says word other || passes) ≡ true → (b : Bool) → says word other ≡ b → Spaceless word
either word other passes plain pass h true is = subst Spaceless (sym (same_word word other is)) plain
either word other passes plain pass h false is = pass (rw is at h)

codes_spaceless : (word : List ℕ) → list_all is_visible word ≡ true → Spaceless word
codes_spaceless word h = spaceless is_visible visible_apart word h

protocol_spaceless : (word : List ℕ) → is_protocol word ≡ true → Spaceless word
protocol_spaceless word h = either word (codes "ip") (is_of is_digit word) (codes_spaceless (codes "ip") refl) (spaceless_of is_digit digit_apart word) h (says word (codes "ip")) refl

numeral_spaceless : (word : List ℕ) → (says word (codes "assigned") || is_of is_address_byte word) ≡ true → Spaceless word
numeral_spaceless word h = either word (codes "assigned") (is_of is_address_byte word) (codes_spaceless (codes "assigned") refl) (spaceless_of is_address_byte address_apart word) h (says word (codes "assigned")) refl

plain_spaceless : (word : List ℕ) → is_plain_address word ≡ true → Spaceless word
plain_spaceless word h = either word (codes "any") (says word (codes "assigned") || is_of is_address_byte word) (codes_spaceless (codes "any") refl) (numeral_spaceless word) h (says word (codes "any")) refl

marked_spaceless : (byte : ℕ) (bytes : List ℕ) (b : Bool) → (nat_eq byte 0x21) ≡ b → cond b (is_plain_address bytes) (is_plain_address (byte ∷ bytes)) ≡ true → Spaceless (byte ∷ bytes)
marked_spaceless byte bytes true is h = ((let mark : byte ≡ 0x21 = same_byte byte 0x21 is in rw mark refl), plain_spaceless bytes h)
marked_spaceless byte bytes false is h = plain_spaceless (byte ∷ bytes) h

address_spaceless : (word : List ℕ) → is_address word ≡ true → Spaceless word
address_spaceless [] h = absurd cc
address_spaceless (byte ∷ bytes) h = marked_spaceless byte bytes (nat_eq byte 0x21) refl h

ports_spaceless : (word : List ℕ) → is_ports word ≡ true → Spaceless word
ports_spaceless word h = spaceless_of is_port_byte port_apart word h

words_spaceless : (words : List (List ℕ)) → list_all is_word words ≡ true → AllByRecursion Spaceless words
words_spaceless [] h = tt
words_spaceless (word ∷ words) h =
    (spaceless_of is_visible visible_apart word (first_so (is_word word) (list_all is_word words) h), words_spaceless words (second_so (is_word word) (list_all is_word words) h))

options_spaceless : (words : List (List ℕ)) → are_options words ≡ true → AllByRecursion Spaceless words
options_spaceless [] h = tt
options_spaceless (name ∷ words) h = words_spaceless (name ∷ words) (second_so (begins_with_letter name) (list_all is_word (name ∷ words)) h)

-- an endpoint before other words
endpoint_spaceless : (address : List ℕ) (ports : Option (List ℕ)) (words : List (List ℕ)) → is_endpoint (record { address = address; ports = ports }) ≡ true → AllByRecursion Spaceless words → AllByRecursion Spaceless (endpoint_words (record { address = address; ports = ports }) ++ words)
endpoint_spaceless address None words h rest = (address_spaceless address (first_so (is_address address) true h), rest)
endpoint_spaceless address (Some ports) words h rest =
    (address_spaceless address (first_so (is_address address) (is_ports ports) h), (ports_spaceless ports (second_so (is_address address) (is_ports ports) h), rest))

direction_spaceless : (d : Direction) → Spaceless (direction_word d)
direction_spaceless Uplink = codes_spaceless in_word refl
direction_spaceless Downlink = codes_spaceless out_word refl

-- what a rule's parts are
pub record Parted (f : FilterValue) : Type 0 where
  pub protocol : is_protocol f.protocol ≡ true
  pub source : is_endpoint f.source ≡ true
  pub destination : is_endpoint f.destination ≡ true
  pub options : are_options f.options ≡ true

pub parted : (f : FilterValue) → is_rule f ≡ true → Parted f
unfolding is_rule
parted f h =
    let behind_protocol = second_so (is_protocol f.protocol) (is_endpoint f.source && (is_endpoint f.destination && are_options f.options)) h in
    let behind_source = second_so (is_endpoint f.source) (is_endpoint f.destination && are_options f.options) behind_protocol in
    record {
      protocol = first_so (is_protocol f.protocol) (is_endpoint f.source && (is_endpoint f.destination && are_options f.options)) h;
      source = first_so (is_endpoint f.source) (is_endpoint f.destination && are_options f.options) behind_protocol;
      destination = first_so (is_endpoint f.destination) (are_options f.options) behind_source;
      options = second_so (is_endpoint f.destination) (are_options f.options) behind_source;
    }

-- the words of a filter have no spaces
pub filter_spaceless : (f : FilterValue) → Parted f → AllByRecursion Spaceless (filter_words f)
filter_spaceless f p =
    let destination = endpoint_spaceless f.destination.address f.destination.ports f.options p.destination (options_spaceless f.options p.options) in
    let source = endpoint_spaceless f.source.address f.source.ports (to_word ∷ (endpoint_words f.destination ++ f.options)) p.source (codes_spaceless to_word refl, destination) in
    (codes_spaceless permit_word refl, (direction_spaceless f.direction, (protocol_spaceless f.protocol p.protocol, (codes_spaceless from_word refl, source))))

-- ---- what is spelled so is read

-- behind an endpoint comes a word that is no ports
source_back : (address : List ℕ) (ports : Option (List ℕ)) (word : List ℕ) (words : List (List ℕ)) → option_map_or is_ports ports true ≡ true → is_ports word ≡ false
    → endpoint_in (endpoint_words (record { address = address; ports = ports }) ++ (word ∷ words)) ≡ Some (record { address = address; ports = ports }, word ∷ words)
source_back address None word words h apart = rw apart refl
source_back address (Some ports) word words h apart = rw h refl

never : (b : Bool) → (b && false) ≡ false
never true = refl
never false = refl

-- the name of an option is no ports
name_apart : (name : List ℕ) → begins_with_letter name ≡ true → is_ports name ≡ false
name_apart [] h = absurd cc
name_apart (byte ∷ bytes) h =
    let apart : is_port_byte byte ≡ false = grind arith in
    ap (λ b. nat_lt 0 (length (byte ∷ bytes)) && (b && list_all is_port_byte bytes)) apart ∙ never (nat_lt 0 (length (byte ∷ bytes)))

destination_back : (address : List ℕ) (ports : Option (List ℕ)) (options : List (List ℕ)) → option_map_or is_ports ports true ≡ true → are_options options ≡ true
    → endpoint_in (endpoint_words (record { address = address; ports = ports }) ++ options) ≡ Some (record { address = address; ports = ports }, options)
destination_back address None [] h apart = refl
destination_back address (Some ports) [] h apart = rw h refl
destination_back address ports (name ∷ words) h apart =
    source_back address ports name words h (name_apart name (first_so (begins_with_letter name) (list_all is_word (name ∷ words)) apart))

-- the direction's word is read as the direction
directed : (d : Direction) (words : List (List ℕ)) → from_direction (direction_word d ∷ words) ≡ from_protocol d words
directed Uplink words = refl
directed Downlink words = refl

read_back : (f : FilterValue) → is_rule f ≡ true → Parted f → from_action (behind permit_word (filter_words f)) ≡ Some f
read_back f rule p =
    let source = source_back f.source.address f.source.ports to_word (endpoint_words f.destination ++ f.options) (second_so (is_address f.source.address) (option_map_or is_ports f.source.ports true) p.source) refl in
    let destination = destination_back f.destination.address f.destination.ports f.options (second_so (is_address f.destination.address) (option_map_or is_ports f.destination.ports true) p.destination) p.options in
    directed f.direction (f.protocol ∷ from_word ∷ (endpoint_words f.source ++ (to_word ∷ (endpoint_words f.destination ++ f.options))))
    ∙ ap (from_source f.direction f.protocol) source
    ∙ ap (from_destination f.direction f.protocol f.source) destination
    ∙ rw rule refl

-- a filter that is spelled is read
pub reads_back : (f : FilterValue) → is_rule f ≡ true → parts_of (spelled f) ≡ Some f
unfolding parts_of spelled
reads_back f rule =
    let p = parted f rule in
    ap (λ words. from_action (behind permit_word words)) (words_of_text permit_word (direction_word f.direction ∷ f.protocol ∷ from_word ∷ (endpoint_words f.source ++ (to_word ∷ (endpoint_words f.destination ++ f.options)))) (filter_spaceless f p)) ∙ read_back f rule p

-- ---- what is read is spelled so

behind_by : (word first : List ℕ) (words rest : List (List ℕ)) (b : Bool) → says first word ≡ b → cond b (Some words) None ≡ Some rest → first ∷ words ≡ word ∷ rest
behind_by word first words rest true is h = let same : first ≡ word = same_word first word is in let others : words ≡ rest = some_is words rest h in rw (same, others) refl
behind_by word first words rest false is h = absurd cc

behind_is : (word : List ℕ) (words rest : List (List ℕ)) → behind word words ≡ Some rest → words ≡ word ∷ rest
behind_is word [] rest h = absurd cc
behind_is word (first ∷ words) rest h = behind_by word first words rest (says first word) refl h

ports_by : (address word : List ℕ) (words : List (List ℕ)) (b : Bool) → (given : EndpointValue × List (List ℕ))
    → cond b (record { address = address; ports = Some word }, words) (record { address = address; ports = None }, word ∷ words) ≡ given → address ∷ word ∷ words ≡ endpoint_words given.0 ++ given.1
ports_by address word words true given h = subst (λ (x : EndpointValue × List (List ℕ)). address ∷ word ∷ words ≡ endpoint_words x.0 ++ x.1) h refl
ports_by address word words false given h = subst (λ (x : EndpointValue × List (List ℕ)). address ∷ word ∷ words ≡ endpoint_words x.0 ++ x.1) h refl

endpoint_is : (words : List (List ℕ)) (given : EndpointValue × List (List ℕ)) → endpoint_in words ≡ Some given → words ≡ endpoint_words given.0 ++ given.1
endpoint_is [] given h = absurd cc
endpoint_is (address ∷ []) given h = subst (λ (x : EndpointValue × List (List ℕ)). address ∷ [] ≡ endpoint_words x.0 ++ x.1) (some_is (record { address = address; ports = None }, []) given h) refl
endpoint_is (address ∷ word ∷ words) given h = ports_by address word words (is_ports word) given (some_is (with_ports address (word ∷ words)) given h)

rule_by : (g f : FilterValue) (b : Bool) → is_rule g ≡ b → cond b (Some g) None ≡ Some f → (g ≡ f) × (is_rule f ≡ true)
rule_by g f true is h = let same : g ≡ f = some_is g f h in (same, subst (λ (x : FilterValue). is_rule x ≡ true) same is)
rule_by g f false is h = absurd cc

rule_is : (g f : FilterValue) → if_rule g ≡ Some f → (g ≡ f) × (is_rule f ≡ true)
rule_is g f h = rule_by g f (is_rule g) refl h

-- how the words from dst on are those of a filter
pub record FromDestination (d : Direction) (p : List ℕ) (s : EndpointValue) (words : List (List ℕ)) (f : FilterValue) : Type 0 where
  pub direction : d ≡ f.direction
  pub protocol : p ≡ f.protocol
  pub source : s ≡ f.source
  pub others : words ≡ endpoint_words f.destination ++ f.options
  pub rule : is_rule f ≡ true

destination_is : (d : Direction) (p : List ℕ) (s : EndpointValue) (words : List (List ℕ)) (f : FilterValue) (o : Option (EndpointValue × List (List ℕ))) → endpoint_in words ≡ o → from_destination d p s o ≡ Some f → FromDestination d p s words f
destination_is d p s words f None is h = absurd cc
destination_is d p s words f (Some given) is h =
    let g : FilterValue = record { direction = d; protocol = p; source = s; destination = given.0; options = given.1 } in
    let same = rule_is g f h in
    record {
      direction = ap (λ (x : FilterValue). x.direction) same.0;
      protocol = ap (λ (x : FilterValue). x.protocol) same.0;
      source = ap (λ (x : FilterValue). x.source) same.0;
      others = endpoint_is words given is ∙ ap (λ (x : FilterValue). endpoint_words x.destination ++ x.options) same.0;
      rule = same.1;
    }

-- the same from `to` on
to_is : (d : Direction) (p : List ℕ) (s : EndpointValue) (words : List (List ℕ)) (f : FilterValue) (o : Option (List (List ℕ))) → behind to_word words ≡ o → from_to d p s o ≡ Some f
    → (rest : List (List ℕ)) × (words ≡ to_word ∷ rest) × FromDestination d p s rest f
to_is d p s words f None is h = absurd cc
to_is d p s words f (Some rest) is h = (rest, behind_is to_word words rest is, destination_is d p s rest f (endpoint_in rest) refl h)

-- the words from src on are those of a filter
pub record FromSource (d : Direction) (p : List ℕ) (words : List (List ℕ)) (f : FilterValue) : Type 0 where
  pub direction : d ≡ f.direction
  pub protocol : p ≡ f.protocol
  pub others : words ≡ endpoint_words f.source ++ (to_word ∷ (endpoint_words f.destination ++ f.options))
  pub rule : is_rule f ≡ true

source_is : (d : Direction) (p : List ℕ) (words : List (List ℕ)) (f : FilterValue) (o : Option (EndpointValue × List (List ℕ))) → endpoint_in words ≡ o → from_source d p o ≡ Some f → FromSource d p words f
source_is d p words f None is h = absurd cc
source_is d p words f (Some given) is h =
    let t = to_is d p given.0 given.1 f (behind to_word given.1) refl h in
    record {
      direction = t.2.direction;
      protocol = t.2.protocol;
      others = endpoint_is words given is ∙ rw (t.1, t.2.others, t.2.source) refl;
      rule = t.2.rule;
    }

-- the same from `from` on
from_is : (d : Direction) (p : List ℕ) (words : List (List ℕ)) (f : FilterValue) (o : Option (List (List ℕ))) → behind from_word words ≡ o → from_from d p o ≡ Some f
    → (rest : List (List ℕ)) × (words ≡ from_word ∷ rest) × FromSource d p rest f
from_is d p words f None is h = absurd cc
from_is d p words f (Some rest) is h = (rest, behind_is from_word words rest is, source_is d p rest f (endpoint_in rest) refl h)

-- the words from proto on are those of a filter
pub record FromProtocol (d : Direction) (words : List (List ℕ)) (f : FilterValue) : Type 0 where
  pub direction : d ≡ f.direction
  pub others : words ≡ f.protocol ∷ from_word ∷ (endpoint_words f.source ++ (to_word ∷ (endpoint_words f.destination ++ f.options)))
  pub rule : is_rule f ≡ true

protocol_is : (d : Direction) (words : List (List ℕ)) (f : FilterValue) → from_protocol d words ≡ Some f → FromProtocol d words f
protocol_is d [] f h = absurd cc
protocol_is d (p ∷ words) f h =
    let s = from_is d p words f (behind from_word words) refl h in
    record {
      direction = s.2.direction;
      others = rw (s.1, s.2.others, s.2.protocol) refl;
      rule = s.2.rule;
    }

-- a direction's word, and the words behind it
direction_by : (d : Direction) (word : List ℕ) (words : List (List ℕ)) (f : FilterValue) → word ≡ direction_word d → FromProtocol d words f → permit_word ∷ word ∷ words ≡ filter_words f
direction_by d word words f is t = rw (is, t.others, t.direction) refl

downlink_is : (word : List ℕ) (words : List (List ℕ)) (f : FilterValue) (b : Bool) → says word out_word ≡ b → cond b (from_protocol Downlink words) None ≡ Some f → (permit_word ∷ word ∷ words ≡ filter_words f) × (is_rule f ≡ true)
downlink_is word words f false is h = absurd cc
downlink_is word words f true is h = let t = protocol_is Downlink words f h in (direction_by Downlink word words f (same_word word out_word is) t, t.rule)

direction_is : (word : List ℕ) (words : List (List ℕ)) (f : FilterValue) (b : Bool) → says word in_word ≡ b → cond b (from_protocol Uplink words) (cond (says word out_word) (from_protocol Downlink words) None) ≡ Some f
    → (permit_word ∷ word ∷ words ≡ filter_words f) × (is_rule f ≡ true)
direction_is word words f true is h = let t = protocol_is Uplink words f h in (direction_by Uplink word words f (same_word word in_word is) t, t.rule)
direction_is word words f false is h = downlink_is word words f (says word out_word) refl h

action_is : (words : List (List ℕ)) (f : FilterValue) (o : Option (List (List ℕ))) → behind permit_word words ≡ o → from_action o ≡ Some f → (words ≡ filter_words f) × (is_rule f ≡ true)
action_is words f None is h = absurd cc
action_is words f (Some []) is h = absurd cc
action_is words f (Some (word ∷ rest)) is h =
    let t = direction_is word rest f (says word in_word) refl h in
    (behind_is permit_word words (word ∷ rest) is ∙ t.0, t.1)

-- what is read is spelled so
pub is_spelled : (text : List ℕ) (f : FilterValue) → parts_of text ≡ Some f → Spells text f
unfolding parts_of spelled
is_spelled text f h =
    let t = action_is (words_of text) f (behind permit_word (words_of text)) refl h in
    record { spelling = sym (text_of_words text) ∙ ap text_of t.0; rule = t.1 }
