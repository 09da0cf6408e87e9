-- Values of one field are of one kind; what was told under names in order; which facts show where.
use Rattle.std.proofs.Common.{◌≡◌, ℕ, ◌<◌, nat_lt, Bool, true, false, cond, List, [], ◌∷◌, ◌++◌, length, get_or, map, arith, Option, Some, None, is_some, refl, sym, ap, ◌∙◌}
use Rattle.std.proofs.lemmas.Bool.Decides.{nat_tests}
use Rattle.std.specs.List.{filter_map, flat_map, cons_option}
use Rattle.std.specs.Option.{option_cmp}
use Rattle.pcrf_values.specs.declared.tag.Tag.{Tag}
use Rattle.pcrf_values.specs.RuleValues.{RuleValue, rule_cmp}
use Rattle.pcrf_values.specs.Places.{SessionField, ComponentField, FlowField, Place, OfSession, OfComponent, OfFlow, session_field_number}
use Rattle.pcrf_values.specs.Values.{Value, Entry, value_cmp, entry_cmp}
use Rattle.pcrf_values.specs.Facts.{Fact, position, entry}
use Rattle.pcrf_values.specs.Held.{kept_list, is_gone, entry_at, entry_shown}
use Rattle.pcrf_values.proofs.JoinedLaws.{held-Same}
use Rattle.pcrf_values.specs.ToldWords.{told_entry, told_rule, ToldRule}
use Rattle.pcrf_model.specs.Forms.{is_record}
use Rattle.pcrf_model.specs.Sessions.{Gx}
use Rattle.pcrf_model.proofs.RecordForms.{joined_record}
use Rattle.pcrf_values.specs.Sets.{In, greatest}
use Rattle.pcrf_values.proofs.SetLaws.{Same-twice}
use Rattle.lattice_core.specs.SessionValues.{entry_by, session_number, session_value}
use Rattle.lattice_core.proofs.FoundLaws.{In-made, shown_found}
use Rattle.gx_records.specs.declared.fact.GxFact.{GxFact}
use Rattle.gx_records.specs.declared.fact.GxFact.TheVariants.{End, Field, Told}
use Rattle.lattice_core.specs.SessionFacts.{session_fact}
use Rattle.lattice_core.specs.declared.fact.SessionValue.{SessionValue}
use Rattle.lattice_core.specs.declared.fact.SessionValue.TheVariants.{Address, Apn, Subscribers, Host, Realm, Last, Prefix}
use Rattle.gx_records.specs.GxFacts.{told_value, fact_of, rules_told}

-- what was told compares as its values do
pub told_order : (x y : Option RuleValue) → option_cmp rule_cmp x y ≡ value_cmp (told_value x) (told_value y)
told_order None None = refl
told_order None (Some s) = refl
told_order (Some r) None = refl
told_order (Some r) (Some s) = refl

-- the entry of a field's fact
pub entry_of_field : (t : Tag) (x : SessionValue ℕ) → Some (t, session_value x) ≡ entry (session_fact t x)
entry_of_field t (Address x) = refl
entry_of_field t (Apn x) = refl
entry_of_field t (Subscribers x) = refl
entry_of_field t (Host x) = refl
entry_of_field t (Realm x) = refl
entry_of_field t (Last x) = refl
entry_of_field t (Prefix x) = refl

-- ---- what shows

-- what is there, of any type
pub said : {T : Type 0} (make : T → Value) (o : Option (Tag × T)) → is_some (entry_by make o) ≡ is_some o
said make None = refl
said make (Some e) = refl

-- facts of Gx sessions stand at no component
no_component : (c : ℕ) (f : ComponentField) (x : GxFact) → entry_at (OfComponent c f) (fact_of x) ≡ None
no_component c f End = refl
no_component c f (Field t (Address x)) = refl
no_component c f (Field t (Apn x)) = refl
no_component c f (Field t (Subscribers x)) = refl
no_component c f (Field t (Host x)) = refl
no_component c f (Field t (Realm x)) = refl
no_component c f (Field t (Last x)) = refl
no_component c f (Field t (Prefix x)) = refl
no_component c f (Told t name r) = refl

-- and at no flow
no_flow : (c n : ℕ) (f : FlowField) (x : GxFact) → entry_at (OfFlow c n f) (fact_of x) ≡ None
no_flow c n f End = refl
no_flow c n f (Field t (Address x)) = refl
no_flow c n f (Field t (Apn x)) = refl
no_flow c n f (Field t (Subscribers x)) = refl
no_flow c n f (Field t (Host x)) = refl
no_flow c n f (Field t (Realm x)) = refl
no_flow c n f (Field t (Last x)) = refl
no_flow c n f (Field t (Prefix x)) = refl
no_flow c n f (Told t name r) = refl

-- no entry
abbrev nothing : Option Entry
nothing = None

-- a place at which no fact stands shows nothing
empty_place : (p : Place) → ((x : GxFact) → entry_at p (fact_of x) ≡ None) → (xs : List GxFact) → nothing ≡ entry_shown (map fact_of xs) p
empty_place p none xs = sym (ap (λ l. cond (is_gone (map fact_of xs) p) nothing (greatest entry_cmp l)) (all xs) ∙ either (is_gone (map fact_of xs) p))
  where
    all : (xs : List GxFact) → filter_map (entry_at p) (map fact_of xs) ≡ []
    all [] = refl
    all (x ∷ xs) = ap (λ o. cons_option o (filter_map (entry_at p) (map fact_of xs))) (none x) ∙ all xs

    either : (b : Bool) → cond b nothing nothing ≡ nothing
    either true = refl
    either false = refl

-- so components show nothing
pub no_components : (xs : List GxFact) (c : ℕ) (f : ComponentField) → nothing ≡ entry_shown (map fact_of xs) (OfComponent c f)
no_components xs c f = empty_place (OfComponent c f) (no_component c f) xs

-- and flows
pub no_flows : (xs : List GxFact) (c n : ℕ) (f : FlowField) → nothing ≡ entry_shown (map fact_of xs) (OfFlow c n f)
no_flows xs c n f = empty_place (OfFlow c n f) (no_flow c n f) xs

-- ---- records

-- what is kept of facts of operations is such facts
pub kept_record : (xs : List Fact) → is_record Gx xs ≡ true → is_record Gx (kept_list xs) ≡ true
kept_record xs h = ap (is_record Gx) (sym (held-Same (xs ++ xs) xs (Same-twice xs))) ∙ joined_record Gx xs xs h h

-- ---- what was told

-- the rules that facts tell
pub rules_listed : (xs : List GxFact) → flat_map rules_told xs ≡ filter_map told_rule (filter_map told_entry (map fact_of xs))
rules_listed [] = refl
rules_listed (End ∷ xs) = rules_listed xs
rules_listed (Field t (Address x) ∷ xs) = rules_listed xs
rules_listed (Field t (Apn x) ∷ xs) = rules_listed xs
rules_listed (Field t (Subscribers x) ∷ xs) = rules_listed xs
rules_listed (Field t (Host x) ∷ xs) = rules_listed xs
rules_listed (Field t (Realm x) ∷ xs) = rules_listed xs
rules_listed (Field t (Last x) ∷ xs) = rules_listed xs
rules_listed (Field t (Prefix x) ∷ xs) = rules_listed xs
rules_listed (Told t name None ∷ xs) = rules_listed xs
rules_listed (Told t name (Some r) ∷ xs) = ap (λ (l : List ToldRule). (name, r) ∷ l) (rules_listed xs)

-- where the fact of a field stands
pub field_position : (t : Tag) (x : SessionValue ℕ) → position (session_fact t x) ≡ (2, (0, (0, (session_number x, []))))
field_position t (Address x) = refl
field_position t (Apn x) = refl
field_position t (Subscribers x) = refl
field_position t (Host x) = refl
field_position t (Realm x) = refl
field_position t (Last x) = refl
field_position t (Prefix x) = refl

-- a kept field shows its value
pub kept_shows : (zs : List Fact) (t : Tag) (x : SessionValue ℕ) (f : SessionField) → kept_list zs ≡ zs → In (session_fact t x) zs → session_field_number f ≡ session_number x
    → Some (t, session_value x) ≡ entry_shown zs (OfSession f)
kept_shows zs t x f k i e = entry_of_field t x ∙ shown_found zs (OfSession f) (Some (session_fact t x)) k (i, field_position t x ∙ ap (λ n. (2, (0, (0, (n, []))))) (sym e))

-- the fact at a place is one of all
pub In-at : (xs : List GxFact) (at : ℕ) (x : GxFact) → true ≡ nat_lt at (length xs) → x ≡ get_or xs at x → In (fact_of x) (map fact_of xs)
In-at xs at x lt e = let within : at < length xs = grind (arith, nat_tests) in In-made fact_of xs at x within e
