-- The orders of facts and their parts, and that overshadowing is a strict order.
use Rattle.std.proofs.lemmas.Bool.Decides.{nat_tests}
use Rattle.std.proofs.Common.{◌≡◌, inl, inr, arith, ℕ, cond, find, unwrap_or, ◌==◌, true, false, Option, Some, None, refl, sym, ap, subst}
use Rattle.std.specs.Ordering.{is_eq}
use Rattle.std.specs.Cmp.{first_so, second_so}
use Rattle.pcrf_values.specs.Subscribers.{subscriber_cmp}
use Rattle.pcrf_values.specs.laws.Values.{subscriber_total, subscriber_same, rule_total, rule_same}
use Rattle.pcrf_values.specs.RuleValues.{rule_cmp}
use Rattle.pcrf_values.specs.declared.tag.Tag.{Tag}
use Rattle.pcrf_values.specs.Sets.{In}
use Rattle.pcrf_values.specs.Tags.{tag_cmp}
use Rattle.pcrf_values.specs.Places.{SessionField, FramedIpAddress, CalledStationId, SubscriptionIds, OriginHost, OriginRealm, RequestType, FramedIpv6Prefix, ComponentField, MediaType, ComponentStatus, ComponentRateUp, ComponentRateDown, FlowField, FlowDescriptions, FlowUsage, FlowStatus, FlowRateUp, FlowRateDown, session_fields, session_field_number, component_field_number, flow_field_number, Place, OfSession, OfComponent, OfFlow, OfRuleName, Removable, Component, Flow, Position, position_cmp, place_position, place_cmp, contains, covers}
use Rattle.pcrf_values.specs.Prefixes.{prefix_cmp}
use Rattle.pcrf_values.specs.Values.{Value, Number, Text, Address, Subscribers, Filters, Untold, Told, Prefix, ValueKey, value_key, value_cmp, Entry, entry_cmp}
use Rattle.pcrf_values.specs.Facts.{Fact, End, Removed, Field, Aborted, position, entry, fact_cmp, is_shaded_by}
use Rattle.pcrf_values.proofs.Plain.{clash, is_false, both}
use Rattle.pcrf_values.proofs.OrderLaws.{IsRanked, nat_ranked, list_ranked, text_ranked, pair_ranked, either_ranked, on_ranked, option_ranked, eq_is}
use Rattle.pcrf_values.proofs.SetLaws.{less_irr, less_trans}

-- tags are ranked
pub tag_ranked : IsRanked tag_cmp
tag_ranked = on_ranked (λ (t : Tag). (t.number, (t.counter, t.site))) (λ q. record { number = q.0; counter = q.1.0; site = q.1.1 }) (λ _. refl) (pair_ranked nat_ranked (pair_ranked nat_ranked nat_ranked))

-- subscribers are ranked
pub subscriber_ranked : IsRanked subscriber_cmp
subscriber_ranked = record { total = subscriber_total; same = subscriber_same }

-- rules are ranked
pub rule_ranked : IsRanked rule_cmp
rule_ranked = record { total = rule_total; same = rule_same }

-- prefixes are ranked
pub prefix_ranked : IsRanked prefix_cmp
prefix_ranked = pair_ranked nat_ranked text_ranked

-- the value of those parts
abbrev value_back : ValueKey → Value
value_back (inl n) = Number n
value_back (inr (inl t)) = Text t
value_back (inr (inr (inl a))) = Address a
value_back (inr (inr (inr (inl s)))) = Subscribers s
value_back (inr (inr (inr (inr (inl f))))) = Filters f
value_back (inr (inr (inr (inr (inr (inl n)))))) = Untold
value_back (inr (inr (inr (inr (inr (inr (inl r))))))) = Told r
value_back (inr (inr (inr (inr (inr (inr (inr p))))))) = Prefix p

-- parts of values are undone
value_undo : (v : Value) → value_back (value_key v) ≡ v
value_undo (Number n) = refl
value_undo (Text t) = refl
value_undo (Address a) = refl
value_undo (Subscribers s) = refl
value_undo (Filters f) = refl
value_undo Untold = refl
value_undo (Told r) = refl
value_undo (Prefix p) = refl

-- values are ranked
pub value_ranked : IsRanked value_cmp
value_ranked = on_ranked value_key value_back value_undo
    (either_ranked nat_ranked (either_ranked text_ranked (either_ranked text_ranked
    (either_ranked (list_ranked subscriber_ranked) (either_ranked (list_ranked text_ranked)
    (either_ranked nat_ranked (either_ranked rule_ranked prefix_ranked)))))))

-- entries are ranked
pub entry_ranked : IsRanked entry_cmp
entry_ranked = pair_ranked tag_ranked value_ranked

-- the session field of that number
abbrev session_back : ℕ → SessionField
session_back n = unwrap_or (find (λ f. session_field_number f == n) session_fields) RequestType

-- numbers of session fields are undone
session_undo : (f : SessionField) → session_back (session_field_number f) ≡ f
session_undo FramedIpAddress = refl
session_undo CalledStationId = refl
session_undo SubscriptionIds = refl
session_undo OriginHost = refl
session_undo OriginRealm = refl
session_undo RequestType = refl
session_undo FramedIpv6Prefix = refl

-- each session field is listed
pub every_session_field : (f : SessionField) → In f session_fields
every_session_field FramedIpAddress = inl refl
every_session_field CalledStationId = inr (inl refl)
every_session_field SubscriptionIds = inr (inr (inl refl))
every_session_field OriginHost = inr (inr (inr (inl refl)))
every_session_field OriginRealm = inr (inr (inr (inr (inl refl))))
every_session_field RequestType = inr (inr (inr (inr (inr (inl refl)))))
every_session_field FramedIpv6Prefix = inr (inr (inr (inr (inr (inr (inl refl))))))

-- the component field of that number
abbrev component_back : ℕ → ComponentField
component_back n = cond (n == 1) MediaType (cond (n == 2) ComponentStatus (cond (n == 3) ComponentRateUp ComponentRateDown))

-- numbers of component fields are undone
component_undo : (f : ComponentField) → component_back (component_field_number f) ≡ f
component_undo MediaType = refl
component_undo ComponentStatus = refl
component_undo ComponentRateUp = refl
component_undo ComponentRateDown = refl

-- the flow field of that number
abbrev flow_back : ℕ → FlowField
flow_back n = cond (n == 1) FlowDescriptions (cond (n == 2) FlowUsage (cond (n == 3) FlowStatus (cond (n == 4) FlowRateUp FlowRateDown)))

-- numbers of flow fields are undone
flow_undo : (f : FlowField) → flow_back (flow_field_number f) ≡ f
flow_undo FlowDescriptions = refl
flow_undo FlowUsage = refl
flow_undo FlowStatus = refl
flow_undo FlowRateUp = refl
flow_undo FlowRateDown = refl

-- the place at that position
abbrev place_back : Position → Place
place_back q =
    cond (q.0 == 2) (OfSession (session_back q.1.1.1.0)) (cond (q.0 == 5) (OfComponent q.1.0 (component_back q.1.1.1.0))
    (cond (q.0 == 6) (OfFlow q.1.0 q.1.1.0 (flow_back q.1.1.1.0)) (OfRuleName q.1.1.1.1)))

-- positions of places are undone
place_undo : (p : Place) → place_back (place_position p) ≡ p
place_undo (OfSession f) = ap OfSession (session_undo f)
place_undo (OfComponent c f) = ap (OfComponent c) (component_undo f)
place_undo (OfFlow c n f) = ap (OfFlow c n) (flow_undo f)
place_undo (OfRuleName t) = refl

-- positions are ranked
pub position_ranked : IsRanked position_cmp
position_ranked = pair_ranked nat_ranked (pair_ranked nat_ranked (pair_ranked nat_ranked (pair_ranked nat_ranked text_ranked)))

-- places are ranked
pub place_ranked : IsRanked place_cmp
place_ranked = on_ranked place_position place_back place_undo position_ranked

-- what stands at that position without an entry
abbrev plain_back : Position → Fact
plain_back q =
    cond (q.0 == 1) End (cond (q.0 == 3) (Removed (Component q.1.0))
    (cond (q.0 == 4) (Removed (Flow q.1.0 q.1.1.0)) Aborted))

-- the fact of those parts
abbrev fact_back : Position × Option Entry → Fact
fact_back (q, None) = plain_back q
fact_back (q, Some e) = Field (place_back q) e.0 e.1

-- parts of facts are undone
fact_undo : (f : Fact) → fact_back (position f, entry f) ≡ f
fact_undo End = refl
fact_undo (Removed (Component c)) = refl
fact_undo (Removed (Flow c n)) = refl
fact_undo (Field p t v) = ap (λ (q : Place). Field q t v) (place_undo p)
fact_undo Aborted = refl

-- facts are ranked
pub fact_ranked : IsRanked fact_cmp
fact_ranked = on_ranked (λ f. (position f, entry f)) fact_back fact_undo (pair_ranked position_ranked (option_ranked entry_ranked))

-- what contains what covers a place covers it
pub covers_more : (s t : Removable) (p : Place) → covers s p ≡ true → contains t s ≡ true → covers t p ≡ true
covers_more (Component c) (Component d) p h k = clash false k refl
covers_more (Component c) (Flow d n) p h k = clash false k refl
covers_more (Flow c n) (Component d) (OfSession f) h k = clash false h refl
covers_more (Flow c n) (Component d) (OfComponent e f) h k = clash false h refl
covers_more (Flow c n) (Component d) (OfFlow e m f) h k = grind (arith, nat_tests)
covers_more (Flow c n) (Component d) (OfRuleName t) h k = clash false h refl
covers_more (Flow c n) (Flow d m) p h k = clash false k refl

-- no removal contains itself
contains_irr : (r : Removable) → contains r r ≡ false
contains_irr (Component c) = refl
contains_irr (Flow c n) = refl

-- nothing contains what contains another
contains_once : {P : Type 0} (r s t : Removable) → contains s r ≡ true → contains t s ≡ true → P
contains_once r (Component c) (Component d) h k = clash false k refl
contains_once r (Component c) (Flow d n) h k = clash false k refl
contains_once (Component e) (Flow c n) t h k = clash false h refl
contains_once (Flow e m) (Flow c n) t h k = clash false h refl

-- a fact at the place of another that is overshadowed
pub same_place : (p q : Place) (t u : Tag) (v w : Value) → is_shaded_by (Field p t v) (Field q u w) ≡ true → p ≡ q
same_place p q t u v w h = eq_is place_ranked p q (first_so _ _ h)

-- no fact overshadows itself
pub shaded_irr : (f : Fact) → is_shaded_by f f ≡ false
shaded_irr End = refl
shaded_irr (Removed r) = contains_irr r
shaded_irr Aborted = refl
shaded_irr (Field p t v) = is_false _ (λ h. clash _ (second_so (is_eq (place_cmp p p)) _ h) (less_irr entry_cmp entry_ranked.total entry_ranked.same (t, v)))

-- overshadowing goes through
pub shaded_trans : (f g h : Fact) → is_shaded_by f g ≡ true → is_shaded_by g h ≡ true → is_shaded_by f h ≡ true
shaded_trans End g h a b = clash false a refl
shaded_trans f End h a b = clash false b refl
shaded_trans f Aborted h a b = clash false a refl
shaded_trans f g Aborted a b = clash false b refl
shaded_trans Aborted g h a b = clash false a refl
shaded_trans (Removed r) (Removed s) End a b = refl
shaded_trans (Removed r) (Removed s) (Removed t) a b = contains_once r s t a b
shaded_trans (Removed r) (Removed s) (Field q u w) a b = clash false b refl
shaded_trans (Removed r) (Field q u w) h a b = clash false a refl
shaded_trans (Field p t v) (Removed s) End a b = refl
shaded_trans (Field p t v) (Removed s) (Removed r) a b = covers_more s r p a b
shaded_trans (Field p t v) (Removed s) (Field q u w) a b = clash false b refl
shaded_trans (Field p t v) (Field q u w) End a b = refl
shaded_trans (Field p t v) (Field q u w) (Removed r) a b = subst (λ (x : Place). covers r x ≡ true) (sym (same_place p q t u v w a)) b
shaded_trans (Field p t v) (Field q u w) (Field r s x) a b =
    both (is_eq (place_cmp p r)) _
    (subst (λ (y : Place). is_eq (place_cmp y r) ≡ true) (sym (same_place p q t u v w a)) (first_so _ _ b))
    (less_trans entry_cmp entry_ranked.total entry_ranked.same (t, v) (u, w) (s, x) (second_so (is_eq (place_cmp p q)) _ a) (second_so (is_eq (place_cmp q r)) _ b))
