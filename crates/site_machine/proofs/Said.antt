-- Facts that are added one after the other.
use Rattle.std.proofs.Common.{◌≡◌, ℕ, false, List, ◌++◌, refl, ap, ◌∙◌, append_assoc, flat_map}
use Rattle.pcrf_values.specs.declared.tag.Tag.{Tag}
use Rattle.pcrf_values.specs.Facts.{Fact}
use Rattle.pcrf_values.specs.Places.{MediaType, ComponentStatus, ComponentRateUp, ComponentRateDown, FlowDescriptions, FlowUsage, FlowStatus, FlowRateUp, FlowRateDown, OfComponent, OfFlow}
use Rattle.pcrf_values.specs.Values.{Number, Filters}
use Rattle.pcrf_model.specs.Requests.{FlowValue, ComponentValue}
use Rattle.pcrf_model.specs.Making.{given_fact, is_removed, flow_facts, component_facts}

-- in one step more
grows : (os a b : List Fact) {xs ys : List Fact} → xs ≡ os ++ a → ys ≡ xs ++ b → ys ≡ os ++ (a ++ b)
grows os a b p q = q ∙ ap (λ (l : List Fact). l ++ b) p ∙ append_assoc os a b

-- in five steps
pub five_added : (os a b c d e : List Fact) {ws xs ys zs : List Fact} → ws ≡ os ++ a → xs ≡ ws ++ b → ys ≡ xs ++ c → zs ≡ ys ++ d → zs ++ e ≡ os ++ (a ++ b ++ c ++ d ++ e)
five_added os a b c d e p q r s =
    ap (λ (l : List Fact). l ++ e) (grows os (a ++ b ++ c) d (grows os (a ++ b) c (grows os a b p q) r) s) ∙ append_assoc os (a ++ b ++ c ++ d) e

-- what is said of a flow that stays
pub flow_said : (c : ℕ) (t : Tag) (f : FlowValue) → is_removed f.status ≡ false
    → given_fact (OfFlow c f.number FlowDescriptions) t Filters f.filters
    ++ given_fact (OfFlow c f.number FlowUsage) t Number f.usage
    ++ given_fact (OfFlow c f.number FlowStatus) t Number f.status
    ++ given_fact (OfFlow c f.number FlowRateUp) t Number f.rate_up
    ++ given_fact (OfFlow c f.number FlowRateDown) t Number f.rate_down
    ≡ flow_facts c t f
flow_said c t f stays = rw stays refl

-- and of a component
pub component_said : (t : Tag) (c : ComponentValue) → is_removed c.status ≡ false
    → given_fact (OfComponent c.number MediaType) t Number c.media
    ++ given_fact (OfComponent c.number ComponentStatus) t Number c.status
    ++ given_fact (OfComponent c.number ComponentRateUp) t Number c.rate_up
    ++ given_fact (OfComponent c.number ComponentRateDown) t Number c.rate_down
    ++ flat_map (flow_facts c.number t) c.flows
    ≡ component_facts t c
component_said t c stays = rw stays refl
