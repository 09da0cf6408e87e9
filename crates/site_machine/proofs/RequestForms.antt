-- Requests by their parts have the form of requests.
use Rattle.std.proofs.Common.{◌≡◌, ℕ, Bool, true, false, not, ◌&&◌, ◌||◌, ◌==◌, List, [], ◌∷◌, Option, Some, None, refl, ap, option_map}
use Rattle.std.specs.List.{list_any, list_all}
use Rattle.pcrf_values.proofs.Plain.{both}
use Rattle.pcrf_values.specs.Results.{invalid_service_information}
use Rattle.pcrf_values.specs.Numbers.{flow_status_number, flow_usage_number}
use Rattle.pcrf_values.specs.declared.rule.FlowStatus.{FlowStatus}
use Rattle.pcrf_values.specs.declared.rule.FlowStatus.TheVariants as flow_status
use Rattle.pcrf_values.specs.declared.numbers.FlowUsage.{FlowUsage}
use Rattle.pcrf_values.specs.declared.numbers.FlowUsage.TheVariants as usage
use Rattle.pcrf_model.specs.Requests.{FlowValue, ComponentValue}
use Rattle.pcrf_model.specs.Forms.{is_within, is_unsigned, is_none_or, are_filters, is_usage, is_flow, are_apart, is_component}
use Rattle.rx_profile.specs.Numbers.{media_status_number}
use Rattle.rx_profile.specs.declared.media.MediaStatus.{MediaStatus}
use Rattle.rx_profile.specs.declared.media.MediaStatus.TheVariants as status
use Rattle.rx_profile.specs.declared.media.FlowParts.{FlowParts}
use Rattle.rx_profile.specs.declared.media.ComponentParts.{ComponentParts}
use Rattle.rx_profile.specs.Services.{repeats, flow_numbers, component_numbers, numbers_refusal, repeat_refusal, flow_numbers_refusal}
use Rattle.rx_profile.specs.Values.{flow_value, component_value}
use Rattle.dia_base.specs.Rows.{refusal_among}
use Rattle.site_machine.proofs.Apart.{neither, neither_refuses, unless_refused}

-- numbers of which none comes twice differ
pub apart_by_test : (ns : List ℕ) → repeats ns ≡ false → are_apart ns ≡ true
apart_by_test [] h = refl
apart_by_test (n ∷ ns) h = let two = neither (list_any (λ m. m == n) ns) (repeats ns) h in both _ _ (ap not two.0) (apart_by_test ns two.1)

-- so do those of components that are not refused
pub components_apart : (cs : List ComponentValue) → numbers_refusal cs ≡ None → are_apart (component_numbers cs) ≡ true
components_apart cs h =
    let two = neither_refuses (repeat_refusal (component_numbers cs)) (refusal_among flow_numbers_refusal cs) h in
    apart_by_test (component_numbers cs) (unless_refused (repeats (component_numbers cs)) invalid_service_information two.0)

-- a usage has one of three numbers
usage_passes : (u : Option FlowUsage) → is_none_or is_usage (option_map flow_usage_number u) ≡ true
usage_passes None = refl
usage_passes (Some usage.NoInformation) = refl
usage_passes (Some usage.Rtcp) = refl
usage_passes (Some usage.AfSignalling) = refl

-- a status one of five
open_passes : (s : FlowStatus) → is_within 0 4 (flow_status_number s) ≡ true
open_passes flow_status.EnabledUplink = refl
open_passes flow_status.EnabledDownlink = refl
open_passes flow_status.Enabled = refl
open_passes flow_status.Disabled = refl

status_passes : (s : Option MediaStatus) → is_none_or (is_within 0 4) (option_map media_status_number s) ≡ true
status_passes None = refl
status_passes (Some (status.Open s)) = open_passes s
status_passes (Some status.Removed) = refl

-- a flow
pub flow_in_form : (p : FlowParts) (filters : Option (List (List ℕ))) → is_unsigned p.number ≡ true → is_none_or are_filters filters ≡ true → is_none_or is_unsigned p.rates.up ≡ true
    → is_none_or is_unsigned p.rates.down ≡ true → is_flow (flow_value p filters) ≡ true
flow_in_form p filters number texts up down = both _ _ (both _ _ (both _ _ (both _ _ (both _ _ number texts) (usage_passes p.usage)) (status_passes p.status)) up) down

-- a component
pub component_in_form : (p : ComponentParts) (flows : List FlowValue) → is_unsigned p.number ≡ true → is_none_or is_unsigned p.media_type ≡ true → is_none_or is_unsigned p.rates.up ≡ true
    → is_none_or is_unsigned p.rates.down ≡ true → list_all is_flow flows ≡ true → repeats (flow_numbers flows) ≡ false → is_component (component_value p flows) ≡ true
component_in_form p flows number media up down each apart =
    both _ _ (both _ _ (both _ _ (both _ _ (both _ _ (both _ _ number media) (status_passes p.status)) up) down) each) (apart_by_test (flow_numbers flows) apart)
