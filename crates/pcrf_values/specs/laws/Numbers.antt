-- A value of an enumeration is the value of its number.
use Rattle.std.specs.Prelude.{◌≡◌, refl}
use Rattle.pcrf_values.specs.declared.rule.FlowStatus.{FlowStatus}
use Rattle.pcrf_values.specs.declared.rule.FlowStatus.TheVariants as flow
use Rattle.pcrf_values.specs.declared.numbers.FlowUsage.{FlowUsage}
use Rattle.pcrf_values.specs.declared.numbers.FlowUsage.TheVariants as usage
use Rattle.pcrf_values.specs.Numbers.{flow_status_number, flow_status_of, flow_usage_number, flow_usage_of}

-- of a Flow-Status
pub status_of_its_number : (x : FlowStatus) → flow_status_of (flow_status_number x) ≡ x
status_of_its_number flow.EnabledUplink = refl
status_of_its_number flow.EnabledDownlink = refl
status_of_its_number flow.Enabled = refl
status_of_its_number flow.Disabled = refl

-- of a Flow-Usage
pub usage_of_its_number : (x : FlowUsage) → flow_usage_of (flow_usage_number x) ≡ x
usage_of_its_number usage.NoInformation = refl
usage_of_its_number usage.Rtcp = refl
usage_of_its_number usage.AfSignalling = refl
