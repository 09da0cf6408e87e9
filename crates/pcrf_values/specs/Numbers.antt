-- The numbers by which the standards name the values of an enumeration, and numbers within a range.
use Rattle.std.specs.Prelude.{ℕ, Option, Some, None, if◌then◌else◌, ◌&&◌, ◌==◌, nat_le}
use Rattle.pcrf_values.specs.declared.numbers.RequestKind.{RequestKind}
use Rattle.pcrf_values.specs.declared.numbers.RequestKind.TheVariants as request
use Rattle.pcrf_values.specs.declared.subscribers.SubscriptionType.{SubscriptionType}
use Rattle.pcrf_values.specs.declared.subscribers.SubscriptionType.TheVariants as subscription
use Rattle.pcrf_values.specs.declared.rule.FlowStatus.{FlowStatus}
use Rattle.pcrf_values.specs.declared.rule.FlowStatus.TheVariants as flow
use Rattle.pcrf_values.specs.declared.numbers.FlowUsage.{FlowUsage}
use Rattle.pcrf_values.specs.declared.numbers.FlowUsage.TheVariants as usage
use Rattle.pcrf_values.specs.declared.rule.Preemption.{Preemption}
use Rattle.pcrf_values.specs.declared.rule.Preemption.TheVariants as preemption

-- Subscription-Id-Type (RFC 8506, 8.47)
abbrev pub subscription_number : SubscriptionType → ℕ
subscription_number subscription.EndUserE164 = 0
subscription_number subscription.EndUserImsi = 1
subscription_number subscription.EndUserSipUri = 2
subscription_number subscription.EndUserNai = 3
subscription_number subscription.EndUserPrivate = 4

-- CC-Request-Type as far as Gx has it: INITIAL_REQUEST, UPDATE_REQUEST, TERMINATION_REQUEST (RFC 8506, 8.3)
abbrev pub request_kind_number : RequestKind → ℕ
request_kind_number request.Initial = 1
request_kind_number request.Update = 2
request_kind_number request.Termination = 3

-- the kind that has a number
abbrev pub request_kind_of : ℕ → Option RequestKind
request_kind_of n =
    if n == request_kind_number request.Initial then Some request.Initial else
    if n == request_kind_number request.Update then Some request.Update else
    if n == request_kind_number request.Termination then Some request.Termination else None

-- Flow-Status (TS 29.214, 5.3.11)
abbrev pub flow_status_number : FlowStatus → ℕ
flow_status_number flow.EnabledUplink = 0
flow_status_number flow.EnabledDownlink = 1
flow_status_number flow.Enabled = 2
flow_status_number flow.Disabled = 3

-- the status of a number, of another one DISABLED
abbrev pub flow_status_of : ℕ → FlowStatus
flow_status_of n =
    if n == flow_status_number flow.EnabledUplink then flow.EnabledUplink else
    if n == flow_status_number flow.EnabledDownlink then flow.EnabledDownlink else
    if n == flow_status_number flow.Enabled then flow.Enabled else flow.Disabled

-- the Flow-Status that removes a component or a flow (TS 29.214, 5.3.11)
abbrev pub flow_status_removed : ℕ
flow_status_removed = 4

-- Flow-Usage (TS 29.214, 5.3.12)
abbrev pub flow_usage_number : FlowUsage → ℕ
flow_usage_number usage.NoInformation = 0
flow_usage_number usage.Rtcp = 1
flow_usage_number usage.AfSignalling = 2

-- the usage of a number, of another one AF_SIGNALLING
abbrev pub flow_usage_of : ℕ → FlowUsage
flow_usage_of n =
    if n == flow_usage_number usage.NoInformation then usage.NoInformation else
    if n == flow_usage_number usage.Rtcp then usage.Rtcp else usage.AfSignalling

-- Pre-emption-Capability and Pre-emption-Vulnerability (TS 29.212, 5.3.46 and 5.3.47)
abbrev pub preemption_number : Preemption → ℕ
preemption_number preemption.Enabled = 0
preemption_number preemption.Disabled = 1

-- the number, where it is from least to most
abbrev pub number_within : ℕ → ℕ → ℕ → Option ℕ
number_within least most n = if nat_le least n && nat_le n most then Some n else None
