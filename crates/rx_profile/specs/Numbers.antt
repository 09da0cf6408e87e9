-- The numbers by which the standard names the values of an enumeration (TS 29.214).
use Rattle.std.specs.Prelude.{ℕ, List, [], ◌∷◌}
use Rattle.pcrf_values.specs.Numbers.{flow_status_number, flow_usage_number}
use Rattle.pcrf_values.specs.declared.rule.FlowStatus.TheVariants.{EnabledUplink}
use Rattle.pcrf_values.specs.declared.numbers.FlowUsage.TheVariants.{NoInformation, AfSignalling}
use Rattle.dia_base.specs.Rows.{Row, optional, enumerated, unsigned32}
use Rattle.rx_profile.specs.Avps.{flow_status, flow_usage, max_requested_bandwidth_ul, max_requested_bandwidth_dl}
use Rattle.rx_profile.specs.declared.media.MediaStatus.{MediaStatus}
use Rattle.rx_profile.specs.declared.media.MediaStatus.TheVariants.{Open, Removed}

-- Flow-Status (5.3.11): that of a rule, or REMOVED
abbrev pub media_status_number : MediaStatus → ℕ
media_status_number (Open status) = flow_status_number status
media_status_number Removed = 4

-- Flow-Status, from ENABLED-UPLINK to REMOVED
abbrev pub status_row : Row
status_row = optional flow_status (enumerated (flow_status_number EnabledUplink) (media_status_number Removed))

-- Flow-Usage, from NO_INFORMATION to AF_SIGNALLING
abbrev pub usage_row : Row
usage_row = optional flow_usage (enumerated (flow_usage_number NoInformation) (flow_usage_number AfSignalling))

-- Max-Requested-Bandwidth-UL, and then Max-Requested-Bandwidth-DL
abbrev pub rate_rows : List Row
rate_rows = optional max_requested_bandwidth_ul unsigned32 ∷ optional max_requested_bandwidth_dl unsigned32 ∷ []
