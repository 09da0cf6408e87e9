-- The tables of requests: those that are made of grammars, and those by which requests are read.
use Rattle.std.specs.Prelude.{◌≡◌}
use Rattle.dia_base.specs.NeighbourRequests.{base_rows}
use Rattle.dia_base.specs.NeighbourAvps.{capabilities_exchange_command, device_watchdog_command, disconnect_peer_command}
use Rattle.site_core.specs.Grammars.{depth, table_within}
use Rattle.site_core.specs.declared.failed_avps.grammar.Grammar.TheVariants.{CapabilitiesExchange, PeerCommand, CreditControl, Authorization, SessionTermination}
use Rattle.gx_profile.specs.Requests.{ccr_rows}
use Rattle.rx_profile.specs.Requests.{aar_rows}
use Rattle.rx_profile.specs.Terminations.{str_rows}

-- each grammar of a request is the table of its command
pub record GrammarsAreTables : Type 0 where
  pub credit_control : table_within depth CreditControl ≡ ccr_rows
  pub authorization : table_within depth Authorization ≡ aar_rows
  pub session_termination : table_within depth SessionTermination ≡ str_rows
  pub capabilities_exchange : table_within depth CapabilitiesExchange ≡ base_rows capabilities_exchange_command
  pub device_watchdog : table_within depth PeerCommand ≡ base_rows device_watchdog_command
  pub disconnect_peer : table_within depth PeerCommand ≡ base_rows disconnect_peer_command
