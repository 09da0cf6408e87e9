-- Requests of the base protocol as they are read: Capabilities-Exchange-Request, Device-Watchdog-Request and Disconnect-Peer-Request
-- (RFC 6733, 5.3.1, 5.5.1 and 5.4.1), in this project's profile.
use Rattle.std.specs.Prelude.{ℕ, ◌==◌, if◌then◌else◌, List, [], ◌∷◌, ◌++◌, map, unwrap_or, None}
use Rattle.std.specs.List.{flat_map}
use Rattle.dia_codec.specs.Fields.{AvpValue, word_at}
use Rattle.dia_codec.specs.Reading.{avps_of}
use Rattle.pcrf_model.specs.Requests.{BaseKind, CapabilitiesExchange, DeviceWatchdog, DisconnectPeer, BaseValue}
use Rattle.dia_base.specs.Avps.{auth_application_id, origin_host, origin_realm}
use Rattle.dia_base.specs.Origins.{origin_rows}
use Rattle.dia_base.specs.Rows.{Row, Kind, repeated, unsigned32, grouped, values_of, text_at}
use Rattle.dia_base.specs.NeighbourAvps.{capabilities_exchange_command, device_watchdog_command, vendor_specific_application_id}
use Rattle.dia_base.specs.declared.neighbours.applications.ApplicationId.{ApplicationId}
use Rattle.dia_base.specs.declared.neighbours.request.BaseRequest.{BaseRequest}
use Rattle.dia_base.specs.declared.neighbours.request.BaseKind as code
use Rattle.dia_base.specs.declared.neighbours.request.BaseKind.TheVariants as kind

-- ---- the tables

-- Auth-Application-Id (6.8), any number of times
abbrev pub application_row : Row
application_row = repeated auth_application_id None unsigned32

-- alone
abbrev pub alone_rows : List Row
alone_rows = application_row ∷ []

-- Vendor-Specific-Application-Id (6.11), in which it may stand too
abbrev pub vendor_application : Kind
vendor_application = grouped alone_rows

-- any number of them
abbrev pub vendor_application_row : Row
vendor_application_row = repeated vendor_specific_application_id None vendor_application

-- what a peer advertises
abbrev pub application_rows : List Row
application_rows = alone_rows ++ vendor_application_row ∷ []

-- what a command has besides the origin
abbrev pub kind_rows : ℕ → List Row
kind_rows command = if command == capabilities_exchange_command then application_rows else []

-- the table of a command, in the order in which the rows are judged
abbrev pub base_rows : ℕ → List Row
base_rows command = origin_rows ++ kind_rows command

-- ---- what is read

-- an application
abbrev pub application : List ℕ → ApplicationId
application value = record { number = word_at value 0 }

-- those that stand among AVPs
abbrev pub applications_among : List AvpValue → List ApplicationId
applications_among avps = map application (values_of auth_application_id avps)

-- those of a vendor
abbrev pub vendor_applications : List ℕ → List ApplicationId
vendor_applications value = applications_among (unwrap_or (avps_of value) [])

-- all that are advertised: each by itself, and then those of each vendor
abbrev pub applications_of : List AvpValue → List ApplicationId
applications_of avps = applications_among avps ++ flat_map vendor_applications (values_of vendor_specific_application_id avps)

-- its number
abbrev pub number_of : ApplicationId → ℕ
number_of a = a.number

-- what a command asks for; one that is neither of the first two asks for the end of the connection
abbrev pub kind_of : ℕ → List AvpValue → BaseKind
kind_of command avps =
    if command == capabilities_exchange_command then CapabilitiesExchange (map number_of (applications_of avps)) else
    if command == device_watchdog_command then DeviceWatchdog else
    DisconnectPeer

-- what AVPs that aren't refused ask for
abbrev pub base_of : ℕ → List AvpValue → BaseValue
base_of command avps = record { kind = kind_of command avps; host = text_at origin_host avps; realm = text_at origin_realm avps }

-- ---- requests of the code, as the definitions have them

abbrev pub kind_view : code.BaseKind → BaseKind
kind_view (kind.CapabilitiesExchange applications) = CapabilitiesExchange (map number_of applications.items)
kind_view kind.DeviceWatchdog = DeviceWatchdog
kind_view kind.DisconnectPeer = DisconnectPeer

abbrev pub base_view : BaseRequest → BaseValue
base_view q = record { kind = kind_view q.kind; host = q.origin.host; realm = q.origin.realm }
