-- The refusals by what a site holds, in order: the first that applies counts.
use Rattle.std.specs.Prelude.{ℕ, ◌==◌, Bool, false, if◌then◌else◌, not, ◌&&◌, ◌||◌, List, [], ◌∷◌, ◌++◌, Option, Some, None, is_none}
use Rattle.std.proofs.Common.{option_map, unwrap_or}
use Rattle.std.specs.List.{list_any}
use Rattle.pcrf_values.specs.Applications.{gx_application, rx_application, relay_application}
use Rattle.pcrf_values.specs.Results.{unknown_session_id, authorization_rejected, missing_avp, no_common_application, unable_to_comply, service_not_authorized, session_not_available, initial_parameters}
use Rattle.pcrf_values.specs.declared.refusal.Refusal.{Refusal}
use Rattle.pcrf_values.specs.declared.numbers.RequestKind.{RequestKind}
use Rattle.pcrf_values.specs.declared.numbers.RequestKind.TheVariants.{Initial, Update, Termination}
use Rattle.pcrf_values.specs.Limits.{last_counter}
use Rattle.pcrf_model.specs.Sessions.{gx, af}
use Rattle.pcrf_model.specs.Holdings.{Holding, under}
use Rattle.pcrf_model.specs.Views.{View, view}
use Rattle.pcrf_model.specs.Live.{is_live}
use Rattle.pcrf_model.specs.Bindings.{bind}
use Rattle.pcrf_model.specs.Tables.{Tables, media_class, apn_row}
use Rattle.pcrf_model.specs.Requests.{gives_no_address, CcrValue, ComponentValue, AarValue, StrValue, BaseKind, CapabilitiesExchange, DeviceWatchdog, DisconnectPeer}
use Rattle.pcrf_model.specs.Making.{is_removed, aar_facts, next_tag}

-- the first refusal whose cause stands
abbrev pub first_cause : List (Bool × Refusal) → Option Refusal
first_cause [] = None
first_cause (x ∷ xs) = if x.0 then Some x.1 else first_cause xs

-- no counter is left
abbrev pub is_clock_full : Holding → Bool
is_clock_full h = h.clock == last_counter

-- the tables have no row of that access point
abbrev pub has_no_row : Tables → List ℕ → Bool
has_no_row t name = is_none (apn_row t name)

-- the request names an access point without a row
abbrev pub names_no_row : Tables → Option (List ℕ) → Bool
names_no_row t apn = unwrap_or (option_map (has_no_row t) apn) false

-- an initial request has to say where its user is reached, the access point and the subscribers
-- (TS 29.212, 4.5.1)
abbrev pub lacks_parameters : CcrValue → Bool
lacks_parameters q = gives_no_address q.user || is_none q.user.apn || is_none q.user.subscribers

-- of a credit control request, by its type
abbrev pub ccr_causes : Tables → Holding → View → CcrValue → RequestKind → List (Bool × Refusal)
ccr_causes t h v q Initial =
    (v.ended (gx q.session), unknown_session_id)
    ∷ (lacks_parameters q, initial_parameters)
    ∷ (names_no_row t q.user.apn, authorization_rejected)
    ∷ (is_clock_full h, unable_to_comply) ∷ []
ccr_causes t h v q Update =
    (not (is_live v (gx q.session)), unknown_session_id)
    ∷ (names_no_row t q.user.apn, authorization_rejected)
    ∷ (is_clock_full h, unable_to_comply) ∷ []
ccr_causes t h v q Termination =
    (not (is_live v (gx q.session)), unknown_session_id)
    ∷ (is_clock_full h, unable_to_comply) ∷ []

-- the refusal of a credit control request, if it is refused
unfoldable pub ccr_refusal : Tables → Holding → CcrValue → Option Refusal
ccr_refusal t h q = first_cause (ccr_causes t h (view h.facts) q q.kind)

-- a component that is not removed has a Media-Type without a row
abbrev pub has_no_class : Tables → ComponentValue → Bool
has_no_class t c = not (is_removed c.status) && unwrap_or (option_map (λ m. is_none (media_class t m)) c.media) false

-- with the facts of the request added, its session is bound to none (TS 29.213, 5.2)
abbrev pub binds_to_none : ℕ → Holding → AarValue → Bool
binds_to_none i h q = is_none (bind (view (h.facts ++ under (af q.session) (aar_facts q (next_tag i h 0)))) (af q.session))

-- of an AA request
abbrev pub aar_causes : Tables → ℕ → Holding → View → AarValue → List (Bool × Refusal)
aar_causes t i h v q =
    (v.ended (af q.session), unknown_session_id)
    ∷ (not (is_live v (af q.session)) && gives_no_address q.user, missing_avp)
    ∷ (list_any (has_no_class t) q.components, service_not_authorized)
    ∷ (binds_to_none i h q, session_not_available)
    ∷ (is_clock_full h, unable_to_comply) ∷ []

-- the refusal of an AA request, if it is refused
unfoldable pub aar_refusal : Tables → ℕ → Holding → AarValue → Option Refusal
aar_refusal t i h q = first_cause (aar_causes t i h (view h.facts) q)

-- the refusal of a session termination request, if it is refused
unfoldable pub str_refusal : Holding → StrValue → Option Refusal
str_refusal h q = first_cause ((not (is_live (view h.facts) (af q.session)), unknown_session_id) ∷ (is_clock_full h, unable_to_comply) ∷ [])

-- an application that a site serves, or a relay's
abbrev pub is_common : ℕ → Bool
is_common a = a == gx_application || a == rx_application || a == relay_application

-- a capabilities exchange has to advertise an application in common (RFC 6733, 5.3)
abbrev pub base_refusal : BaseKind → Option Refusal
base_refusal (CapabilitiesExchange applications) = if list_any is_common applications then None else Some no_common_application
base_refusal DeviceWatchdog = None
base_refusal DisconnectPeer = None
