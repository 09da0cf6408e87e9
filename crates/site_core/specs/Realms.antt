-- What a frame asks of a node with a realm (RFC 6733, 6.1.4 and 7.1.3): this node passes nothing on, so in the standards' form it refuses a
-- request for another realm. A request for another host of its realm is served, since sites answer for each other. In that form it also
-- refuses a request with an AVP that has to be understood and isn't (4.1, 7.1.5), and one whose Session-Id isn't UTF-8 (4.3.1, 8.8).
use Rattle.std.specs.Prelude.{◌≡◌, ℕ, not, Bool, false, ◌&&◌, if◌then◌else◌, List, take, Option, Some, None, Result, Ok, Err}
use Rattle.std.specs.Str.{bytes_eq}
use Rattle.std.proofs.Common.{option_and_then}
use Rattle.pcrf_values.specs.declared.refusal.Refusal.{Refusal}
use Rattle.pcrf_values.specs.Limits.{identity_limit}
use Rattle.pcrf_values.specs.Results.{base_result, invalid_avp_value}
use Rattle.pcrf_values.specs.Texts.{one_to, small_letters}
use Rattle.dia_codec.specs.declared.fault.MsgFault.{MsgFault}
use Rattle.dia_codec.specs.declared.message.Header.{Header}
use Rattle.dia_codec.specs.Fields.{AvpValue, MessageValue, header_of}
use Rattle.dia_codec.specs.Limits.{header_bytes}
use Rattle.dia_codec.specs.Reading.{message_of}
use Rattle.dia_base.specs.Avps.{destination_realm}
use Rattle.dia_base.specs.Rows.{value_of}
use Rattle.dia_base.specs.declared.form.MessageForm.{MessageForm}
use Rattle.dia_base.specs.declared.form.MessageForm.TheVariants.{Own, Standard}
use Rattle.dia_base.specs.declared.identity.Identity.{Identity}
use Rattle.site_core.specs.SessionIds.{has_ill_formed_session, is_for_next_node, is_standard, repeatable}
use Rattle.site_core.specs.Unsupported.{avp_unsupported, has_unsupported}
use Rattle.site_core.specs.Asking.{AskedValue, ToServe, ToRefuse, Nothing, command_of, meaning_of_command, meaning_of_frame, meaning_of_request, session_among}

-- DIAMETER_REALM_NOT_SERVED
abbrev pub realm_not_served : Refusal
realm_not_served = base_result 3003

-- the Destination-Realm, unless it is empty or too long
abbrev pub realm_among : List AvpValue → Option (List ℕ)
realm_among avps = option_and_then (one_to identity_limit) (value_of destination_realm avps)

-- a realm is the node's own, whatever the case of its letters (4.3.1, DiameterIdentity; RFC 4343)
abbrev pub is_own_realm : Identity → List ℕ → Bool
is_own_realm i realm = bytes_eq (small_letters realm) (small_letters i.realm)

abbrev pub is_other_realm : Identity → Option (List ℕ) → Bool
is_other_realm i None = false
is_other_realm i (Some realm) = not (is_own_realm i realm)

-- a request is for another realm, which a node looks at in the standards' form alone
abbrev pub is_for_another : Identity → MessageValue → Bool
is_for_another i m = is_standard i.form && not (is_for_next_node m.header) && is_other_realm i (realm_among m.avps)

-- a node understands each AVP of a request that it has to, which it looks at in the standards' form alone
abbrev pub is_understood : Identity → MessageValue → Bool
is_understood i m = not (is_standard i.form && has_unsupported m.header m.avps)

-- the Session-Id of a request isn't of its type, which a node looks at in the standards' form alone
abbrev pub is_ill_named : Identity → MessageValue → Bool
is_ill_named i m = is_standard i.form && has_ill_formed_session m.header m.avps

-- by a request that isn't for another realm: one that is served is refused where an AVP isn't understood, and then where its Session-Id
-- isn't of its type, as if the first row of its table judged that
abbrev pub meaning_here : Identity → MessageValue → AskedValue
meaning_here i m =
    if not (is_understood i m) then ToRefuse m.header (session_among m.avps) avp_unsupported else
    if is_ill_named i m then ToRefuse m.header (session_among m.avps) invalid_avp_value else
    meaning_of_command m (command_of m.header)

-- by a request's frame, of which this is read
abbrev pub meaning_by_realm : Identity → List ℕ → Result MessageValue MsgFault → AskedValue
meaning_by_realm i frame (Ok m) =
    if is_for_another i m then ToRefuse m.header (session_among m.avps) realm_not_served else meaning_here i m
meaning_by_realm i frame (Err fault) = meaning_of_request frame (Err fault)

-- What a frame asks of a node, whichever Session-Id its answer repeats: a request for another realm is refused where it could be cut into
-- AVPs, before its application, its command and its table are looked at; then one of a command that is served, where an AVP isn't
-- understood or the Session-Id isn't UTF-8, before its table is; all others are as for every node.
unfoldable pub judged_at : Identity → List ℕ → AskedValue
judged_at i frame =
    if (header_of (take header_bytes frame)).flags.request then meaning_by_realm i frame (message_of frame) else Nothing

-- the Session-Id of a refused request that its answer repeats in this form
abbrev pub session_in : MessageForm → Header → Option (List ℕ) → Option (List ℕ)
session_in Own h session = session
session_in Standard h session = repeatable h session

-- what is asked, with the Session-Id that an answer in this form repeats
abbrev pub repeated_in : MessageForm → AskedValue → AskedValue
repeated_in form (ToServe h request) = ToServe h request
repeated_in form (ToRefuse h session refusal) = ToRefuse h (session_in form h session) refusal
repeated_in form Nothing = Nothing

-- what a frame asks of a node
unfoldable pub meaning_at : Identity → List ℕ → AskedValue
meaning_at i frame = repeated_in i.form (judged_at i frame)

-- in this project's own form a frame asks for the same in every realm, whatever AVPs are recognized
abbrev pub OwnFormServesEveryRealm : Type 0
OwnFormServesEveryRealm = (i : Identity) (frame : List ℕ) → i.form ≡ Own → meaning_at i frame ≡ meaning_of_frame frame
